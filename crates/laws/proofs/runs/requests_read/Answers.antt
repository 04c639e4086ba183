use Rattle.laws.proofs.RequestRuns.{requests_read}
use Rattle.laws.proofs.runs.requests_read.Goals as goal

pub returns : goal.returns
returns c = requests_read
