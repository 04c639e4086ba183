use Rattle.laws.proofs.EntityRuns.{entities_read}
use Rattle.laws.proofs.runs.entities_read.Goals as goal

pub returns : goal.returns
returns c = entities_read
