use Rattle.laws.proofs.TypeTrees.{types_read}
use Rattle.laws.proofs.runs.types_read.Goals as goal

pub returns : goal.returns
returns c = types_read
