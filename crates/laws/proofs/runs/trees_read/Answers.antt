use Rattle.laws.proofs.ReadsOnly.{trees_read}
use Rattle.laws.proofs.runs.trees_read.Goals as goal

pub returns : goal.returns
returns c = trees_read
