use Rattle.laws.proofs.ValueTrees.{values_read}
use Rattle.laws.proofs.runs.values_read.Goals as goal

pub returns : goal.returns
returns c = values_read
