use Rattle.laws.proofs.ImageRuns.{images_read}
use Rattle.laws.proofs.runs.images_read.Goals as goal

pub returns : goal.returns
returns c = images_read
