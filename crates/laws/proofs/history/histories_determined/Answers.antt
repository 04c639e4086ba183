use Rattle.laws.proofs.Served.{histories_determined}
use Rattle.laws.proofs.history.histories_determined.Goals as goal

pub returns : goal.returns
returns c = histories_determined
