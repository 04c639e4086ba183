use Rattle.laws.proofs.Agreement.{walks_agree}
use Rattle.laws.proofs.walks.walks_agree.Goals as goal

pub returns : goal.returns
returns c = walks_agree
