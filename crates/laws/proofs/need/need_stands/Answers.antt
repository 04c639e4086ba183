use Rattle.laws.proofs.Merging.{need_laws}
use Rattle.laws.proofs.need.need_stands.Goals as goal

pub returns : goal.returns
returns c = need_laws
