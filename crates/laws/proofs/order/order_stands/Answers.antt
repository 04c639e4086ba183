use Rattle.laws.proofs.Inserting.{order_laws}
use Rattle.laws.proofs.order.order_stands.Goals as goal

pub returns : goal.returns
returns c = order_laws
