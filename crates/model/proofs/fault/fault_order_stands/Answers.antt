use Rattle.model.proofs.FaultOrder.{total_order}
use Rattle.model.proofs.fault.fault_order_stands.Goals as goal

pub returns : goal.returns
returns c = total_order
