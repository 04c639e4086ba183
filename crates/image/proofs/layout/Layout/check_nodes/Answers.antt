use Rattle.model.specs.Images.{node_there}
use Rattle.model.proofs.Turns.{each_on}
use Rattle.image.proofs.layout.Layout.check_nodes.Goals as goal

pub loop-j-preserved : goal.loop-j-preserved
loop-j-preserved c =
    let s = c.args.self.now in
    each_on (node_there s.bytes.now s.header.entities) _ _ c.loop-j-test.true c.in_ok-check_node.ensures c.loop-j.invariant
