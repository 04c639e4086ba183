use Rattle.std.proofs.Common.{vec_items}
use Rattle.model.specs.Images.{node_bytes}
use Rattle.image.proofs.BytesOut.{blank, one_more, fit_more}
use Rattle.image.proofs.push.push_nodes.Goals as goal

pub loop-node-preserved : goal.loop-node-preserved
loop-node-preserved c =
    let nodes = c.args.nodes.now in
    let i = c.loop-node.node-index in (
      one_more node_bytes nodes i blank (vec_items c.args.out.now) _ _ c.loop-node-test.true c.loop-node.invariant.0 c.in_ok-push_node.ensures.pushed,
      fit_more nodes i blank c.loop-node-test.true c.loop-node.invariant.1 c.in_ok-push_node.ensures.fitting,
    )
