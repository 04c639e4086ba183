use Rattle.std.proofs.Common.{◌≡◌, ◌++◌, take, vec_items}
use Rattle.model.specs.Stores.{AllFitParts}
use Rattle.model.specs.Images.{node_bytes, joined}
use Rattle.image.proofs.push.push_nodes.Given as goal

-- the nodes so far
abbrev pub invariant-loop-node : goal.invariant-loop-node
invariant-loop-node l =
    (vec_items l.out ≡ vec_items l.initial.out ++ joined node_bytes (take l.node-index l.nodes)) × AllFitParts (take l.node-index l.nodes)
