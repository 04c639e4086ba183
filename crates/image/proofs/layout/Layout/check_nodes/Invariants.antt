use Rattle.std.proofs.Common.{◌≡◌, ◌-◌}
use Rattle.model.specs.Checks.{each}
use Rattle.model.specs.Images.{node_there}
use Rattle.image.proofs.layout.Layout.check_nodes.Given as goal

-- the checks that are left give the answer
abbrev pub invariant-loop-j : goal.invariant-loop-j
invariant-loop-j l =
    each (node_there l.self.bytes.now l.self.header.entities) (l.self.header.nodes - l.j) l.j
    ≡ each (node_there l.self.bytes.now l.self.header.entities) l.self.header.nodes 0
