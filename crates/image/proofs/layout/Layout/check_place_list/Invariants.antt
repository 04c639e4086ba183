use Rattle.std.proofs.Common.{◌≡◌, ◌-◌}
use Rattle.model.specs.Checks.{each}
use Rattle.model.specs.Images.{entry}
use Rattle.image.proofs.layout.Layout.check_place_list.Given as goal

-- the checks that are left give the answer
abbrev pub invariant-loop-k : goal.invariant-loop-k
invariant-loop-k l =
    each (entry l.self.bytes.now l.self.header.nodes) (l.self.header.entities - l.k) l.k
    ≡ each (entry l.self.bytes.now l.self.header.nodes) l.self.header.entities 0
