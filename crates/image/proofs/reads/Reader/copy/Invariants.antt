use Rattle.std.proofs.Common.{◌≡◌, ◌++◌, map, drop}
use Rattle.std.specs.List.{range_with_len}
use Rattle.model.specs.Images.{image_node}
use Rattle.image.proofs.reads.Reader.copy.Given as goal

-- the nodes so far, and the rest of the room as it was
abbrev pub invariant-loop-i : goal.invariant-loop-i
invariant-loop-i l = l.room ≡ map (image_node l.self.layout.bytes.now) (range_with_len l.run.start l.i) ++ drop l.i l.initial.room
