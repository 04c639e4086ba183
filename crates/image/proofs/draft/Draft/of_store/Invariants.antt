use Rattle.std.proofs.Common.{◌≡◌, length, take}
use Rattle.image.specs.Drafts.{Drafted}
use Rattle.image.proofs.draft.Draft.of_store.Given as goal

-- the entities before the place are written; the buffer stays as long as it is
abbrev pub invariant-loop-place : goal.invariant-loop-place
invariant-loop-place g l = Drafted (take l.place (g.S.Store.entities l.store)) l.draft × (length l.buffer ≡ 4096)
