-- The place of a uid in a list of entities.
use Rattle.std.specs.Prelude.{ℕ, ◌+◌, cond, List, [], ◌∷◌, Some, None, Option}
use Rattle.std.specs.declared.cmp.Ordering.{Ordering}
use Rattle.std.specs.declared.cmp.Ordering.TheVariants.{Less, Equal, Greater}
use Rattle.model.specs.Slots.{Uid, uid_below}
use Rattle.model.specs.Entities.{Entity}
use Rattle.model.specs.Schemas.{same_uid}

-- the first place of a uid, where the list begins at the place i
abbrev pub place_from : ℕ → List Entity → Uid → Option ℕ
place_from i [] u = None
place_from i (e ∷ es) u = cond (same_uid e.uid u) (Some i) (place_from (i + 1) es u)

-- the first place of a uid in a list
abbrev pub place_of : List Entity → Uid → Option ℕ
place_of es u = place_from 0 es u

-- how the uid of an entity compares with another, where there is an entity
abbrev pub compared : Option Entity → Uid → Option Ordering
compared None u = None
compared (Some e) u = Some (cond (uid_below e.uid u) Less (cond (uid_below u e.uid) Greater Equal))
