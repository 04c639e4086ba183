-- The header as the reader hands it out.
use Rattle.std.specs.Prelude.{ℕ, ◌+◌, ◌-◌, List}
use Rattle.model.specs.declared.fault.Layer.TheVariants.{Image}
use Rattle.model.specs.Faults.{placed}
use Rattle.model.specs.Images.{entity_count, node_count, node_offset}
use Rattle.store.specs.Entries.{Telling}
use Rattle.image.specs.declared.frame.Header.{Header}

-- how many entities and nodes the header announces
abbrev pub announced : List ℕ → Header
announced bs = record { entities = entity_count bs; nodes = node_count bs }

-- an image of so many entities tells a refusal by the offset of the node
abbrev pub by_offset : ℕ → Telling
by_offset entities k first p r = placed r Image (node_offset entities (first + p - 1))
