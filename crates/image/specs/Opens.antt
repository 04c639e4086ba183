-- What opening an image answers, in words of lists of entities.
use Rattle.std.specs.Prelude.{◌≡◌, ℕ, List, Some}
use Rattle.model.specs.Entities.{Entity}
use Rattle.model.specs.Stores.{RunsFitParts}
use Rattle.model.specs.Checks.{good, then}
use Rattle.model.specs.Images.{entity_count, node_count, header, place_list, image_fault, image_of}
use Rattle.model.specs.Fitting.{Storable}
use Rattle.image.specs.declared.error.ImageError.{ImageError}
use Rattle.image.specs.declared.error.ImageError.TheVariants.{Fault, NoMemory}

-- the bytes are those of a list that fits, whose nodes fit their parts
abbrev pub BytesOf : List ℕ → List Entity → Type 0
BytesOf bs es = Storable es × RunsFitParts es × (image_of es ≡ bs)

-- the header and the place list are whole, which is judged without memory
abbrev pub ListWhole : List ℕ → Type 0
ListWhole bs = then (header bs) (place_list bs (entity_count bs) (node_count bs)) ≡ good

-- a fault is the one foretold, and the bytes are those of no list; want of memory can come up only behind a whole place list
abbrev pub ForReason : ImageError → List ℕ → Type 0
ForReason (Fault f) bs = (image_fault bs ≡ Some f) × ((es : List Entity) → BytesOf bs es → ⊥)
ForReason NoMemory bs = ListWhole bs
