-- Writing the image of a list and reading an image are inverse to each other.
use Rattle.std.specs.Prelude.{◌≡◌, ℕ, ◌<◌, List, None, slice_index}
use Rattle.model.specs.Entities.{Entity}
use Rattle.model.specs.Stores.{RunsFitParts}
use Rattle.model.specs.Images.{image_of, image_fault, image_entities}
use Rattle.model.specs.Fitting.{Storable}

-- bytes are an image exactly if they are those of a list that fits and whose nodes fit their parts; then they mean that list
pub record ImagesRead : Type 0 where
  pub bytes : (es : List Entity) (i : ℕ) → slice_index (image_of es) i < 256
  pub every : (es : List Entity) → Storable es → RunsFitParts es → (image_fault (image_of es) ≡ None) × (image_entities (image_of es) ≡ es)
  pub only : (bs : List ℕ) → ((i : ℕ) → slice_index bs i < 256) → image_fault bs ≡ None → Storable (image_entities bs) × RunsFitParts (image_entities bs) × (image_of (image_entities bs) ≡ bs)
