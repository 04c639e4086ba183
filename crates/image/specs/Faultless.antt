-- Bytes of which no fault is found.
use Rattle.std.specs.Prelude.{◌≡◌, ℕ, ◌+◌, ◌<◌, ◌≤◌, false, cond, List, is_some, Some, None, Option, nat_lt, refl}
use Rattle.std.proofs.Common.{arith}
use Rattle.model.specs.declared.fault.Fault.{Fault}
use Rattle.model.specs.Stores.{Lawful}
use Rattle.model.specs.Images.{entity_count, node_count, first_node, image_nodes, place_entries, image_fault, image_entities}
use Rattle.laws.proofs.WholeRuns.{entities_lawful}
use Rattle.laws.proofs.ImageRuns.{Imaged, image_whole}

-- no fault is found
abbrev pub Faultless : List ℕ → Type 0
Faultless bs = is_some (image_fault bs) ≡ false

-- the index of the node behind the run k
abbrev pub end_node : List ℕ → ℕ → ℕ
end_node bs k = cond (nat_lt (k + 1) (entity_count bs)) (first_node bs (k + 1)) (node_count bs)

-- the nodes of the run at a place that there is: from its first node, with no run empty, to the next run or the last node
pub record RunOf (bs : List ℕ) (place first end : ℕ) : Type 0 where
  pub there : place < entity_count bs
  pub from : first ≡ first_node bs place
  pub to : end ≡ end_node bs place
  pub some : first < end
  pub within : end ≤ node_count bs

-- nothing was found
pub nothing_found : (o : Option Fault) → is_some o ≡ false → o ≡ None
nothing_found None h = refl
nothing_found (Some f) h = let z : ◌≡◌ {A = ℕ} 0 1 = cc in absurd (omega arith)

-- what follows for the bytes
pub imaged : (bs : List ℕ) → Faultless bs → Imaged bs
imaged bs h = image_whole bs (nothing_found (image_fault bs) h)

-- their entities are the list of a store: an image shows by it what its ghost member says
pub image_lawful : (bs : List ℕ) → Faultless bs → Lawful (image_entities bs)
image_lawful bs h = entities_lawful (image_nodes bs) (place_entries bs) (imaged bs h).whole
