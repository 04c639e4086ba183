-- What is drafted of a list that fits, behind its header, is the list's image, which is read as that list.
use Rattle.std.proofs.Common.{◌≡◌, ℕ, ◌++◌, List, length, None, vec_items, ◌∙◌, subst, append_assoc}
use Rattle.model.specs.Entities.{Entity}
use Rattle.model.specs.Stores.{RunsFitParts}
use Rattle.model.specs.Fitting.{Storable}
use Rattle.model.specs.Images.{entity_runs, first_nodes, low_bytes, node_bytes, node_offset, joined, image_of, image_fault, image_entities}
use Rattle.laws.proofs.ImageRuns.{images_read}
use Rattle.image.specs.declared.draft.Draft.{Draft}
use Rattle.image.specs.Pushes.{header_bytes}
use Rattle.image.specs.Drafts.{Drafted}

-- the fields of a header and what follows them, each behind the one before
fields : (a b c d l n : List ℕ) → (a ++ (b ++ (c ++ d))) ++ l ++ n ≡ a ++ (b ++ (c ++ (d ++ (l ++ n))))
fields a b c d l n = simp append_assoc

-- a header and what was drafted are the image
pub image_is : (es : List Entity) (d : Draft) → Drafted es d → header_bytes (length es) d.count ++ vec_items d.list ++ vec_items d.nodes ≡ image_of es
image_is es d p =
    (λ i. header_bytes (length es) (p.counted i) ++ p.listed i ++ p.noded i)
    ∙ fields (low_bytes 4 (length es)) (low_bytes 4 (length (entity_runs es))) (low_bytes 4 16) (low_bytes 4 (node_offset (length es) 0)) (joined (low_bytes 4) (first_nodes 0 es)) (joined node_bytes (entity_runs es))

-- in which no fault is found
pub sound : (es : List Entity) (bs : List ℕ) → image_of es ≡ bs → Storable es → RunsFitParts es → image_fault bs ≡ None
sound es bs is s fits = subst (λ v. image_fault v ≡ None) is (images_read.every es s fits).0

-- and which means the list
pub meant : (es : List Entity) (bs : List ℕ) → image_of es ≡ bs → Storable es → RunsFitParts es → image_entities bs ≡ es
meant es bs is s fits = subst (λ v. image_entities v ≡ es) is (images_read.every es s fits).1
