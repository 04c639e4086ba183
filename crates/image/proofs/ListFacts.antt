-- What a whole place list says of the bytes, and what a fault says of them.
use Rattle.std.proofs.Common.{◌≡◌, ℕ, ◌-◌, ◌<◌, ◌≤◌, List, length, Some, None, Err, ap, ⊎_elim, subst, arith}
use Rattle.std.proofs.lemmas.Bool.{cases_lt, leb-true}
use Rattle.model.specs.declared.fault.Fault.{Fault}
use Rattle.model.specs.Checks.{then}
use Rattle.model.specs.Faults.{least}
use Rattle.model.specs.Entities.{Entity}
use Rattle.model.specs.Images.{entity_count, node_count, header, place_list, node_offset, place_entries, node_faults, unless_broken, image_fault}
use Rattle.laws.proofs.ChecksPass.{then_parts}
use Rattle.laws.proofs.ImageRuns.{images_read}
use Rattle.laws.proofs.ReadBytes.{header_facts, entry_within, entries_sound}
use Rattle.laws.proofs.WholeRuns.{sound}
use Rattle.store.specs.Entries.{AllBelow}
use Rattle.image.specs.Opens.{BytesOf, ListWhole}

-- all entries are there
pub list_there : (bs : List ℕ) → ListWhole bs → node_offset (entity_count bs) 0 ≤ length bs
list_there bs h =
    let p = then_parts (header bs) (place_list bs (entity_count bs) (node_count bs)) h in
    ⊎_elim
    (λ (l : 0 < entity_count bs). let e = leb-true _ _ (entry_within bs p.1 (entity_count bs - 1) (omega arith)) in omega arith)
    (λ (l : entity_count bs ≤ 0). let e = (header_facts bs p.0).long in omega arith)
    (cases_lt 0 (entity_count bs))

-- each entry lies below the number of nodes, and below what is no less
pub entries_below : (bs : List ℕ) (n : ℕ) → ListWhole bs → node_count bs ≤ n → AllBelow n (place_entries bs)
entries_below bs n h m k l =
    let p = then_parts (header bs) (place_list bs (entity_count bs) (node_count bs)) h in
    let b = (sound (node_count bs) (place_entries bs) (entries_sound bs p.1)).below k l in omega arith

-- bytes with a fault are those of no list
pub no_list : (bs : List ℕ) (f : Fault) → image_fault bs ≡ Some f → (es : List Entity) → BytesOf bs es → ⊥
no_list bs f h es b =
    let e : image_fault bs ≡ None = subst (λ v. image_fault v ≡ None) b.2 (images_read.every es b.0 b.1).0 in
    cc

-- a broken header or place list is the fault that stands
pub list_fault : (bs : List ℕ) (f : Fault) → then (header bs) (place_list bs (entity_count bs) (node_count bs)) ≡ Err f → (image_fault bs ≡ Some f) × ((es : List Entity) → BytesOf bs es → ⊥)
list_fault bs f h = let is = ap (λ o. unless_broken o (least (node_faults bs))) h in (is, no_list bs f is)
