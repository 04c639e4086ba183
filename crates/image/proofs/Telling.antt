-- The faults in the runs of an image are the same whether its definition tells them or its header.
use Rattle.std.proofs.Common.{◌≡◌, ℕ, zero, suc, ◌+◌, ◌-◌, ◌<◌, ◌≤◌, ◌||◌, cond, List, [], ◌∷◌, ◌++◌, length, Ok, Err, Result, refl, ap, ◌∙◌, arith}
use Rattle.std.specs.Prelude.{◌==◌}
use Rattle.model.specs.declared.node.Node.{Node}
use Rattle.model.specs.declared.fault.Fault.{Fault}
use Rattle.model.specs.declared.fault.Refusal.{Refusal}
use Rattle.model.specs.declared.fault.Refusal.TheVariants.{Malformed}
use Rattle.model.specs.declared.fault.Layer.TheVariants.{Image}
use Rattle.model.specs.Faults.{placed}
use Rattle.model.specs.Reading.{Refused}
use Rattle.model.specs.Slots.{uid_below}
use Rattle.model.specs.Entities.{Entity, head_uid, read_entity}
use Rattle.model.specs.Stores.{collected, run_at, run_fault, uid_fault, faults_at, run_faults}
use Rattle.model.specs.Images.{entity_count, node_offset, image_nodes, place_entries, at_offset}
use Rattle.laws.proofs.ReadBytes.{length_entries, entry_is}
use Rattle.store.specs.Entries.{told}
use Rattle.image.specs.Headers.{by_offset}

-- what two functions give at some numbers is the same if it is at each
collected_same : {X : Type 0} (f g : ℕ → List X) (n i : ℕ) → ((k : ℕ) → i ≤ k → k < i + n → f k ≡ g k) → collected f n i ≡ collected g n i
collected_same f g zero i h = refl
collected_same f g (suc n) i h =
    ap (λ xs. xs ++ collected f n (i + 1)) (h i (omega arith) (omega arith))
    ∙ ap (λ xs. g i ++ xs) (collected_same f g n (i + 1) (λ k l m. h k (omega arith) (omega arith)))

-- two ways to tell a refusal that agree on a run give the same faults of it
module _ (at bt : ℕ → ℕ → Refusal → Fault) (nodes : List Node) (fs : List ℕ) (k : ℕ) (same : (p : ℕ) (r : Refusal) → at k p r ≡ bt k p r) where
  run_fault_same : (o : Result Entity Refused) → run_fault at k o ≡ run_fault bt k o
  run_fault_same (Ok e) = refl
  run_fault_same (Err x) = ap (λ f. f ∷ []) (same x.1 x.0)

  faults_same : faults_at at nodes fs k ≡ faults_at bt nodes fs k
  faults_same =
      ap (λ xs. xs ++ uid_fault at nodes fs k) (run_fault_same (read_entity (run_at nodes fs k)))
      ∙ ap (λ f. run_fault bt k (read_entity (run_at nodes fs k)) ++ cond (k == 0 || uid_below (head_uid (run_at nodes fs (k - 1))) (head_uid (run_at nodes fs k))) [] (f ∷ [])) (same 1 Malformed)

-- a header tells what the image's definition tells
pub told_alike : (bs : List ℕ) → run_faults (told (by_offset (entity_count bs)) (place_entries bs)) (image_nodes bs) (place_entries bs) ≡ run_faults (at_offset bs) (image_nodes bs) (place_entries bs)
told_alike bs =
    let fs = place_entries bs in
    let n = length_entries bs in
    collected_same (faults_at (told (by_offset (entity_count bs)) fs) (image_nodes bs) fs) (faults_at (at_offset bs) (image_nodes bs) fs) (length fs) 0
    (λ k l m. faults_same (told (by_offset (entity_count bs)) fs) (at_offset bs) (image_nodes bs) fs k
    (λ p r. ap (λ v. placed r Image (node_offset (entity_count bs) (v + p - 1))) (entry_is bs k (omega arith))))
