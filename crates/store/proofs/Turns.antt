-- Turns of loops that are written by hand: what is left of the work gives the whole answer.
use Rattle.std.proofs.Common.{◌≡◌, ℕ, suc, ◌+◌, ◌-◌, ◌<◌, Bool, true, false, cond, List, ◌++◌, Some, Option, sym, ap, ◌∙◌, arith}
use Rattle.std.proofs.lemmas.Bool.{cond-false}
use Rattle.model.specs.declared.fault.Fault.{Fault}
use Rattle.model.specs.Faults.{least_with}
use Rattle.model.specs.Stores.{collected, first_index}
use Rattle.store.proofs.Keeping.{keeps_both}

-- of a search for the first index: the next index is no match, or is one
module _ (p : ℕ → Bool) (n i : ℕ) (h : i < n) where
  index_more : first_index p (n - i) i ≡ cond (p i) (Some i) (first_index p (n - (i + 1)) (i + 1))
  index_more = let e : n - i ≡ suc (n - (i + 1)) = omega arith in ap (λ k. first_index p k i) e

  pub index_on : {r : Option ℕ} → p i ≡ false → first_index p (n - i) i ≡ r → first_index p (n - (i + 1)) (i + 1) ≡ r
  index_on e inv = sym (cond-false (p i) (Some i) (first_index p (n - (i + 1)) (i + 1)) e) ∙ sym index_more ∙ inv

  pub index_off : {r : Option ℕ} → p i ≡ true → first_index p (n - i) i ≡ r → Some i ≡ r
  index_off e inv = ap (λ b. cond b (Some i) (first_index p (n - (i + 1)) (i + 1))) (sym e) ∙ sym index_more ∙ inv

-- of keeping the least fault
module _ (f : ℕ → List Fault) (n i : ℕ) (h : i < n) where
  collected_more : collected f (n - i) i ≡ f i ++ collected f (n - (i + 1)) (i + 1)
  collected_more = let e : n - i ≡ suc (n - (i + 1)) = omega arith in ap (λ k. collected f k i) e

  pub keeps_on : {r : Option Fault} (kept next : Option Fault) → next ≡ least_with kept (f i) → least_with kept (collected f (n - i) i) ≡ r → least_with next (collected f (n - (i + 1)) (i + 1)) ≡ r
  keeps_on kept next e inv =
      ap (λ o. least_with o (collected f (n - (i + 1)) (i + 1))) e
      ∙ (keeps_both (f i) (collected f (n - (i + 1)) (i + 1)) kept ∙ (ap (least_with kept) (sym collected_more) ∙ inv))
