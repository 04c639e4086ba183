-- Keeping the least of some faults, one after another.
use Rattle.std.proofs.Common.{◌≡◌, ℕ, zero, suc, ◌+◌, ◌<◌, List, [], ◌∷◌, ◌++◌, Some, Option, sym, refl, ap, ◌∙◌, subst, arith}
use Rattle.std.proofs.lemmas.Grind.{flat_map-append}
use Rattle.std.proofs.lemmas.List.{append-nil}
use Rattle.std.proofs.lemmas.List.Elements.{All-pop, All-from_get_or}
use Rattle.std.proofs.lemmas.List.FromFn.{length-range_with_len, get_or-range_with_len}
use Rattle.std.specs.List.{All, flat_map, range_with_len}
use Rattle.model.specs.declared.fault.Fault.{Fault}
use Rattle.model.specs.Faults.{least_with, keep_least}
use Rattle.model.specs.Stores.{collected}

-- first some faults and then others
pub keeps_both : (xs ys : List Fault) (kept : Option Fault) → least_with (least_with kept xs) ys ≡ least_with kept (xs ++ ys)
keeps_both [] ys kept = refl
keeps_both (x ∷ xs) ys kept = keeps_both xs ys (keep_least kept x)

-- the faults of some numbers in turn, each of which can be told
module _ (f : ℕ → List Fault) (Told : ℕ → Type 0) (kept : Option Fault) where
  -- the least so far is kept
  abbrev pub Keeps : List ℕ → Option Fault → Type 0
  Keeps ks o = All Told ks → o ≡ least_with kept (flat_map f ks)

  -- so it is behind one more number
  pub keeps_on : (ks : List ℕ) (k : ℕ) (o r : Option Fault) → Keeps ks o → (Told k → r ≡ least_with o (f k)) → Keeps (ks ++ (k ∷ [])) r
  keeps_on ks k o r before here = λ all.
      let told = All-pop Told (ks ++ (k ∷ [])) ks (Some k) refl all in
      here told.1
      ∙ (ap (λ x. least_with x (f k)) (before told.0)
      ∙ (keeps_both (flat_map f ks) (f k) kept
      ∙ ap (least_with kept) (ap (λ xs. flat_map f ks ++ xs) (sym (append-nil (f k))) ∙ sym (flat_map-append f ks (k ∷ [])))))

  -- numbers from i on give what is collected from i on
  in_range : (n i : ℕ) → flat_map f (range_with_len i n) ≡ collected f n i
  in_range zero i = refl
  in_range (suc n) i = ap (λ xs. f i ++ xs) (in_range n (i + 1))

  -- and at the end behind all
  pub keeps_all : (n : ℕ) (r : Option Fault) → ((k : ℕ) → k < n → Told k) → Keeps (range_with_len 0 n) r → r ≡ least_with kept (collected f n 0)
  keeps_all n r each done =
      done (All-from_get_or Told (range_with_len 0 n) 0 (λ i l.
      let m = length-range_with_len 0 n in
      let h : i < n = omega arith in
      subst Told (sym (get_or-range_with_len 0 n i 0 h)) (each (0 + i) (omega arith))))
      ∙ ap (least_with kept) (in_range n 0)
