-- What the library's searches over a list of first nodes find.
use Rattle.std.proofs.Common.{◌≡◌, ℕ, zero, suc, ◌+◌, ◌-◌, ◌<◌, ◌≤◌, Bool, cond, leb, List, length, Some, None, Option, refl, sym, ap, ◌∙◌, ⊎_elim, arith}
use Rattle.std.proofs.lemmas.Bool.{cond-true, cond-false, le-leb, lt-leb, cases_lt}
use Rattle.std.specs.List.{find, range_with_len}
use Rattle.std.specs.Option.{MatchOption, unwrap_or}
use Rattle.model.specs.Stores.{first_at, first_index, run_holding}

-- the first of some numbers in turn that passes a test
pub first_found : (p : ℕ → Bool) (n i : ℕ) → find p (range_with_len i n) ≡ first_index p n i
first_found p zero i = refl
first_found p (suc n) i = ap (cond (p i) (Some i)) (first_found p n (i + 1))

-- the last run that begins no later than the node j, where there is one behind the first
at_last : (j : ℕ) (fs : List ℕ) (last k : ℕ) → k ≤ last → first_at fs k ≤ j → ((i : ℕ) → k < i → i ≤ last → j < first_at fs i) → k ≡ run_holding j fs last
at_last j fs zero k l a h = omega arith
at_last j fs (suc last) k l a h =
    ⊎_elim
    (λ (q : k < suc last). at_last j fs last k (omega arith) a (λ i m n. h i m (omega arith)) ∙ sym (cond-false (leb (first_at fs (suc last)) j) (suc last) _ (lt-leb _ _ (h (suc last) q (omega arith)))))
    (λ (q : suc last ≤ k). let e : k ≡ suc last = omega arith in e ∙ sym (cond-true (leb (first_at fs (suc last)) j) (suc last) _ (le-leb _ _ (rw e at a))))
    (cases_lt k (suc last))

-- else the first
at_first : (j : ℕ) (fs : List ℕ) (last : ℕ) → ((i : ℕ) → 0 < i → i ≤ last → j < first_at fs i) → 0 ≡ run_holding j fs last
at_first j fs zero h = refl
at_first j fs (suc last) h =
    at_first j fs last (λ i m n. h i m (omega arith)) ∙ sym (cond-false (leb (first_at fs (suc last)) j) (suc last) _ (lt-leb _ _ (h (suc last) (omega arith) (omega arith))))

-- both of what a search from the end finds
pub holding : (j : ℕ) (fs : List ℕ) (r : Option ℕ)
    → MatchOption r ((i : ℕ) → i < length fs → j < first_at fs i) (λ k. (k < length fs) × (first_at fs k ≤ j) × ((i : ℕ) → k < i → i < length fs → j < first_at fs i))
    → unwrap_or r 0 ≡ run_holding j fs (length fs - 1)
holding j fs None h = at_first j fs (length fs - 1) (λ i m n. h i (omega arith))
holding j fs (Some k) h = at_last j fs (length fs - 1) k (omega (arith, h.0)) h.1 (λ i m n. h.2 i m (omega (arith, h.0)))
