-- Checks that pass: what that says of their parts, and how it is shown.
use Rattle.std.proofs.Common.{◌≡◌, ℕ, zero, suc, ◌+◌, ◌<◌, ◌≤◌, Bool, true, false, Ok, Err, refl, ap, ◌∙◌, subst, ⊎_elim, arith}
use Rattle.std.proofs.lemmas.Bool.{cases_lt}
use Rattle.model.specs.declared.fault.Fault.{Fault}
use Rattle.model.specs.Checks.{Checked, good, require, then, each}

-- a passed requirement holds
pub require_holds : (b : Bool) (f : Fault) → require b f ≡ good → b ≡ true
require_holds true f h = refl
require_holds false f h = let z : ◌≡◌ {A = ℕ} 0 1 = cc in absurd (omega arith)

-- a requirement that holds passes
pub require_passes : (b : Bool) (f : Fault) → b ≡ true → require b f ≡ good
require_passes b f h = ap (λ v. require v f) h

-- where one check and then another pass, both do
pub then_parts : (c d : Checked) → then c d ≡ good → (c ≡ good) × (d ≡ good)
then_parts (Ok u) d h = (refl, h)
then_parts (Err f) d h = let z : ◌≡◌ {A = ℕ} 0 1 = cc in absurd (omega arith)

-- where two checks pass, the one and then the other pass
pub then_passes : (c d : Checked) → c ≡ good → d ≡ good → then c d ≡ good
then_passes c d h k = ap (λ v. then v d) h ∙ k

-- where n checks from i on pass, each of them does
pub each_parts : (f : ℕ → Checked) (n i : ℕ) → each f n i ≡ good → (k : ℕ) → i ≤ k → k < i + n → f k ≡ good
each_parts f zero i h k l m = absurd (omega arith)
each_parts f (suc n) i h k l m =
    let p = then_parts (f i) (each f n (i + 1)) h in
    ⊎_elim
    (λ (q : i < k). each_parts f n (i + 1) p.1 k (omega arith) (omega arith))
    (λ (q : k ≤ i). let d : i ≡ k = omega arith in subst (λ x. f x ≡ good) d p.0)
    (cases_lt i k)

-- where each of n checks from i on passes, they all do
pub each_passes : (f : ℕ → Checked) (n i : ℕ) → ((k : ℕ) → i ≤ k → k < i + n → f k ≡ good) → each f n i ≡ good
each_passes f zero i h = refl
each_passes f (suc n) i h = then_passes (f i) (each f n (i + 1)) (h i (omega arith) (omega arith)) (each_passes f n (i + 1) (λ k l m. h k (omega arith) (omega arith)))
