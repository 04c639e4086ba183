-- A turn of a loop of checks, whose invariant is that the checks that are left give the answer.
use Rattle.std.proofs.Common.{◌≡◌, ℕ, suc, ◌+◌, ◌-◌, ◌<◌, Ok, Err, sym, refl, ap, ◌∙◌, arith}
use Rattle.model.specs.declared.fault.Fault.{Fault}
use Rattle.model.specs.Checks.{Checked, good, then, each, after}

module _ (f : ℕ → Checked) (n i : ℕ) (h : i < n) where
  each_more : each f (n - i) i ≡ then (f i) (each f (n - (i + 1)) (i + 1))
  each_more = let e : n - i ≡ suc (n - (i + 1)) = omega arith in ap (λ k. each f k i) e

  -- the check at i passes, and the loop goes on
  pub each_on : {r : Checked} → Ok tt ≡ f i → each f (n - i) i ≡ r → each f (n - (i + 1)) (i + 1) ≡ r
  each_on e inv = ap (λ o. then o (each f (n - (i + 1)) (i + 1))) e ∙ sym each_more ∙ inv

  -- the check at i fails, and its fault is the answer
  pub each_off : {r : Checked} (x : Fault) → Err x ≡ f i → each f (n - i) i ≡ r → Err x ≡ r
  each_off x e inv = ap (λ o. then o (each f (n - (i + 1)) (i + 1))) e ∙ sym each_more ∙ inv

-- a value that came after a check: the check passed, and it is the value
pub after_good : {X : Type 0} (c : Checked) (x y : X) → Ok y ≡ after c x → (c ≡ good) × (y ≡ x)
after_good (Ok u) x y h = (refl, cc)
after_good (Err f) x y h = let z : ◌≡◌ {A = ℕ} 0 1 = cc in absurd (omega arith)
