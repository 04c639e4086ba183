-- Searches that find nothing, and those that find something.
use Rattle.std.proofs.Common.{◌≡◌, ℕ, Bool, true, false, cond, Some, None, Option, refl, arith}
use Rattle.model.specs.Options.{or_else, mapped}
use Rattle.model.specs.Builds.{when}

-- nothing is not something
pub none_not : {P X : Type 0} {x : X} → None ≡ Some x → P
none_not e = let z : ◌≡◌ {A = ℕ} 0 1 = cc in absurd (omega arith)

-- where two searches find nothing, neither does
pub or_else_none : {X : Type 0} (x y : Option X) → or_else x y ≡ None → (x ≡ None) × (y ≡ None)
or_else_none None y e = (refl, e)
or_else_none (Some x) y e = (cc, cc)

pub mapped_none : {X Y : Type 0} (f : X → Y) (o : Option X) → mapped f o ≡ None → o ≡ None
mapped_none f None e = refl
mapped_none f (Some x) e = cc

-- what is not found is neither here nor further on
pub not_found : {X : Type 0} (c : Bool) (x : X) (o : Option X) → cond c (Some x) o ≡ None → (c ≡ false) × (o ≡ None)
not_found true x o e = (cc, cc)
not_found false x o e = (refl, e)

-- what is found on a condition
pub when_found : {X : Type 0} (c : Bool) (x y : X) → when c x ≡ Some y → (c ≡ true) × (x ≡ y)
when_found true x y e = (refl, cc)
when_found false x y e = (cc, cc)
