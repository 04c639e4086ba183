-- Total orders, and the orders of numbers and of lists of them.
use Rattle.std.specs.Prelude.{◌≡◌, ℕ, Bool, true, cond, ◌⊎◌, List, [], ◌∷◌, ℤ, pos, negsuc, ◌==◌, ◌≢◌, nat_lt}
use Rattle.std.specs.declared.cmp.Ordering.TheVariants.{Less, Equal, Greater}
use Rattle.std.specs.declared.cmp.Ordering.{Ordering}
use Rattle.std.specs.Ordering.{ordering_then}

-- natural numbers
abbrev pub by_number : ℕ → ℕ → Ordering
by_number m n = cond (nat_lt m n) Less (cond (m == n) Equal Greater)

-- signed numbers
abbrev pub by_integer : ℤ → ℤ → Ordering
by_integer (pos m) (pos n) = by_number m n
by_integer (pos m) (negsuc n) = Greater
by_integer (negsuc m) (pos n) = Less
by_integer (negsuc m) (negsuc n) = by_number n m

-- number by number; the shorter first where it is a beginning of the other
abbrev pub by_integers : List ℤ → List ℤ → Ordering
by_integers [] [] = Equal
by_integers [] (y ∷ ys) = Less
by_integers (x ∷ xs) [] = Greater
by_integers (x ∷ xs) (y ∷ ys) = ordering_then (by_integer x y) (by_integers xs ys)

-- pairs by their left parts first
abbrev pub by_pair : {X Y : Type 0} → (X → X → Ordering) → (Y → Y → Ordering) → X × Y → X × Y → Ordering
by_pair f g x y = ordering_then (f x.0 y.0) (g x.1 y.1)

-- exactly one of less, same and greater holds of two, and less is transitive
pub record Total {X : Type 0} (less : X → X → Bool) : Type 0 where
  pub one_of : (x y : X) → (less x y ≡ true) ⊎ ((x ≡ y) ⊎ (less y x ≡ true))
  pub not_both : (x y : X) → less x y ≡ true → less y x ≢ true
  pub not_itself : (x : X) → less x x ≢ true
  pub transitive : (x y z : X) → less x y ≡ true → less y z ≡ true → less x z ≡ true
