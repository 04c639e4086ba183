-- What the parts of a node say, and trees of few nodes.
use Rattle.std.proofs.Common.{◌≡◌, ℕ, true, cond, ℤ, pos, negsuc, refl, ap, arith}
use Rattle.std.proofs.lemmas.Bool.{ltb-true}
use Rattle.std.proofs.lemmas.Bool.Decides.{nat_tests}
use Rattle.model.specs.declared.node.Node.{Node}
use Rattle.model.specs.Trees.{Trees, none, more, count}
use Rattle.model.specs.Layouts.{signed_below, is_zero}
use Rattle.model.specs.Values.{is_one, magnitude}

-- what is below 1 is 0
pub zero_is : (z : ℤ) → is_zero z ≡ true → z ≡ pos 0
zero_is (pos n) e = ap pos (omega (arith, ltb-true n 1 e))
zero_is (negsuc n) e = let z : ◌≡◌ {A = ℕ} 0 1 = cc in absurd (omega arith)

-- what is below 2 is 0 or 1
pub bit_is : (z : ℤ) → signed_below 2 z ≡ true → z ≡ pos (cond (is_one z) 1 0)
bit_is (pos n) e = ap pos (grind (arith, nat_tests))
bit_is (negsuc n) e = let z : ◌≡◌ {A = ℕ} 0 1 = cc in absurd (omega arith)

-- nodes of the same parts are the same
pub same_node : (n m : Node) → n.kind ≡ m.kind → n.field ≡ m.field → n.a ≡ m.a → n.b ≡ m.b → n.number ≡ m.number → n ≡ m
same_node n m kind field a b number = λ i. record { kind = kind i; field = field i; a = a i; b = b i; number = number i }

-- what is not negative is its magnitude
pub magnitude_is : (m : ℕ) (z : ℤ) → signed_below m z ≡ true → z ≡ pos (magnitude z)
magnitude_is m (pos n) e = refl
magnitude_is m (negsuc n) e = let z : ◌≡◌ {A = ℕ} 0 1 = cc in absurd (omega arith)

-- trees that count 0 are none
pub none_is : (ts : Trees) → count ts ≡ 0 → ts ≡ none
none_is none e = refl
none_is (more t ts) e = absurd (omega arith)
