-- Keys: lists of numbers that a comparison goes by, before what follows them.
use Rattle.std.proofs.Common.{◌≡◌, ℕ, List, [], ◌∷◌, get_or, ℤ, pos, negsuc, Ordering, Less, Equal, Greater, sym, refl, ap, ◌∙◌}
use Rattle.std.specs.Ordering.{ordering_then}
use Rattle.model.specs.Orders.{by_integer, by_integers}
use Rattle.laws.proofs.Numbers.{integers_same}

-- for a part that has parts itself
pub then_assoc : (a b c : Ordering) → ordering_then a (ordering_then b c) ≡ ordering_then (ordering_then a b) c
then_assoc Less b c = refl
then_assoc Equal b c = refl
then_assoc Greater b c = refl

-- where nothing follows
pub then_equal : (o : Ordering) → ordering_then o Equal ≡ o
then_equal Less = refl
then_equal Equal = refl
then_equal Greater = refl

-- a part that is named n, then the other parts, then the rest
pub part_is : (n t ts r x y : Ordering) → x ≡ ordering_then t y → y ≡ ordering_then ts r → ordering_then n x ≡ ordering_then (ordering_then n (ordering_then t ts)) r
part_is n t ts r x y e f = ap (ordering_then n) (e ∙ (ap (ordering_then t) f ∙ then_assoc t ts r)) ∙ then_assoc n (ordering_then t ts) r

-- a list before what follows it, so that its end shows: 1 before each number, and 0 at the end
abbrev pub closed : List ℤ → List ℤ → List ℤ
closed [] p = pos 0 ∷ p
closed (x ∷ xs) p = pos 1 ∷ (x ∷ closed xs p)

-- closed lists compare as the lists, and then as what follows
pub closed_is : (xs ys p q : List ℤ) → by_integers (closed xs p) (closed ys q) ≡ ordering_then (by_integers xs ys) (by_integers p q)
closed_is [] [] p q = refl
closed_is [] (y ∷ ys) p q = refl
closed_is (x ∷ xs) [] p q = refl
closed_is (x ∷ xs) (y ∷ ys) p q = ap (ordering_then (by_integer x y)) (closed_is xs ys p q) ∙ then_assoc (by_integer x y) (by_integers xs ys) (by_integers p q)

-- the numbers of a key, by their places, for a way back from it
abbrev pub signed_at : List ℤ → ℕ → ℤ
signed_at k i = get_or k i (pos 0)

abbrev natural : ℤ → ℕ
natural (pos n) = n
natural (negsuc n) = 0

abbrev pub number_at : List ℤ → ℕ → ℕ
number_at k i = natural (signed_at k i)

-- where there is a way back from the key, what compares as equal is the same
pub same_by : {X : Type 0} (key : X → List ℤ) (of : List ℤ → X) → ((x : X) → of (key x) ≡ x) → (x y : X) → by_integers (key x) (key y) ≡ Equal → x ≡ y
same_by key of back x y e = sym (back x) ∙ (ap of (integers_same (key x) (key y) e) ∙ back y)
