-- Lawful comparisons, that they are total orders, and those of numbers and of lists of them.
use Rattle.std.proofs.Common.{◌≡◌, ℕ, true, ◌⊎◌, List, [], ◌∷◌, ℤ, pos, negsuc, Ordering, Less, Equal, Greater, sym, refl, ap, ◌∙◌, subst, inl, inr, arith}
use Rattle.std.proofs.lemmas.Bool.Decides.{nat_tests}
use Rattle.std.specs.Ordering.{ordering_then, ordering_reverse, is_lt}
use Rattle.model.specs.Orders.{by_number, by_integer, by_integers, Total}

-- what a step and the next say of both
abbrev pub Follows : Ordering → Ordering → Ordering → Type 0
Follows Less Less c = c ≡ Less
Follows Less Equal c = c ≡ Less
Follows Less Greater c = Unit {0}
Follows Equal b c = c ≡ b
Follows Greater b c = Unit {0}

-- a comparison whose turn is its reverse, that tells all apart, and whose steps follow each other
pub record Lawful {X : Type 0} (c : X → X → Ordering) : Type 0 where
  pub turned : (x y : X) → c y x ≡ ordering_reverse (c x y)
  pub same : (x y : X) → c x y ≡ Equal → x ≡ y
  pub follows : (x y z : X) → Follows (c x y) (c y z) (c x z)

-- what differs does not compare as equal
pub less_not : {P : Type 0} → Less ≡ Equal → P
less_not e = let z : ◌≡◌ {A = ℕ} 0 1 = cc in absurd (omega arith)

pub greater_not : {P : Type 0} → Greater ≡ Equal → P
greater_not e = let z : ◌≡◌ {A = ℕ} 0 1 = cc in absurd (omega arith)

-- for a test that passes
is_less : (o : Ordering) → is_lt o ≡ true → o ≡ Less
is_less Less e = refl
is_less Equal e = cc
is_less Greater e = cc

-- a lawful comparison is a total order
pub total : {X : Type 0} (c : X → X → Ordering) → Lawful c → Total (λ x y. is_lt (c x y))
total {X} c l = record { one_of = one_of; not_both = not_both; not_itself = λ x p. not_both x x p p; transitive = transitive }
  where
    one_of : (x y : X) → (is_lt (c x y) ≡ true) ⊎ ((x ≡ y) ⊎ (is_lt (c y x) ≡ true))
    one_of x y = go (c x y) refl
      where
        go : (o : Ordering) → c x y ≡ o → (is_lt (c x y) ≡ true) ⊎ ((x ≡ y) ⊎ (is_lt (c y x) ≡ true))
        go Less e = inl (ap is_lt e)
        go Equal e = inr (inl (l.same x y e))
        go Greater e = inr (inr (ap is_lt (l.turned x y ∙ ap ordering_reverse e)))

    not_both : (x y : X) → is_lt (c x y) ≡ true → is_lt (c y x) ≡ true → ⊥
    not_both x y p q =
        let e : c x y ≡ Less = is_less (c x y) p in
        let d : Less ≡ Greater = sym (is_less (c y x) q) ∙ (l.turned x y ∙ ap ordering_reverse e) in
        let z : ◌≡◌ {A = ℕ} 0 1 = cc in
        omega arith

    transitive : (x y z : X) → is_lt (c x y) ≡ true → is_lt (c y z) ≡ true → is_lt (c x z) ≡ true
    transitive x y z p q =
        let e : c x y ≡ Less = is_less (c x y) p in
        let d : c y z ≡ Less = is_less (c y z) q in
        let f : Follows Less Less (c x z) = subst (λ a. Follows a Less (c x z)) e (subst (λ b. Follows (c x y) b (c x z)) d (l.follows x y z)) in
        ap is_lt f

-- the three laws go through `thenBy`; this is the first
pub then_turned : (a b a' b' : Ordering) → a' ≡ ordering_reverse a → b' ≡ ordering_reverse b → ordering_then a' b' ≡ ordering_reverse (ordering_then a b)
then_turned Less b a' b' e f = ap (λ x. ordering_then x b') e
then_turned Equal b a' b' e f = ap (λ x. ordering_then x b') e ∙ f
then_turned Greater b a' b' e f = ap (λ x. ordering_then x b') e

-- both parts of what is the same are the same
pub then_same : (a b : Ordering) → ordering_then a b ≡ Equal → (a ≡ Equal) × (b ≡ Equal)
then_same Less b e = less_not e
then_same Equal b e = (refl, e)
then_same Greater b e = greater_not e

-- what is below is below whatever comes after, and so for the others
less_any : (o : Ordering) → Follows Less o Less
less_any Less = refl
less_any Equal = refl
less_any Greater = tt

any_less : (o : Ordering) → Follows o Less Less
any_less Less = refl
any_less Equal = refl
any_less Greater = tt

any_greater : (o : Ordering) → Follows o Greater Greater
any_greater Less = tt
any_greater Equal = refl
any_greater Greater = tt

pub then_follows : (a b c a' b' c' : Ordering) → Follows a b c → Follows a' b' c' → Follows (ordering_then a a') (ordering_then b b') (ordering_then c c')
then_follows Less Less c a' b' c' f g = ap (λ x. ordering_then x c') f
then_follows Less Equal c a' b' c' f g = subst (λ x. Follows Less b' (ordering_then x c')) (sym f) (less_any b')
then_follows Less Greater c a' b' c' f g = tt
then_follows Equal Less c a' b' c' f g = subst (λ x. Follows a' Less (ordering_then x c')) (sym f) (any_less a')
then_follows Equal Equal c a' b' c' f g = subst (λ x. Follows a' b' (ordering_then x c')) (sym f) g
then_follows Equal Greater c a' b' c' f g = subst (λ x. Follows a' Greater (ordering_then x c')) (sym f) (any_greater a')
then_follows Greater b c a' b' c' f g = tt

-- the cases of Follows that say something, for `grind`
follows_from : (a b c : Ordering) → (a ≡ Less → b ≡ Less → c ≡ Less) → (a ≡ Less → b ≡ Equal → c ≡ Less) → (a ≡ Equal → c ≡ b) → Follows a b c
follows_from Less Less c f g h = f refl refl
follows_from Less Equal c f g h = g refl refl
follows_from Less Greater c f g h = tt
follows_from Equal b c f g h = h refl
follows_from Greater b c f g h = tt

-- the laws of numbers
pub number_turned : (m n : ℕ) → by_number n m ≡ ordering_reverse (by_number m n)
number_turned m n = grind (arith, nat_tests)

pub number_same : (m n : ℕ) → by_number m n ≡ Equal → m ≡ n
number_same m n e = grind (arith, nat_tests)

pub number_follows : (a b c : ℕ) → Follows (by_number a b) (by_number b c) (by_number a c)
number_follows a b c = follows_from (by_number a b) (by_number b c) (by_number a c) (λ x y. grind (arith, nat_tests)) (λ x y. grind (arith, nat_tests)) (λ x. grind (arith, nat_tests))

-- the laws of signed numbers
integer_turned : (x y : ℤ) → by_integer y x ≡ ordering_reverse (by_integer x y)
integer_turned (pos m) (pos n) = number_turned m n
integer_turned (pos m) (negsuc n) = refl
integer_turned (negsuc m) (pos n) = refl
integer_turned (negsuc m) (negsuc n) = number_turned n m

integer_same : (x y : ℤ) → by_integer x y ≡ Equal → x ≡ y
integer_same (pos m) (pos n) e = ap pos (number_same m n e)
integer_same (pos m) (negsuc n) e = greater_not e
integer_same (negsuc m) (pos n) e = less_not e
integer_same (negsuc m) (negsuc n) e = ap negsuc (sym (number_same n m e))

-- negative numbers are compared the other way round
follows_back : (a b c : ℕ) → Follows (by_number b a) (by_number c b) (by_number c a)
follows_back a b c = follows_from (by_number b a) (by_number c b) (by_number c a) (λ x y. grind (arith, nat_tests)) (λ x y. grind (arith, nat_tests)) (λ x. grind (arith, nat_tests))

integer_follows : (x y z : ℤ) → Follows (by_integer x y) (by_integer y z) (by_integer x z)
integer_follows (pos l) (pos m) (pos n) = number_follows l m n
integer_follows (pos l) (pos m) (negsuc n) = any_greater (by_number l m)
integer_follows (pos l) (negsuc m) (pos n) = tt
integer_follows (pos l) (negsuc m) (negsuc n) = tt
integer_follows (negsuc l) (pos m) (pos n) = less_any (by_number m n)
integer_follows (negsuc l) (pos m) (negsuc n) = tt
integer_follows (negsuc l) (negsuc m) (pos n) = any_less (by_number m l)
integer_follows (negsuc l) (negsuc m) (negsuc n) = follows_back l m n

-- the laws of lists of them
integers_turned : (xs ys : List ℤ) → by_integers ys xs ≡ ordering_reverse (by_integers xs ys)
integers_turned [] [] = refl
integers_turned [] (y ∷ ys) = refl
integers_turned (x ∷ xs) [] = refl
integers_turned (x ∷ xs) (y ∷ ys) = then_turned (by_integer x y) (by_integers xs ys) _ _ (integer_turned x y) (integers_turned xs ys)

pub integers_same : (xs ys : List ℤ) → by_integers xs ys ≡ Equal → xs ≡ ys
integers_same [] [] e = refl
integers_same [] (y ∷ ys) e = less_not e
integers_same (x ∷ xs) [] e = greater_not e
integers_same (x ∷ xs) (y ∷ ys) e =
    let both = then_same (by_integer x y) (by_integers xs ys) e in
    λ i. integer_same x y both.0 i ∷ integers_same xs ys both.1 i

integers_follow : (xs ys zs : List ℤ) → Follows (by_integers xs ys) (by_integers ys zs) (by_integers xs zs)
integers_follow [] [] [] = refl
integers_follow [] [] (z ∷ zs) = refl
integers_follow [] (y ∷ ys) [] = tt
integers_follow [] (y ∷ ys) (z ∷ zs) = less_any (by_integers (y ∷ ys) (z ∷ zs))
integers_follow (x ∷ xs) [] zs = tt
integers_follow (x ∷ xs) (y ∷ ys) [] = any_greater (by_integers (x ∷ xs) (y ∷ ys))
integers_follow (x ∷ xs) (y ∷ ys) (z ∷ zs) = then_follows (by_integer x y) (by_integer y z) (by_integer x z) (by_integers xs ys) (by_integers ys zs) (by_integers xs zs) (integer_follows x y z) (integers_follow xs ys zs)

-- a comparison of keys is lawful where what compares as equal is the same
pub lawful_by : {X : Type 0} (c : X → X → Ordering) (key : X → List ℤ) → ((x y : X) → by_integers (key x) (key y) ≡ c x y) → ((x y : X) → c x y ≡ Equal → x ≡ y) → Lawful c
lawful_by {X} c key is same = record { turned = turned; same = same; follows = follows }
  where
    turned : (x y : X) → c y x ≡ ordering_reverse (c x y)
    turned x y = sym (is y x) ∙ (integers_turned (key x) (key y) ∙ ap ordering_reverse (is x y))

    follows : (x y z : X) → Follows (c x y) (c y z) (c x z)
    follows x y z = subst (λ (t : Ordering × (Ordering × Ordering)). Follows t.0 t.1.0 t.1.1) (λ i. (is x y i, (is y z i, is x z i))) (integers_follow (key x) (key y) (key z))
