-- The order of term types is lawful: it is that of their keys.
use Rattle.std.proofs.Common.{◌≡◌, ℕ, cond, eqb, List, [], ◌∷◌, ℤ, pos, Equal, refl, ap, ◌∙◌}
use Rattle.std.specs.Ordering.{ordering_then}
use Rattle.model.specs.Orders.{by_number, by_integers, Total}
use Rattle.model.specs.Terms.{ExtTy, ip, decimals, datetimes, durations, FlatTy, bitvec, bool, string, entity, extension, TermTy, option, flat, rec, set, TermTys, none, more, flat_key, order_type, order_types, type_below}
use Rattle.laws.proofs.Numbers.{less_not, greater_not, then_same, number_same, lawful_by, total}
use Rattle.laws.proofs.Keys.{then_equal, part_is, closed, closed_is, number_at, same_by}

-- the key of a type, before what follows it: its variant, then its parts
abbrev mutual
  pub type_key : TermTy → List ℤ → List ℤ
  type_key (option a) p = pos 0 ∷ type_key a p
  type_key (flat x) p = pos 1 ∷ closed (flat_key x) p
  type_key (rec xs) p = pos 2 ∷ types_key xs p
  type_key (set a) p = pos 3 ∷ type_key a p

  types_key : TermTys → List ℤ → List ℤ
  types_key none p = pos 0 ∷ p
  types_key (more m a xs) p = pos 1 ∷ (pos m ∷ type_key a (types_key xs p))

-- keys compare as the types do
mutual
  pub type_key_is : (a b : TermTy) (p q : List ℤ) → by_integers (type_key a p) (type_key b q) ≡ ordering_then (order_type a b) (by_integers p q)
  type_key_is (option a) (option b) p q = type_key_is a b p q
  type_key_is (option a) (flat y) p q = refl
  type_key_is (option a) (rec ys) p q = refl
  type_key_is (option a) (set b) p q = refl
  type_key_is (flat x) (option b) p q = refl
  type_key_is (flat x) (flat y) p q = closed_is (flat_key x) (flat_key y) p q
  type_key_is (flat x) (rec ys) p q = refl
  type_key_is (flat x) (set b) p q = refl
  type_key_is (rec xs) (option b) p q = refl
  type_key_is (rec xs) (flat y) p q = refl
  type_key_is (rec xs) (rec ys) p q = types_key_is xs ys p q
  type_key_is (rec xs) (set b) p q = refl
  type_key_is (set a) (option b) p q = refl
  type_key_is (set a) (flat y) p q = refl
  type_key_is (set a) (rec ys) p q = refl
  type_key_is (set a) (set b) p q = type_key_is a b p q

  types_key_is : (xs ys : TermTys) (p q : List ℤ) → by_integers (types_key xs p) (types_key ys q) ≡ ordering_then (order_types xs ys) (by_integers p q)
  types_key_is none none p q = refl
  types_key_is none (more n b ys) p q = refl
  types_key_is (more m a xs) none p q = refl
  types_key_is (more m a xs) (more n b ys) p q = part_is (by_number m n) (order_type a b) (order_types xs ys) (by_integers p q) _ _ (type_key_is a b (types_key xs p) (types_key ys q)) (types_key_is xs ys p q)

-- the way back from the key of a type without parts
ext_type_of : ℕ → ExtTy
ext_type_of n = cond (eqb n 0) ip (cond (eqb n 1) decimals (cond (eqb n 2) datetimes durations))

flat_of : List ℤ → FlatTy
flat_of k =
    cond (eqb (number_at k 0) 0) bitvec (cond (eqb (number_at k 0) 1) bool (cond (eqb (number_at k 0) 2) (entity (number_at k 1)) (
    cond (eqb (number_at k 0) 3) (extension (ext_type_of (number_at k 1))) string)))

flat_back : (x : FlatTy) → flat_of (flat_key x) ≡ x
unfolding flat_of ext_type_of
flat_back bitvec = refl
flat_back bool = refl
flat_back string = refl
flat_back (entity n) = refl
flat_back (extension ip) = refl
flat_back (extension decimals) = refl
flat_back (extension datetimes) = refl
flat_back (extension durations) = refl

-- types that compare as equal are the same
mutual
  pub type_same : (a b : TermTy) → order_type a b ≡ Equal → a ≡ b
  type_same (option a) (option b) e = ap option (type_same a b e)
  type_same (option a) (flat y) e = less_not e
  type_same (option a) (rec ys) e = less_not e
  type_same (option a) (set b) e = less_not e
  type_same (flat x) (option b) e = greater_not e
  type_same (flat x) (flat y) e = ap flat (same_by flat_key flat_of flat_back x y e)
  type_same (flat x) (rec ys) e = less_not e
  type_same (flat x) (set b) e = less_not e
  type_same (rec xs) (option b) e = greater_not e
  type_same (rec xs) (flat y) e = greater_not e
  type_same (rec xs) (rec ys) e = ap rec (types_same xs ys e)
  type_same (rec xs) (set b) e = less_not e
  type_same (set a) (option b) e = greater_not e
  type_same (set a) (flat y) e = greater_not e
  type_same (set a) (rec ys) e = greater_not e
  type_same (set a) (set b) e = ap set (type_same a b e)

  types_same : (xs ys : TermTys) → order_types xs ys ≡ Equal → xs ≡ ys
  types_same none none e = refl
  types_same none (more n b ys) e = less_not e
  types_same (more m a xs) none e = greater_not e
  types_same (more m a xs) (more n b ys) e =
      let first = then_same (by_number m n) (ordering_then (order_type a b) (order_types xs ys)) e in
      let rest = then_same (order_type a b) (order_types xs ys) first.1 in
      λ i. more (number_same m n first.0 i) (type_same a b rest.0 i) (types_same xs ys rest.1 i)

-- the order of term types is total
pub types_total : Total type_below
types_total = total order_type (lawful_by order_type (λ a. type_key a []) (λ a b. type_key_is a b [] [] ∙ then_equal (order_type a b)) type_same)
