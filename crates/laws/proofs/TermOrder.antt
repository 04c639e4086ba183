-- The order of terms is lawful: it is that of their keys.
use Rattle.std.proofs.Common.{◌≡◌, ℕ, true, false, cond, eqb, List, [], ◌∷◌, ℤ, pos, Ordering, Less, Equal, Greater, sym, refl, ap, ◌∙◌, arith}
use Rattle.std.specs.Ordering.{ordering_then}
use Rattle.model.specs.Orders.{by_number, by_integers}
use Rattle.model.specs.Values.{Ext, decimal, ipaddr, datetime, duration}
use Rattle.model.specs.Terms.{TermPrim, pattern, truth, entity_uid, ext, text, Var, context, principal, resource, Atom, none_of, prim, var, Group, fields, elements, Term, atom, many, some, Terms, no_terms, term, prim_key, var_rank, atom_rank, group_rank, rank, order_type, within_atom, within_group, within, order_terms, order}
use Rattle.laws.proofs.Numbers.{Lawful, less_not, greater_not, then_same, number_same, lawful_by}
use Rattle.laws.proofs.Keys.{then_assoc, then_equal, part_is, closed, closed_is, signed_at, number_at, same_by}
use Rattle.laws.proofs.TypeOrder.{type_key, type_key_is, type_same}

-- what follows the rank in the key of a term, before what follows that
abbrev atom_key : Atom → List ℤ → List ℤ
atom_key (none_of a) p = type_key a p
atom_key (prim x) p = closed (prim_key x) p
atom_key (var v a) p = pos (var_rank v) ∷ type_key a p

abbrev group_key : Group → List ℤ → List ℤ
group_key fields p = p
group_key (elements a) p = type_key a p

abbrev mutual
  inner_key : Term → List ℤ → List ℤ
  inner_key (atom x) p = atom_key x p
  inner_key (many g ts) p = group_key g (parts_key ts p)
  inner_key (some t) p = pos (rank t) ∷ inner_key t p

  parts_key : Terms → List ℤ → List ℤ
  parts_key no_terms p = pos 0 ∷ p
  parts_key (term m t ts) p = pos 1 ∷ (pos m ∷ (pos (rank t) ∷ inner_key t (parts_key ts p)))

-- terms of one rank are of one form
abbrev form : Term → ℕ
form (atom x) = 0
form (many g ts) = 1
form (some t) = 2

abbrev form_at : ℕ → ℕ
form_at n = cond (eqb n 2) 1 (cond (eqb n 3) 1 (cond (eqb n 4) 2 0))

form_is : (t : Term) → form_at (rank t) ≡ form t
form_is (atom (none_of a)) = refl
form_is (atom (prim x)) = refl
form_is (atom (var v a)) = refl
form_is (many fields ts) = refl
form_is (many (elements a) ts) = refl
form_is (some t) = refl

one_form : (s t : Term) → by_number (rank s) (rank t) ≡ Equal → form s ≡ form t
one_form s t h = sym (form_is s) ∙ (ap form_at (number_same (rank s) (rank t) h) ∙ form_is t)

-- the ranks decide first
ranks_first : (o a b c : Ordering) → (o ≡ Equal → a ≡ ordering_then b c) → ordering_then o a ≡ ordering_then (ordering_then o b) c
ranks_first Less a b c f = refl
ranks_first Equal a b c f = f refl
ranks_first Greater a b c f = refl

-- keys of one rank compare as `within` does
atom_key_is : (x y : Atom) (p q : List ℤ) → by_number (atom_rank x) (atom_rank y) ≡ Equal → by_integers (atom_key x p) (atom_key y q) ≡ ordering_then (within_atom x y) (by_integers p q)
atom_key_is (none_of a) (none_of b) p q h = type_key_is a b p q
atom_key_is (none_of a) (prim y) p q h = less_not h
atom_key_is (none_of a) (var w b) p q h = less_not h
atom_key_is (prim x) (none_of b) p q h = greater_not h
atom_key_is (prim x) (prim y) p q h = closed_is (prim_key x) (prim_key y) p q
atom_key_is (prim x) (var w b) p q h = less_not h
atom_key_is (var v a) (none_of b) p q h = greater_not h
atom_key_is (var v a) (prim y) p q h = greater_not h
atom_key_is (var v a) (var w b) p q h =
    let n = by_number (var_rank v) (var_rank w) in
    ap (ordering_then n) (type_key_is a b p q) ∙ then_assoc n (order_type a b) (by_integers p q)

group_key_is : (g h : Group) (p q : List ℤ) → by_number (group_rank g) (group_rank h) ≡ Equal → by_integers (group_key g p) (group_key h q) ≡ ordering_then (within_group g h) (by_integers p q)
group_key_is fields fields p q e = refl
group_key_is fields (elements b) p q e = less_not e
group_key_is (elements a) fields p q e = greater_not e
group_key_is (elements a) (elements b) p q e = type_key_is a b p q

mutual
  inner_key_is : (s t : Term) (p q : List ℤ) → by_number (rank s) (rank t) ≡ Equal → by_integers (inner_key s p) (inner_key t q) ≡ ordering_then (within s t) (by_integers p q)
  inner_key_is (atom x) (atom y) p q e = atom_key_is x y p q e
  inner_key_is (atom x) (many h us) p q e = absurd (omega (arith, one_form (atom x) (many h us) e))
  inner_key_is (atom x) (some u) p q e = absurd (omega (arith, one_form (atom x) (some u) e))
  inner_key_is (many g ts) (atom y) p q e = absurd (omega (arith, one_form (many g ts) (atom y) e))
  inner_key_is (many g ts) (many h us) p q e =
      group_key_is g h (parts_key ts p) (parts_key us q) e
      ∙ (ap (ordering_then (within_group g h)) (parts_key_is ts us p q) ∙ then_assoc (within_group g h) (order_terms ts us) (by_integers p q))
  inner_key_is (many g ts) (some u) p q e = absurd (omega (arith, one_form (many g ts) (some u) e))
  inner_key_is (some t) (atom y) p q e = absurd (omega (arith, one_form (some t) (atom y) e))
  inner_key_is (some t) (many h us) p q e = absurd (omega (arith, one_form (some t) (many h us) e))
  inner_key_is (some t) (some u) p q e = ranks_first (by_number (rank t) (rank u)) _ (within t u) (by_integers p q) (inner_key_is t u p q)

  parts_key_is : (ts us : Terms) (p q : List ℤ) → by_integers (parts_key ts p) (parts_key us q) ≡ ordering_then (order_terms ts us) (by_integers p q)
  parts_key_is no_terms no_terms p q = refl
  parts_key_is no_terms (term n u us) p q = refl
  parts_key_is (term m t ts) no_terms p q = refl
  parts_key_is (term m t ts) (term n u us) p q =
      let r = by_integers (parts_key ts p) (parts_key us q) in
      part_is (by_number m n) (order t u) (order_terms ts us) (by_integers p q) _ r
      (ranks_first (by_number (rank t) (rank u)) _ (within t u) r (inner_key_is t u (parts_key ts p) (parts_key us q)))
      (parts_key_is ts us p q)

-- the way back from the key of a primitive, and from the rank of a variable
ext_of : List ℤ → Ext
ext_of k =
    cond (eqb (number_at k 1) 0) (decimal (signed_at k 2)) (cond (eqb (number_at k 1) 1) (ipaddr (number_at k 2) (number_at k 3)) (
    cond (eqb (number_at k 1) 2) (datetime (signed_at k 2)) (duration (signed_at k 2))))

prim_of : List ℤ → TermPrim
prim_of k =
    cond (eqb (number_at k 0) 0) (pattern (number_at k 1)) (cond (eqb (number_at k 0) 1) (truth (eqb (number_at k 1) 1)) (
    cond (eqb (number_at k 0) 2) (entity_uid (number_at k 1, number_at k 2)) (cond (eqb (number_at k 0) 3) (ext (ext_of k)) (text (number_at k 1)))))

prim_back : (x : TermPrim) → prim_of (prim_key x) ≡ x
unfolding prim_of ext_of
prim_back (pattern p) = refl
prim_back (truth true) = refl
prim_back (truth false) = refl
prim_back (entity_uid u) = refl
prim_back (ext (decimal z)) = refl
prim_back (ext (ipaddr address prefix)) = refl
prim_back (ext (datetime z)) = refl
prim_back (ext (duration z)) = refl
prim_back (text s) = refl

var_of : ℕ → Var
var_of n = cond (eqb n 0) context (cond (eqb n 1) principal resource)

var_back : (v : Var) → var_of (var_rank v) ≡ v
unfolding var_of
var_back context = refl
var_back principal = refl
var_back resource = refl

-- terms that compare as equal are the same
atom_same : (x y : Atom) → by_number (atom_rank x) (atom_rank y) ≡ Equal → within_atom x y ≡ Equal → x ≡ y
atom_same (none_of a) (none_of b) h e = ap none_of (type_same a b e)
atom_same (none_of a) (prim y) h e = less_not h
atom_same (none_of a) (var w b) h e = less_not h
atom_same (prim x) (none_of b) h e = greater_not h
atom_same (prim x) (prim y) h e = ap prim (same_by prim_key prim_of prim_back x y e)
atom_same (prim x) (var w b) h e = less_not h
atom_same (var v a) (none_of b) h e = greater_not h
atom_same (var v a) (prim y) h e = greater_not h
atom_same (var v a) (var w b) h e =
    let both = then_same (by_number (var_rank v) (var_rank w)) (order_type a b) e in
    let v_is : v ≡ w = sym (var_back v) ∙ (ap var_of (number_same (var_rank v) (var_rank w) both.0) ∙ var_back w) in
    λ i. var (v_is i) (type_same a b both.1 i)

group_same : (g h : Group) → by_number (group_rank g) (group_rank h) ≡ Equal → within_group g h ≡ Equal → g ≡ h
group_same fields fields r e = refl
group_same fields (elements b) r e = less_not r
group_same (elements a) fields r e = greater_not r
group_same (elements a) (elements b) r e = ap elements (type_same a b e)

mutual
  within_same : (s t : Term) → by_number (rank s) (rank t) ≡ Equal → within s t ≡ Equal → s ≡ t
  within_same (atom x) (atom y) r e = ap atom (atom_same x y r e)
  within_same (atom x) (many h us) r e = absurd (omega (arith, one_form (atom x) (many h us) r))
  within_same (atom x) (some u) r e = absurd (omega (arith, one_form (atom x) (some u) r))
  within_same (many g ts) (atom y) r e = absurd (omega (arith, one_form (many g ts) (atom y) r))
  within_same (many g ts) (many h us) r e =
      let both = then_same (within_group g h) (order_terms ts us) e in
      λ i. many (group_same g h r both.0 i) (parts_same ts us both.1 i)
  within_same (many g ts) (some u) r e = absurd (omega (arith, one_form (many g ts) (some u) r))
  within_same (some t) (atom y) r e = absurd (omega (arith, one_form (some t) (atom y) r))
  within_same (some t) (many h us) r e = absurd (omega (arith, one_form (some t) (many h us) r))
  within_same (some t) (some u) r e =
      let both = then_same (by_number (rank t) (rank u)) (within t u) e in
      ap some (within_same t u both.0 both.1)

  parts_same : (ts us : Terms) → order_terms ts us ≡ Equal → ts ≡ us
  parts_same no_terms no_terms e = refl
  parts_same no_terms (term n u us) e = less_not e
  parts_same (term m t ts) no_terms e = greater_not e
  parts_same (term m t ts) (term n u us) e =
      let first = then_same (by_number m n) (ordering_then (order t u) (order_terms ts us)) e in
      let next = then_same (order t u) (order_terms ts us) first.1 in
      let both = then_same (by_number (rank t) (rank u)) (within t u) next.0 in
      λ i. term (number_same m n first.0 i) (within_same t u both.0 both.1 i) (parts_same ts us next.1 i)

-- the order of terms is lawful
pub terms_lawful : Lawful order
terms_lawful = lawful_by order (λ t. pos (rank t) ∷ inner_key t []) is same
  where
    is : (s t : Term) → by_integers (pos (rank s) ∷ inner_key s []) (pos (rank t) ∷ inner_key t []) ≡ order s t
    is s t = ranks_first (by_number (rank s) (rank t)) _ (within s t) Equal (inner_key_is s t [] []) ∙ then_equal (order s t)

    same : (s t : Term) → order s t ≡ Equal → s ≡ t
    same s t e = let both = then_same (by_number (rank s) (rank t)) (within s t) e in within_same s t both.0 both.1
