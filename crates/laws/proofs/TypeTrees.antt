-- A type is that of its tree, and a tree that fits is that of its type.
use Rattle.std.proofs.Common.{◌≡◌, ℕ, suc, Bool, true, false, cond, ◌&&◌, eqb, ℤ, pos, negsuc, None, sym, refl, ap, ◌∙◌, subst, ⊎_elim, arith}
use Rattle.std.proofs.lemmas.Bool.{eqb-true, cases_Bool, cond-true, cond_both, and_parts}
use Rattle.std.proofs.lemmas.Bool.Decides.{nat_tests}
use Rattle.model.specs.declared.node.Node.{Node}
use Rattle.model.specs.Trees as trees
use Rattle.model.specs.Trees.{Tree, tree, Trees, root}
use Rattle.model.specs.declared.slot.Slot.{Slot}
use Rattle.model.specs.declared.slot.Slot.TheVariants.{Plain, Named}
use Rattle.model.specs.Slots.{next, is_named}
use Rattle.model.specs.Layouts as layout
use Rattle.model.specs.Layouts.{types, type_arity, type_mark, signed_below, is_zero}
use Rattle.model.specs.Formed.{fits, all_fit}
use Rattle.model.specs.Values.{is_one}
use Rattle.model.specs.Types.{Flat, bool, true_type, false_type, long, string, any_entity, entities, any_set, never, entity, extension, Ty, flat, set, rec, Tys, none, more, count, flat_kind, flat_part, type_node, tree_of, trees_of, flat_of, first_type, type_of, types_of}
use Rattle.laws.specs.RunLaws.{TypesRead}
use Rattle.laws.proofs.Parts.{same_node, zero_is, bit_is, none_is}

-- a type of one node is that of its node
flat_back : (f : ℕ) (q : Bool) (x : Flat) → type_of (tree_of f q (flat x)) ≡ flat x
flat_back f q bool = refl
flat_back f q true_type = refl
flat_back f q false_type = refl
flat_back f q long = refl
flat_back f q string = refl
flat_back f q any_entity = refl
flat_back f q entities = refl
flat_back f q any_set = refl
flat_back f q never = refl
flat_back f q (entity n) = refl
flat_back f q (extension c) = refl

-- the root of a type's tree has the name that it was given
root_field : (f : ℕ) (q : Bool) (t : Ty) → (root (tree_of f q t)).field ≡ f
root_field f q (flat x) = refl
root_field f q (set t) = refl
root_field f q (rec o ts) = refl

-- and says whether it is required
root_mark : (f : ℕ) (q : Bool) (t : Ty) → is_one (root (tree_of f q t)).number ≡ q
root_mark f true (flat x) = refl
root_mark f true (set t) = refl
root_mark f true (rec o ts) = refl
root_mark f false (flat x) = refl
root_mark f false (set t) = refl
root_mark f false (rec o ts) = refl

-- a type is that of its tree
mutual
  type_back : (f : ℕ) (q : Bool) (t : Ty) → type_of (tree_of f q t) ≡ t
  type_back f q (flat x) = flat_back f q x
  type_back f q (set t) = ap set (type_back 0 false t)
  type_back f q (rec true ts) = ap (rec true) (types_back ts)
  type_back f q (rec false ts) = ap (rec false) (types_back ts)

  types_back : (ts : Tys) → types_of (trees_of ts) ≡ ts
  types_back none = refl
  types_back (more f q t ts) = λ i. more (root_field f q t i) (root_mark f q t i) (type_back f q t i) (types_back ts i)

-- 0 is below 2
zero_below : (z : ℤ) → is_zero z ≡ true → signed_below 2 z ≡ true
zero_below (pos n) e = grind (arith, nat_tests)
zero_below (negsuc n) e = e

-- the number of a type's node is 1 or 0
mark_is : (s : Slot) (n : Node) → type_mark s n ≡ true → n.number ≡ pos (cond (is_one n.number) 1 0)
mark_is s n e =
    ⊎_elim (λ h. bit_is n.number (grind (arith, nat_tests))) (λ h. bit_is n.number (zero_below n.number (grind (arith, nat_tests)))) (cases_Bool (is_named s))

-- the kind and the part of a node that is a type by itself
flat_forth : (n : Node) → layout.type_node n ≡ true → eqb n.kind 10 ≡ false → eqb n.kind 12 ≡ false → eqb n.kind 13 ≡ false → (n.kind ≡ flat_kind (flat_of n)) × (n.a ≡ flat_part (flat_of n))
flat_forth n e e10 e12 e13 =
    let P : Flat → Type 0 = λ x. (n.kind ≡ flat_kind x) × (n.a ≡ flat_part x) in
    cond_both (eqb n.kind 1) _ _ P (λ h. (eqb-true _ _ h, grind (arith, nat_tests))) (λ e1.
    cond_both (eqb n.kind 2) _ _ P (λ h. (eqb-true _ _ h, grind (arith, nat_tests))) (λ e2.
    cond_both (eqb n.kind 3) _ _ P (λ h. (eqb-true _ _ h, grind (arith, nat_tests))) (λ e3.
    cond_both (eqb n.kind 4) _ _ P (λ h. (eqb-true _ _ h, grind (arith, nat_tests))) (λ e4.
    cond_both (eqb n.kind 5) _ _ P (λ h. (eqb-true _ _ h, grind (arith, nat_tests))) (λ e5.
    cond_both (eqb n.kind 6) _ _ P (λ h. (eqb-true _ _ h, refl)) (λ e6.
    cond_both (eqb n.kind 7) _ _ P (λ h. (eqb-true _ _ h, grind (arith, nat_tests))) (λ e7.
    cond_both (eqb n.kind 8) _ _ P (λ h. (eqb-true _ _ h, grind (arith, nat_tests))) (λ e8.
    cond_both (eqb n.kind 9) _ _ P (λ h. (eqb-true _ _ h, refl)) (λ e9.
    cond_both (eqb n.kind 11) _ _ P (λ h. (eqb-true _ _ h, grind (arith, nat_tests))) (λ e11.
    (grind (arith, nat_tests), grind (arith, nat_tests))))))))))))

-- a record has as many fields as its tree has children
count_is : (ts : Trees) → count (types_of ts) ≡ trees.count ts
count_is trees.none = refl
count_is (trees.more t ts) = ap suc (count_is ts)

-- the one child of a set, which is no field
element_forth : (ts : Trees) → trees.count ts ≡ 1 → all_fit types Plain ts ≡ true → trees_of (types_of ts) ≡ ts → trees.more (tree_of 0 false (first_type (types_of ts))) trees.none ≡ ts
element_forth trees.none c e ih = absurd (omega arith)
element_forth (trees.more (tree n us) trees.none) c e ih =
    let p = (and_parts (types.takes Plain n) _ (and_parts (fits types Plain (tree n us)) _ e).0).0 in
    let q = and_parts (eqb n.field 0) _ p in
    let z = zero_is n.number (and_parts (layout.type_node n) _ q.1).1 in
    (λ i. trees.more (tree_of (sym (eqb-true n.field 0 q.0) i) (is_one (sym z i)) (type_of (tree n us))) trees.none) ∙ ih
element_forth (trees.more t (trees.more u ts)) c e ih = absurd (omega arith)

-- one node, whose children are known
node_forth : (s : Slot) (n : Node) (ts : Trees) → layout.type_node n ≡ true → type_mark s n ≡ true → trees.count ts ≡ type_arity n → all_fit types (types.inside n) ts ≡ true → trees_of (types_of ts) ≡ ts → tree_of n.field (is_one n.number) (type_of (tree n ts)) ≡ tree n ts
node_forth s n ts e m c a ih =
    let P : Ty → Type 0 = λ t. tree_of n.field (is_one n.number) t ≡ tree n ts in
    let b : n.b ≡ 0 = grind (arith, nat_tests) in
    let z = mark_is s n m in
    let head : (k p : ℕ) → n.kind ≡ k → n.a ≡ p → type_node k p n.field (is_one n.number) ≡ n = λ k p i j. sym (same_node n _ i refl j b z) in
    cond_both (eqb n.kind 10) _ _ P
    (λ h. (λ i. tree (head 10 0 (eqb-true _ _ h) (grind (arith, nat_tests)) i) (element_forth ts (grind (arith, nat_tests)) (subst (λ x. all_fit types x ts ≡ true) (cond-true (eqb n.kind 10) Plain (Named None) h) a) ih i)))
    (λ e10. cond_both (eqb n.kind 12) _ _ P
    (λ h. (λ i. tree (head 12 (count (types_of ts)) (eqb-true _ _ h) (grind (arith, nat_tests, count_is ts)) i) (ih i)))
    (λ e12. cond_both (eqb n.kind 13) _ _ P
    (λ h. (λ i. tree (head 13 (count (types_of ts)) (eqb-true _ _ h) (grind (arith, nat_tests, count_is ts)) i) (ih i)))
    (λ e13. let k = flat_forth n e e10 e12 e13 in (λ i. tree (head _ _ k.0 k.1 i) (sym (none_is ts (grind (arith, nat_tests))) i)))))

-- a tree that fits is that of its type
mutual
  type_forth : (s : Slot) (t : Tree) → fits types s t ≡ true → tree_of (root t).field (is_one (root t).number) (type_of t) ≡ t
  type_forth s (tree n ts) e =
      let p = and_parts (types.takes s n) _ e in
      let q = and_parts (eqb (trees.count ts) (type_arity n)) _ p.1 in
      let m = and_parts (layout.type_node n) (type_mark s n) (and_parts _ (layout.type_node n && type_mark s n) p.0).1 in
      node_forth s n ts m.0 m.1 (eqb-true _ _ q.0) q.1 (types_forth (types.inside n) ts q.1)

  types_forth : (s : Slot) (ts : Trees) → all_fit types s ts ≡ true → trees_of (types_of ts) ≡ ts
  types_forth s trees.none e = refl
  types_forth s (trees.more t ts) e =
      let p = and_parts (fits types s t) _ e in
      λ i. trees.more (type_forth s t p.0 i) (types_forth (next s (root t)) ts p.1 i)

-- the theorem on types
pub types_read : TypesRead
types_read = record { back = type_back; forth = type_forth }
