-- A value is that of its tree, and a tree that fits is that of its value.
use Rattle.std.proofs.Common.{◌≡◌, ℕ, zero, suc, ◌^◌, ◌≤◌, true, false, eqb, pos, sym, refl, ap, ◌∙◌, arith}
use Rattle.std.proofs.lemmas.Bool.{eqb-true, ne_eqb, cond-false, cond_both, and_parts}
use Rattle.std.proofs.lemmas.Bool.Decides.{nat_tests}
use Rattle.model.specs.declared.node.Node.{Node}
use Rattle.model.specs.Nodes.{plain, under}
use Rattle.model.specs.Trees as trees
use Rattle.model.specs.Trees.{Tree, tree, Trees, root}
use Rattle.model.specs.declared.slot.Slot.{Slot}
use Rattle.model.specs.Slots.{next}
use Rattle.model.specs.Layouts.{values, value_arity, value_node, extension_node, is_zero}
use Rattle.model.specs.Formed.{fits, all_fit}
use Rattle.model.specs.Values.{Ext, decimal, ipaddr, datetime, duration, bool, long, string, uid, ext, Value, Values, prim, set, rec, none, more, count, prefix_part, ext_node, prim_node, tree_of, trees_of, prefix_of, ext_of, prim_of, value_of, values_of}
use Rattle.laws.specs.RunLaws.{ValuesRead}
use Rattle.laws.proofs.Parts.{same_node, zero_is, bit_is, magnitude_is, none_is}

-- the root of a value's tree has the name that it was given
root_field : (f : ℕ) (v : Value) → (root (tree_of f v)).field ≡ f
root_field f (prim x) = refl
root_field f (set vs) = refl
root_field f (rec vs) = refl

-- the prefix of an address is that of its node
prefix_back : (p : ℕ) → prefix_of (prefix_part p) ≡ p
prefix_back p = cond_both (eqb p 32) 0 (suc p) (λ b. prefix_of b ≡ p) (λ h. sym (eqb-true p 32 h)) (λ h. refl)

-- a value is that of its tree
mutual
  value_back : (f : ℕ) (v : Value) → value_of (tree_of f v) ≡ v
  value_back f (prim (bool true)) = refl
  value_back f (prim (bool false)) = refl
  value_back f (prim (long z)) = refl
  value_back f (prim (string s)) = refl
  value_back f (prim (uid u)) = refl
  value_back f (prim (ext (decimal z))) = refl
  value_back f (prim (ext (ipaddr n p))) = ap (λ q. prim (ext (ipaddr n q))) (prefix_back p)
  value_back f (prim (ext (datetime z))) = refl
  value_back f (prim (ext (duration z))) = refl
  value_back f (set vs) = ap set (values_back vs)
  value_back f (rec vs) = ap rec (values_back vs)

  pub values_back : (vs : Values) → values_of (trees_of vs) ≡ vs
  values_back none = refl
  values_back (more f v vs) = λ i. more (root_field f v i) (value_back f v i) (values_back vs i)

-- b of an address, which is at most 32, is that of its prefix
prefix_is : (b : ℕ) → b ≤ 32 → b ≡ prefix_part (prefix_of b)
prefix_is zero h = refl
prefix_is (suc b) h = sym (cond-false (eqb b 32) 0 (suc b) (ne_eqb b 32 (λ e. omega arith)))

-- a node of an extension value is that of its value
ext_forth : (n : Node) → n.kind ≡ 7 → extension_node n ≡ true → n ≡ under n.field (ext_node (ext_of n))
ext_forth n k e =
    let P : Ext → Type 0 = λ x. n ≡ under n.field (ext_node x) in
    cond_both (eqb n.a 1) _ _ P (λ h. same_node n _ k refl (eqb-true _ _ h) (grind (arith, nat_tests)) refl) (λ e1.
    cond_both (eqb n.a 2) _ _ P (λ h. same_node n _ k refl (eqb-true _ _ h) (prefix_is n.b (grind (arith, nat_tests))) (magnitude_is (2 ^ 32) n.number (grind (arith, nat_tests)))) (λ e2.
    cond_both (eqb n.a 3) _ _ P (λ h. same_node n _ k refl (eqb-true _ _ h) (grind (arith, nat_tests)) refl) (λ e3.
    same_node n _ k refl (grind (arith, nat_tests)) (grind (arith, nat_tests)) refl)))

-- a node of a literal is that of its literal
prim_forth : (n : Node) → value_node n ≡ true → eqb n.kind 5 ≡ false → eqb n.kind 6 ≡ false → n ≡ under n.field (prim_node (prim_of n))
prim_forth n e e5 e6 =
    cond_both (eqb n.kind 1) _ _ (λ x. n ≡ under n.field (prim_node x)) (λ h. same_node n _ (eqb-true _ _ h) refl (grind (arith, nat_tests)) (grind (arith, nat_tests)) (bit_is n.number (grind (arith, nat_tests)))) (λ e1.
    cond_both (eqb n.kind 2) _ _ (λ x. n ≡ under n.field (prim_node x)) (λ h. same_node n _ (eqb-true _ _ h) refl (grind (arith, nat_tests)) (grind (arith, nat_tests)) refl) (λ e2.
    cond_both (eqb n.kind 3) _ _ (λ x. n ≡ under n.field (prim_node x)) (λ h. same_node n _ (eqb-true _ _ h) refl refl (grind (arith, nat_tests)) (zero_is n.number (grind (arith, nat_tests)))) (λ e3.
    cond_both (eqb n.kind 4) _ _ (λ x. n ≡ under n.field (prim_node x)) (λ h. same_node n _ (eqb-true _ _ h) refl refl refl (zero_is n.number (grind (arith, nat_tests)))) (λ e4. ext_forth n (grind (arith, nat_tests)) (grind (arith, nat_tests))))))

-- a set or a record has as many parts as its tree has children
pub count_is : (ts : Trees) → count (values_of ts) ≡ trees.count ts
count_is trees.none = refl
count_is (trees.more t ts) = ap suc (count_is ts)

-- a set or a record, whose parts are known
group_forth : (k : ℕ) (n : Node) (ts : Trees) → n.kind ≡ k → n.b ≡ 0 → is_zero n.number ≡ true → trees.count ts ≡ n.a → trees_of (values_of ts) ≡ ts → tree (under n.field (plain k (count (values_of ts)) 0 (pos 0))) (trees_of (values_of ts)) ≡ tree n ts
group_forth k n ts kind b z c ih =
    (λ i. tree (same_node (under n.field (plain k (count (values_of ts)) 0 (pos 0))) n (sym kind) refl (count_is ts ∙ c) (sym b) (sym (zero_is n.number z)) i) (ih i))

-- one node, whose children are known
node_forth : (n : Node) (ts : Trees) → value_node n ≡ true → trees.count ts ≡ value_arity n → trees_of (values_of ts) ≡ ts → tree_of n.field (value_of (tree n ts)) ≡ tree n ts
node_forth n ts e c ih =
    cond_both (eqb n.kind 5) _ _ (λ v. tree_of n.field v ≡ tree n ts)
    (λ h. group_forth 5 n ts (eqb-true _ _ h) (grind (arith, nat_tests)) (grind (arith, nat_tests)) (grind (arith, nat_tests)) ih)
    (λ e5. cond_both (eqb n.kind 6) _ _ (λ v. tree_of n.field v ≡ tree n ts)
    (λ h. group_forth 6 n ts (eqb-true _ _ h) (grind (arith, nat_tests)) (grind (arith, nat_tests)) (grind (arith, nat_tests)) ih)
    (λ e6. sym (λ i. tree (prim_forth n e e5 e6 i) (none_is ts (grind (arith, nat_tests)) i))))

-- a tree that fits is that of its value
mutual
  pub value_forth : (s : Slot) (t : Tree) → fits values s t ≡ true → tree_of (root t).field (value_of t) ≡ t
  value_forth s (tree n ts) e =
      let p = and_parts (values.takes s n) _ e in
      let q = and_parts (eqb (trees.count ts) (value_arity n)) _ p.1 in
      node_forth n ts (and_parts _ (value_node n) p.0).1 (eqb-true _ _ q.0) (values_forth (values.inside n) ts q.1)

  pub values_forth : (s : Slot) (ts : Trees) → all_fit values s ts ≡ true → trees_of (values_of ts) ≡ ts
  values_forth s trees.none e = refl
  values_forth s (trees.more t ts) e =
      let p = and_parts (fits values s t) _ e in
      λ i. trees.more (value_forth s t p.0 i) (values_forth (next s (root t)) ts p.1 i)

-- the theorem on values
pub values_read : ValuesRead
values_read = record { back = value_back; forth = value_forth }
