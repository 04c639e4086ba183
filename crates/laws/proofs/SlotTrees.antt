-- The trees that fill the slots of a record and of a uid.
use Rattle.std.proofs.Common.{◌≡◌, suc, ◌≤◌, true, eqb, List, [], ◌∷◌, map, length, Some, Option, sym, refl, ap, ◌∙◌, subst, arith}
use Rattle.std.proofs.lemmas.Bool.{eqb-true, and_parts}
use Rattle.std.proofs.lemmas.Bool.Decides.{nat_tests}
use Rattle.model.specs.declared.node.Node.{Node}
use Rattle.model.specs.Trees.{Tree, tree, Trees, none, more, runs_of, count, nestings}
use Rattle.model.specs.declared.slot.Slot.{Slot}
use Rattle.model.specs.declared.slot.Slot.TheVariants.{ARecord, AUid, Ancestor}
use Rattle.model.specs.Slots.{Uid, fills}
use Rattle.model.specs.Layouts.{values, value_node, value_arity}
use Rattle.model.specs.Formed.{fits, all_fit}
use Rattle.model.specs.Values.{rec, uid_node, tree_of, prim, prim_of, grouped, value_of, values_of, fields_of}
use Rattle.model.specs.Entities.{uid_of, uids_of, uid_trees}
use Rattle.laws.proofs.Parts.{same_node, zero_is, none_is}
use Rattle.laws.proofs.ValueTrees.{value_forth}

-- a record is that of its fields
pub record_forth : (t : Tree) → fits values ARecord t ≡ true → tree_of 0 (rec (fields_of (value_of t))) ≡ t
record_forth (tree n ts) e =
    let p = and_parts (values.takes ARecord n) _ e in
    let q = and_parts (eqb n.field 0) (eqb n.kind 6) (and_parts _ (value_node n) p.0).0 in
    let is : rec (fields_of (value_of (tree n ts))) ≡ value_of (tree n ts) = subst (λ k. rec (fields_of (grouped k (values_of ts) (prim (prim_of n)))) ≡ grouped k (values_of ts) (prim (prim_of n))) (sym (eqb-true _ _ q.1)) refl in
    (λ i. tree_of (sym (eqb-true _ _ q.0) i) (is i)) ∙ value_forth ARecord (tree n ts) e

-- a slot that asks for a uid that is no field has its tree
uid_forth : (s : Slot) → ((n : Node) → fills s (eqb n.kind 6) (eqb n.kind 4) n ≡ true → (n.field ≡ 0) × (n.kind ≡ 4)) → (t : Tree) → fits values s t ≡ true → tree (uid_node (uid_of t)) none ≡ t
uid_forth s asks (tree n ts) e =
    let p = and_parts (values.takes s n) _ e in
    let q = and_parts _ (value_node n) p.0 in
    let c : count ts ≡ value_arity n = eqb-true _ _ (and_parts (eqb (count ts) (value_arity n)) _ p.1).0 in
    let f : n.field ≡ 0 = (asks n q.0).0 in
    let k : n.kind ≡ 4 = (asks n q.0).1 in
    let v : value_node n ≡ true = q.1 in
    sym (λ i. tree (same_node n (uid_node (n.a, n.b)) k f refl refl (zero_is n.number (grind (arith, nat_tests))) i) (none_is ts (grind (arith, nat_tests)) i))

-- a uid's tree is that of its uid
pub a_uid_forth : (t : Tree) → fits values AUid t ≡ true → tree (uid_node (uid_of t)) none ≡ t
a_uid_forth = uid_forth AUid (λ n h. (grind (arith, nat_tests), grind (arith, nat_tests)))

-- the trees of ancestors are those of their uids
pub ancestors_forth : (ts : Trees) (before : Option Uid) → all_fit values (Ancestor before) ts ≡ true → uid_trees (uids_of ts) ≡ ts
ancestors_forth none before e = refl
ancestors_forth (more t ts) before e =
    let p = and_parts (fits values (Ancestor before) t) _ e in
    λ i. more (uid_forth (Ancestor before) (λ n h. (grind (arith, nat_tests), grind (arith, nat_tests))) t p.0 i) (ancestors_forth ts (Some (uid_of t)) p.1 i)

-- the run of the trees of uids
pub uids_run : (us : List Uid) → map uid_node us ≡ runs_of (uid_trees us)
uids_run [] = refl
uids_run (u ∷ us) = ap (λ ns. uid_node u ∷ ns) (uids_run us)

-- how many they are
pub uids_count : (us : List Uid) → length us ≡ count (uid_trees us)
uids_count [] = refl
uids_count (u ∷ us) = ap suc (uids_count us)

-- how deep they nest
pub uids_flat : (us : List Uid) → nestings (uid_trees us) ≤ 1
uids_flat [] = omega arith
uids_flat (u ∷ us) = omega (arith, uids_flat us)

-- and the uids again
pub uids_back : (us : List Uid) → uids_of (uid_trees us) ≡ us
uids_back [] = refl
uids_back (u ∷ us) = ap (λ vs. u ∷ vs) (uids_back us)
