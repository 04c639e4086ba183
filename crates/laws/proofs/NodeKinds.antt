-- Every node of whole nodes is a node of a value or the head of an entity.
use Rattle.std.proofs.Common.{◌≡◌, ℕ, ◌<◌, ◌≤◌, Bool, true, false, cond, ◌||◌, eqb, List, [], ◌∷◌, ◌++◌, map, length, get_or, None, refl, subst, inl, inr, arith}
use Rattle.std.specs.List.{AllByRecursion as All}
use Rattle.std.proofs.lemmas.Bool.{and_parts}
use Rattle.std.proofs.lemmas.Bool.Decides.{nat_tests}
use Rattle.std.proofs.ByRecursion.{All-append, All-get_or}
use Rattle.model.specs.declared.node.Node.{Node}
use Rattle.model.specs.Kinds.{Known}
use Rattle.model.specs.Trees.{Tree, tree, Trees, none, more, root, count, run_of, runs_of}
use Rattle.model.specs.declared.slot.Slot.{Slot}
use Rattle.model.specs.declared.slot.Slot.TheVariants.{Named, ARecord}
use Rattle.model.specs.Slots.{Uid, next}
use Rattle.model.specs.Layouts.{values, value_node, value_arity}
use Rattle.model.specs.Formed.{fits, all_fit}
use Rattle.model.specs.Values.{uid_node, trees_of}
use Rattle.model.specs.Entities.{Entity, FormedEntity, attributes_tree, entity_run}
use Rattle.model.specs.Stores.{AllFormed, entities_of}
use Rattle.model.specs.Images.{entity_runs}
use Rattle.laws.proofs.WholeRuns.{Filled, entities_lawful}
use Rattle.laws.proofs.TableRuns.{covers}

-- a kind that is known and none of a value's is that of a head
pub known_head : (k : ℕ) → Known k → (k ≡ 1 → ⊥) → (k ≡ 2 → ⊥) → (k ≡ 3 → ⊥) → (k ≡ 4 → ⊥) → (k ≡ 5 → ⊥) → (k ≡ 6 → ⊥) → (k ≡ 7 → ⊥) → k ≡ 9
known_head k (inl h) a b c d e f g = absurd (omega arith)
known_head k (inr h) a b c d e f g = h

-- the same of a node
abbrev KnownNode : Node → Type 0
KnownNode n = Known n.kind

-- the tests on the kinds of a value's nodes, whatever they ask besides
tested_kind : (k : ℕ) (p q r s t : Bool) → cond (eqb k 1) p (cond (eqb k 2) q (cond (eqb k 3 || (eqb k 5 || eqb k 6)) r (cond (eqb k 4) s (cond (eqb k 7) t false)))) ≡ true → (1 ≤ k) × (k ≤ 7)
tested_kind k p q r s t h = (grind (arith, nat_tests), grind (arith, nat_tests))

-- a node of a value
value_known : (n : Node) → value_node n ≡ true → KnownNode n
value_known n h = inl (tested_kind n.kind _ _ _ _ _ h)

-- the nodes of a tree of the layout of values, and of several in turn
mutual
  tree_known : (s : Slot) (t : Tree) → fits values s t ≡ true → All KnownNode (run_of t)
  tree_known s (tree n ts) h =
      let p = and_parts (values.takes s n) _ h in
      let q = and_parts (eqb (count ts) (value_arity n)) _ p.1 in
      (value_known n (and_parts _ (value_node n) p.0).1, trees_known (values.inside n) ts q.1)

  trees_known : (s : Slot) (ts : Trees) → all_fit values s ts ≡ true → All KnownNode (runs_of ts)
  trees_known s none h = tt
  trees_known s (more t ts) h =
      let p = and_parts (fits values s t) _ h in
      All-append KnownNode (run_of t) (runs_of ts) (tree_known s t p.0) (trees_known (next s (root t)) ts p.1)

-- the nodes of uids
uids_known : (us : List Uid) → All KnownNode (map uid_node us)
uids_known [] = tt
uids_known (u ∷ us) = (inl (omega arith, omega arith), uids_known us)

-- the nodes of the run of an entity
entity_known : (e : Entity) → FormedEntity e → All KnownNode (entity_run e)
entity_known e f = (
  inr refl,
  All-append KnownNode (run_of (attributes_tree e)) (map uid_node e.ancestors ++ runs_of (trees_of e.tags))
      (tree_known ARecord (attributes_tree e) f.attributes)
      (All-append KnownNode (map uid_node e.ancestors) (runs_of (trees_of e.tags)) (uids_known e.ancestors) (trees_known (Named None) (trees_of e.tags) f.tags)),
)

-- the nodes of the runs of a list
entities_known : (es : List Entity) → AllFormed es → All KnownNode (entity_runs es)
entities_known [] h = tt
entities_known (e ∷ es) h = All-append KnownNode (entity_run e) (entity_runs es) (entity_known e h.0) (entities_known es h.1)

-- every node of whole nodes has a known kind
pub kinds : (nodes : List Node) (fs : List ℕ) → Filled nodes fs → (j : ℕ) (z : Node) → j < length nodes → Known (get_or nodes j z).kind
kinds nodes fs f j z l =
    All-get_or KnownNode nodes j z l (subst (All KnownNode) (covers nodes fs f).0 (entities_known (entities_of nodes fs) (entities_lawful nodes fs f.whole).formed))
