-- The types of a closed schema have their names apart: a run of a type is read only where its fields ascend.
use Rattle.std.proofs.Common.{◌≡◌, ℕ, ◌≤◌, Bool, true, false, cond, ◌&&◌, eqb, List, [], ◌∷◌, map, Some, None, Ok, Err, Option, Result, sym, refl, ◌∙◌, subst, arith}
use Rattle.std.proofs.lemmas.Bool.{and_parts, ltb-true, ne_eqb, cond-false}
use Rattle.model.specs.declared.node.Node.{Node}
use Rattle.model.specs.Trees as trees
use Rattle.model.specs.Trees.{Tree, tree, Trees, root}
use Rattle.model.specs.Options.{find, mapped, unless}
use Rattle.model.specs.declared.slot.Slot.{Slot}
use Rattle.model.specs.declared.slot.Slot.TheVariants.{Plain, Named, ARecord, AUid, Ancestor}
use Rattle.model.specs.Slots.{Uid, name_follows, next}
use Rattle.model.specs.Layouts.{Layout, types, type_node, type_mark}
use Rattle.model.specs.declared.fault.Fault.{Fault}
use Rattle.model.specs.Reading.{Refused, read_run}
use Rattle.model.specs.Formed.{fits, all_fit}
use Rattle.model.specs.Types.{Ty, Tys, flat, set, rec, none, more, field, flat_of, first_type, type_of, types_of}
use Rattle.model.specs.Schemas.{Schema, Open, Body, standard, enum, TypeRow, ActionRow, same_uid, as_type, type_in, closed_body, closed_type, closed_action, closed, close_fault, close, context_in, attributes_in, tags_in}
use Rattle.laws.specs.WalkLaws.{Apart, AllApart, NamesApart}
use Rattle.laws.proofs.ReadsOnly.{trees_read}
use Rattle.laws.proofs.Searches.{none_not}

-- field names ascend, from above the one before
abbrev Ascending : Option ℕ → Tys → Type 0
Ascending before none = Unit {0}
Ascending before (more name required of rest) = (name_follows before name ≡ true) × Ascending (Some name) rest

abbrev InSlot : Slot → Tys → Type 0
InSlot Plain ts = Unit {0}
InSlot (Named before) ts = Ascending before ts
InSlot ARecord ts = Unit {0}
InSlot AUid ts = Unit {0}
InSlot (Ancestor before) ts = Unit {0}

abbrev EachApart : Tys → Type 0
EachApart none = Unit {0}
EachApart (more name required of rest) = Apart of × EachApart rest

-- so none of them comes again
absent : (n m : ℕ) (ts : Tys) → n ≤ m → Ascending (Some m) ts → field n ts ≡ None
absent n m none h a = refl
absent n m (more name required of rest) h a =
    let below = ltb-true m name a.0 in
    cond-false (eqb name n) (Some (required, of)) (field n rest) (ne_eqb name n (λ e. omega arith)) ∙ absent n name rest (omega arith) a.1

all_apart : (before : Option ℕ) (ts : Tys) → Ascending before ts → EachApart ts → AllApart ts
all_apart before none a e = tt
all_apart before (more name required of rest) a e = (absent name name rest (omega arith) a.1, (e.0, all_apart (Some name) rest a.1 e.1))

-- a set, a record or a flat type of such children
first_apart : (ts : Tys) → EachApart ts → Apart (first_type ts)
first_apart none e = tt
first_apart (more name required of rest) e = e.0

grouped_apart : (is_set is_closed is_open : Bool) (ts : Tys) (x : Ty) → EachApart ts → InSlot (cond is_set Plain (Named None)) ts → Apart x →
    Apart (cond is_set (set (first_type ts)) (cond is_closed (rec false ts) (cond is_open (rec true ts) x)))
grouped_apart true is_closed is_open ts x e a h = first_apart ts e
grouped_apart false true is_open ts x e a h = all_apart None ts a e
grouped_apart false false true ts x e a h = all_apart None ts a e
grouped_apart false false false ts x e a h = h

-- no trees fill any slot
in_none : (s : Slot) → InSlot s none
in_none Plain = tt
in_none (Named before) = tt
in_none ARecord = tt
in_none AUid = tt
in_none (Ancestor before) = tt

-- a tree that fills a slot: a field's name follows
slot_more : (s : Slot) (t : Tree) (ts : Tys) (required : Bool) (of : Ty) → types.takes s (root t) ≡ true → InSlot (next s (root t)) ts → InSlot s (more (root t).field required of ts)
slot_more Plain t ts required of h a = tt
slot_more (Named before) t ts required of h a = ((and_parts (name_follows before (root t).field) (type_node (root t) && type_mark (Named before) (root t)) h).0, a)
slot_more ARecord t ts required of h a = tt
slot_more AUid t ts required of h a = tt
slot_more (Ancestor before) t ts required of h a = tt

root_takes : (l : Layout) (s : Slot) (t : Tree) → fits l s t ≡ true → l.takes s (root t) ≡ true
root_takes l s (tree n ts) h = (and_parts (l.takes s n) _ h).0

-- a tree that fits the layout of types
mutual
  tree_apart : (s : Slot) (t : Tree) → fits types s t ≡ true → Apart (type_of t)
  tree_apart s (tree n ts) h =
      let inner = (and_parts (types.takes s n) (eqb (trees.count ts) (types.arity n) && all_fit types (types.inside n) ts) h).1 in
      let both = trees_apart (types.inside n) ts (and_parts (eqb (trees.count ts) (types.arity n)) (all_fit types (types.inside n) ts) inner).1 in
      grouped_apart (eqb n.kind 10) (eqb n.kind 12) (eqb n.kind 13) (types_of ts) (flat (flat_of n)) both.0 both.1 tt

  trees_apart : (s : Slot) (ts : Trees) → all_fit types s ts ≡ true → EachApart (types_of ts) × InSlot s (types_of ts)
  trees_apart s trees.none h = (tt, in_none s)
  trees_apart s (trees.more t ts) h =
      let both = and_parts (fits types s t) (all_fit types (next s (root t)) ts) h in
      let rest = trees_apart (next s (root t)) ts both.1 in
      ((tree_apart s t both.0, rest.0), slot_more s t (types_of ts) _ _ (root_takes types s t both.0) rest.1)

-- the type of a run, read or not
type_apart : (s : Slot) (run : List Node) → Apart (type_in s run)
type_apart s run = go (read_run types s run) (λ t e. tree_apart s t (trees_read.only types s run t e).0.fitting)
  where
    go : (x : Result Tree Refused) → ((t : Tree) → x ≡ Ok t → Apart (type_of t)) → Apart (as_type x)
    go (Ok t) f = f t refl
    go (Err e) f = tt

optional_apart : (s : Slot) (o : Option (List Node)) (t : Ty) → mapped (type_in s) o ≡ Some t → Apart t
optional_apart s None t h = none_not h
optional_apart s (Some run) t h = let is : type_in s run ≡ t = cc in subst Apart is (type_apart s run)

-- the types in the row of a type, and in that of an action
attributes_apart : (b : Body (List Node)) (t : Ty) → attributes_in (Some (closed_body b)) ≡ Some t → Apart t
attributes_apart (standard ds attributes tags) t h = let is : type_in ARecord attributes ≡ t = cc in subst Apart is (type_apart ARecord attributes)
attributes_apart (enum ms) t h = none_not h

tags_apart : (b : Body (List Node)) (t : Ty) → tags_in (Some (closed_body b)) ≡ Some t → Apart t
tags_apart (standard ds attributes tags) t h = optional_apart Plain tags t h
tags_apart (enum ms) t h = none_not h

-- what a row that is found says, where every row says it
row_says : (says : Option (Body Ty) → Option Ty) (n : ℕ) (t : Ty) → ((b : Body (List Node)) → says (Some (closed_body b)) ≡ Some t → Apart t) → says None ≡ None →
    (rows : List (TypeRow (List Node))) → says (mapped (λ r. r.body) (find (λ r. eqb r.name n) (map closed_type rows))) ≡ Some t → Apart t
row_says says n t f e [] h = none_not (sym e ∙ h)
row_says says n t f e (r ∷ rows) h = go (eqb r.name n) h (row_says says n t f e rows)
  where
    go : (c : Bool) → says (mapped (λ r. r.body) (cond c (Some (closed_type r)) (find (λ r. eqb r.name n) (map closed_type rows)))) ≡ Some t →
        (says (mapped (λ r. r.body) (find (λ r. eqb r.name n) (map closed_type rows))) ≡ Some t → Apart t) → Apart t
    go true h ih = f r.body h
    go false h ih = ih h

context_says : (u : Uid) (t : Ty) (rows : List (ActionRow (List Node))) → context_in (find (λ r. same_uid r.uid u) (map closed_action rows)) ≡ Some t → Apart t
context_says u t [] h = none_not h
context_says u t (r ∷ rows) h = go (same_uid r.uid u) h (context_says u t rows)
  where
    go : (c : Bool) → context_in (cond c (Some (closed_action r)) (find (λ r. same_uid r.uid u) (map closed_action rows))) ≡ Some t →
        (context_in (find (λ r. same_uid r.uid u) (map closed_action rows)) ≡ Some t → Apart t) → Apart t
    go true h ih = optional_apart Plain r.context t h
    go false h ih = ih h

-- a schema that was closed
pub close_apart : (o : Open) (s : Schema) → close o ≡ Ok s → NamesApart s
close_apart o s h = go (close_fault o) h
  where
    go : (f : Option Fault) → unless f (closed o) ≡ Ok s → NamesApart s
    go None h = let is : closed o ≡ s = cc in subst NamesApart is (record {
      attributes = λ n t e. row_says attributes_in n t (λ b. attributes_apart b t) refl o.types e;
      tags = λ n t e. row_says tags_in n t (λ b. tags_apart b t) refl o.types e;
      contexts = λ u t e. context_says u t o.actions e;
    })
    go (Some f) h = let z : ◌≡◌ {A = ℕ} 0 1 = cc in absurd (omega arith)
