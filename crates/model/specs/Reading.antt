-- Reading a run: the tree, or the refusal and the node at which it stands, counted from 1.
-- A broken layout stands before a passed limit, and of each the first node. Reading stops at the first node that nests
-- deeper than 16 and at node 4,097: that node is still judged, and what lies behind it is not read.
use Rattle.std.specs.Prelude.{ℕ, zero, suc, ◌+◌, Bool, true, false, cond, ◌||◌, List, [], ◌∷◌, Some, None, Ok, Err, Option, Result, nat_le}
use Rattle.model.specs.declared.node.Node.{Node}
use Rattle.model.specs.declared.fault.Refusal.{Refusal}
use Rattle.model.specs.declared.fault.Refusal.TheVariants.{Malformed, Limit}
use Rattle.model.specs.Trees.{Tree, tree, Trees, none, more, root}
use Rattle.model.specs.declared.slot.Slot.{Slot}
use Rattle.model.specs.Slots.{next}
use Rattle.model.specs.Layouts.{Layout}

-- a refusal and the node at which it stands
abbrev pub Refused : Type 0
Refused = Refusal × ℕ

-- what is left of a run: its nodes, the number of the first of them, and the first node so far that passed a limit
pub record Rest : Type 0 where
  pub nodes : List Node
  pub place : ℕ
  pub passed : Option ℕ

-- what is read from a run and what is left of it, or the refusal
abbrev pub Read : Type 0 → Type 0
Read X = Result (X × Rest) Refused

-- one reading, and then another on what is left
abbrev pub and_then : {X Y : Type 0} → Read X → (X → Rest → Read Y) → Read Y
and_then (Ok x) f = f x.0 x.1
and_then (Err e) f = Err e

-- the first of two notes
abbrev pub earlier : Option ℕ → ℕ → ℕ
earlier None p = p
earlier (Some q) p = q

-- the first node so far that passed a limit, the node p included
abbrev pub note : Option ℕ → Bool → ℕ → Option ℕ
note passed keeps p = cond keeps passed (Some (earlier passed p))

-- the next node, in a slot of this layout; `deep` where it nests deeper than 16
abbrev pub judged : Layout → Bool → Slot → Rest → List Node → Read Node
judged l deep s r [] = Err (Malformed, r.place)
judged l deep s r (n ∷ ns) =
    cond (l.takes s n)
    (cond (deep || nat_le 4097 r.place) (Err (Limit, earlier r.passed r.place))
    (Ok (n, record { nodes = ns; place = r.place + 1; passed = note r.passed (l.keeps s n) r.place })))
    (Err (Malformed, r.place))

-- the next node of what is left of a run
abbrev pub read_node : Layout → Bool → Slot → Rest → Read Node
read_node l deep s r = judged l deep s r r.nodes

-- so many trees in turn, the first in this slot
abbrev pub read_trees : (Slot → Rest → Read Tree) → ℕ → Slot → Rest → Read Trees
read_trees child zero s r = Ok (none, r)
read_trees child (suc k) s r =
    and_then (child s r) (λ t r'. and_then (read_trees child k (next s (root t)) r') (λ ts r''. Ok (more t ts, r'')))

-- a tree with at most so much nesting
abbrev pub read_tree : Layout → ℕ → Slot → Rest → Read Tree
read_tree l zero s r = and_then (read_node l true s r) (λ n r'. Ok (tree n none, r'))
read_tree l (suc room) s r =
    and_then (read_node l false s r) (λ n r'. and_then (read_trees (read_tree l room) (l.arity n) (l.inside n) r') (λ ts r''. Ok (tree n ts, r'')))

-- a whole run, before its first node is read
abbrev pub start : List Node → Rest
start run = record { nodes = run; place = 1; passed = None }

-- what was read, unless a node passed a limit
abbrev pub unless_passed : {X : Type 0} → Option ℕ → X → Result X Refused
unless_passed None x = Ok x
unless_passed (Some p) x = Err (Limit, p)

-- a node that is left over breaks the run; else the first limit that was passed stands
abbrev pub ended : {X : Type 0} → List Node → Rest → X → Result X Refused
ended [] r x = unless_passed r.passed x
ended (n ∷ ns) r x = Err (Malformed, r.place)

-- what was read, if it is the whole run and no node passed a limit
abbrev pub whole : {X : Type 0} → Read X → Result X Refused
whole (Ok x) = ended x.1.nodes x.1 x.0
whole (Err e) = Err e

-- a run that is one tree: a value or a type
abbrev pub read_run : Layout → Slot → List Node → Result Tree Refused
read_run l s run = whole (read_tree l 16 s (start run))
