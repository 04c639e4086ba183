-- A turn of the search for a name, and that it finds the field of a record.
use Rattle.std.proofs.Common.{◌≢◌, ◌≡◌, ℕ, suc, ◌+◌, ◌-◌, ◌<◌, Bool, true, false, cond, eqb, ltb, List, ◌++◌, length, get_or, drop, Some, None, Option, sym, refl, ap, ◌∙◌, append_assoc, add-zero, arith}
use Rattle.std.proofs.lemmas.List.{drop-drop, drop_at, get_or-drop, length-drop}
use Rattle.std.proofs.lemmas.Bool.{lt-ltb, ne_eqb, and_parts}
use Rattle.model.specs.declared.node.Node.{Node}
use Rattle.model.specs.declared.slot.Slot.{Slot}
use Rattle.model.specs.Slots.{next}
use Rattle.model.specs.Trees as trees
use Rattle.model.specs.Trees.{Tree, tree, root, run_of, runs_of}
use Rattle.model.specs.Layouts.{values}
use Rattle.model.specs.Formed.{fits, all_fit}
use Rattle.model.specs.Values.{Value, prim, set, rec, Values, none, more, count, size, sizes, field_at, tree_of, trees_of}
use Rattle.laws.proofs.ReadsOnly.{size_is}
use Rattle.run.specs.Places.{passes, node_at, from_end, named_of, place_of}
use Rattle.run.proofs.Passing.{blank, passes_one}

-- a turn of the loop: the values behind one that is named otherwise give what the values with it do
pub field_on : (run : List Node) (name k i p q : ℕ) {n : Node} {r : Option ℕ} → i < k → (p < length run) × ((d : Node) → n ≡ get_or run p d) → n.field ≢ name → Some q ≡ passes 1 (drop p run) p → named_of run name (k - i) p ≡ r → named_of run name (k - (i + 1)) q ≡ r
field_on run name k i p q h there other e inv =
    let d : suc (k - (i + 1)) ≡ k - i = omega arith in
    let not_here : false ≡ eqb (node_at run p).field name = sym (ne_eqb (node_at run p).field name (λ here. other (ap (λ n. n.field) (there.1 blank) ∙ here))) in
    (λ j. cond (sym (lt-ltb p (length run) there.0) j) (cond (not_here j) (Some p) (from_end (e j) (named_of run name (k - (i + 1))))) None)
    ∙ ap (λ m. named_of run name m p) d
    ∙ inv

-- the root of a tree lies where the tree lies
at_root : (run : List Node) (p : ℕ) (t : Tree) (post : List Node) → drop p run ≡ run_of t ++ post → (p < length run) × (node_at run p ≡ root t)
at_root run p (tree n ts) post lies = (
  omega (arith, length-drop p run, ap length lies),
  ap (λ q. get_or run q blank) (sym (add-zero p)) ∙ sym (get_or-drop p run 0 blank) ∙ ap (λ xs. get_or xs 0 blank) lies,
)

-- and behind it what follows
behind : (run : List Node) (p : ℕ) (t : Tree) (post : List Node) → drop p run ≡ run_of t ++ post → drop (p + trees.size t) run ≡ post
behind run p t post lies = sym (drop-drop (trees.size t) p run) ∙ ap (drop (trees.size t)) lies ∙ drop_at (run_of t) post (trees.size t) (sym (size_is t))

name_is : (m : ℕ) (v : Value) → (root (tree_of m v)).field ≡ m
name_is m (prim x) = refl
name_is m (set vs) = refl
name_is m (rec vs) = refl

-- a value has as many nodes as its tree
mutual
  size_of : (m : ℕ) (v : Value) → trees.size (tree_of m v) ≡ size v
  size_of m (prim x) = refl
  size_of m (set vs) = ap suc (sizes_of vs)
  size_of m (rec vs) = ap suc (sizes_of vs)

  sizes_of : (vs : Values) → trees.sizes (trees_of vs) ≡ sizes vs
  sizes_of none = refl
  sizes_of (more m v vs) = λ i. size_of m v i + sizes_of vs i

place_cond : (b : Bool) (p : ℕ) (v : Value) (o : Option (ℕ × Value)) → cond b (Some p) (place_of o) ≡ place_of (cond b (Some (p, v)) o)
place_cond true p v o = refl
place_cond false p v o = refl

named_is : (run : List Node) (name : ℕ) (s : Slot) (vs : Values) (p : ℕ) (post : List Node) → all_fit values s (trees_of vs) ≡ true → drop p run ≡ runs_of (trees_of vs) ++ post → named_of run name (count vs) p ≡ place_of (field_at name p vs)
named_is run name s none p post f lies = refl
named_is run name s (more m v vs) p post f lies =
    let t : Tree = tree_of m v in
    let g = and_parts (fits values s t) _ f in
    let lies' = lies ∙ append_assoc (run_of t) (runs_of (trees_of vs)) post in
    let first = at_root run p t (runs_of (trees_of vs) ++ post) lies' in
    let there : ltb p (length run) ≡ true = lt-ltb p (length run) first.0 in
    let field : (node_at run p).field ≡ m = ap (λ n. n.field) first.1 ∙ name_is m v in
    let ends : passes 1 (drop p run) p ≡ Some (p + size v) = passes_one run p s t (runs_of (trees_of vs) ++ post) g.0 lies' ∙ ap (λ k. Some (p + k)) (size_of m v) in
    let lies'' : drop (p + size v) run ≡ runs_of (trees_of vs) ++ post = ap (λ k. drop (p + k) run) (sym (size_of m v)) ∙ behind run p t (runs_of (trees_of vs) ++ post) lies' in
    (λ i. cond (there i) (cond (eqb (field i) name) (Some p) (from_end (ends i) (named_of run name (count vs)))) None)
    ∙ ap (cond (eqb m name) (Some p)) (named_is run name (next s (root t)) vs (p + size v) post g.1 lies'')
    ∙ place_cond (eqb m name) p v (field_at name (p + size v) vs)

-- the field of a record that lies there, whose node announces as many fields
pub field_is : (run : List Node) (name p a : ℕ) (s : Slot) (f : ℕ) (vs : Values) (post : List Node) → fits values s (tree_of f (rec vs)) ≡ true → drop p run ≡ run_of (tree_of f (rec vs)) ++ post → a ≡ (node_at run p).a → named_of run name a (p + 1) ≡ place_of (field_at name (p + 1) vs)
field_is run name p a s f vs post fit lies many =
    let t : Tree = tree_of f (rec vs) in
    let first = at_root run p t post lies in
    let parts = and_parts (values.takes s (root t)) _ fit in
    let inner = and_parts (eqb (trees.count (trees_of vs)) (count vs)) _ parts.1 in
    ap (λ k. named_of run name k (p + 1)) (many ∙ ap (λ n. n.a) first.1)
    ∙ named_is run name (values.inside (root t)) vs (p + 1) post inner.1 (sym (drop-drop 1 p run) ∙ ap (drop 1) lies)
