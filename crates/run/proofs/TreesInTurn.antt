-- The reading of a tree from that of its root and its children, and a turn of the loop over several trees.
use Rattle.std.proofs.Common.{◌≡◌, ℕ, zero, suc, ◌+◌, ◌-◌, ◌<◌, false, eqb, Ok, Err, sym, refl, ap, ◌∙◌, arith}
use Rattle.std.proofs.lemmas.Bool.{ne_eqb}
use Rattle.model.specs.declared.node.Node.{Node}
use Rattle.model.specs.declared.slot.Slot.{Slot}
use Rattle.model.specs.Slots.{next}
use Rattle.model.specs.Trees.{Tree, tree, Trees, more, root}
use Rattle.model.specs.Layouts.{Layout}
use Rattle.model.specs.Reading.{Rest, Read, and_then, read_node, read_tree, read_trees}
use Rattle.run.specs.Reads.{seen, rest_only}

-- what is made of the trees that are read does not show where only the root, or only the rest, is kept
root_kept : (n : Node) (o : Read Trees) → seen (λ u. n) (rest_only o) ≡ seen root (and_then o (λ ts r. Ok (tree n ts, r)))
root_kept n (Ok x) = refl
root_kept n (Err e) = refl

pub more_kept : (t : Tree) (o : Read Trees) → rest_only (and_then o (λ ts r. Ok (more t ts, r))) ≡ rest_only o
more_kept t (Ok x) = refl
more_kept t (Err e) = refl

-- the reading of a tree, of which the root is kept: its root, and then its children
step : (l : Layout) (room : ℕ) (o : Read Node) → and_then o (λ n r. seen (λ u. n) (rest_only (read_trees (read_tree l room) (l.arity n) (l.inside n) r))) ≡ seen root (and_then o (λ n r. and_then (read_trees (read_tree l room) (l.arity n) (l.inside n) r) (λ ts r'. Ok (tree n ts, r'))))
step l room (Ok x) = root_kept x.0 (read_trees (read_tree l room) (l.arity x.0) (l.inside x.0) x.1)
step l room (Err e) = refl

pub tree_step : (l : Layout) (room : ℕ) (s : Slot) (r : Rest) → 0 < room → seen root (read_tree l room s r) ≡ and_then (read_node l (eqb room 0) s r) (λ n r'. seen (λ u. n) (rest_only (read_trees (read_tree l (room - 1)) (l.arity n) (l.inside n) r')))
tree_step l zero s r some = absurd (omega arith)
tree_step l (suc room) s r some =
    let d : room ≡ suc room - 1 = omega arith in
    let b : false ≡ eqb (suc room) 0 = sym (ne_eqb (suc room) 0 (omega arith)) in
    sym (step l room (read_node l false s r))
    ∙ (λ i. and_then (read_node l (b i) s r) (λ n r'. seen (λ u. n) (rest_only (read_trees (read_tree l (d i)) (l.arity n) (l.inside n) r'))))

-- several trees by the root of the first
one_more : (child : Slot → Rest → Read Tree) (k : ℕ) (s : Slot) (o : Read Tree) → and_then (seen root o) (λ n r'. rest_only (read_trees child k (next s n) r')) ≡ rest_only (and_then o (λ t r'. and_then (read_trees child k (next s (root t)) r') (λ ts r''. Ok (more t ts, r''))))
one_more child k s (Ok x) = sym (more_kept x.0 (read_trees child k (next s (root x.0)) x.1))
one_more child k s (Err e) = refl

-- a turn of the loop: the trees behind one that is read give what the trees with it do
pub turn_on : (child : Slot → Rest → Read Tree) (k i : ℕ) (s : Slot) (r : Rest) {z : Read (Unit {0})} {n : Node} {r' : Rest} {s' : Slot} → i < k → rest_only (read_trees child (k - i) s r) ≡ z → s' ≡ next s n → Ok (n, r') ≡ seen root (child s r) → rest_only (read_trees child (k - (i + 1)) s' r') ≡ z
turn_on child k i s r {z} {n} {r'} h inv d e =
    let j : suc (k - (i + 1)) ≡ k - i = omega arith in
    ap (λ s''. rest_only (read_trees child (k - (i + 1)) s'' r')) d
    ∙ ap (λ o. and_then o (λ n r'. rest_only (read_trees child (k - (i + 1)) (next s n) r'))) e
    ∙ one_more child (k - (i + 1)) s (child s r)
    ∙ ap (λ m. rest_only (read_trees child m s r)) j
    ∙ inv
