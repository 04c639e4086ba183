-- Each tree within the limits is read from its run.
use Rattle.std.proofs.Common.{◌≡◌, ℕ, zero, suc, ◌+◌, ◌≤◌, true, false, cond, eqb, List, [], ◌∷◌, ◌++◌, None, Ok, Err, Result, sym, ap, ◌∙◌, append_assoc, arith}
use Rattle.std.proofs.lemmas.Bool.{eqb-true, lt-leb, and_parts}
use Rattle.std.proofs.lemmas.List.{append-nil}
use Rattle.model.specs.declared.node.Node.{Node}
use Rattle.model.specs.declared.fault.Refusal.TheVariants.{Malformed, Limit}
use Rattle.model.specs.Trees.{Tree, tree, Trees, none, more, root, run_of, runs_of, count, size, sizes, nesting, nestings}
use Rattle.model.specs.declared.slot.Slot.{Slot}
use Rattle.model.specs.Slots.{next}
use Rattle.model.specs.Layouts.{Layout}
use Rattle.model.specs.Reading.{Rest, Read, Refused, and_then, note, read_node, read_tree, read_trees, read_run, whole}
use Rattle.model.specs.Formed.{Formed, fits, all_fit, keeps, all_keep}

-- these nodes are left, the first of them is node p, and no limit was passed
abbrev pub at : List Node → ℕ → Rest
at ns p = record { nodes = ns; place = p; passed = None }

-- a reading that goes on after one whose answer is known
on : {X Y : Type 0} {r : Read X} {x : X} {rest : Rest} (f : X → Rest → Read Y) {o : Read Y} → r ≡ Ok (x, rest) → f x rest ≡ o → and_then r f ≡ o
on f e g = ap (λ r. and_then r f) e ∙ g

-- the same of a reading of a whole run
pub whole_on : {X Y : Type 0} {r : Read X} {x : X} {rest : Rest} (f : X → Rest → Read Y) {o : Result Y Refused} → r ≡ Ok (x, rest) → whole (f x rest) ≡ o → whole (and_then r f) ≡ o
whole_on f e g = ap (λ r. whole (and_then r f)) e ∙ g

-- a node that its slot takes and that keeps the limits
pub node_reads : (l : Layout) (s : Slot) (n : Node) (ns : List Node) (p : ℕ) → l.takes s n ≡ true → l.keeps s n ≡ true → p ≤ 4096 → read_node l false s (at (n ∷ ns) p) ≡ Ok (n, at ns (p + 1))
node_reads l s n ns p takes keeps near = λ i.
    cond (takes i)
    (cond (lt-leb 4097 p (omega arith) i) (Err (Limit, p)) (Ok (n, record { nodes = ns; place = p + 1; passed = note None (keeps i) p })))
    (Err (Malformed, p))

-- a tree that lies at p, whatever follows, and several in turn
mutual
  pub tree_reads : (t : Tree) (l : Layout) (room : ℕ) (s : Slot) (ns : List Node) (p : ℕ) → fits l s t ≡ true → keeps l s t ≡ true → nesting t ≤ room → p + size t ≤ 4097 → read_tree l room s (at (run_of t ++ ns) p) ≡ Ok (t, at ns (p + size t))
  tree_reads (tree n ts) l zero s ns p f k d z = absurd (omega arith)
  tree_reads (tree n ts) l (suc room) s ns p f k d z =
      let f' = and_parts (l.takes s n) _ f in
      let f'' = and_parts (eqb (count ts) (l.arity n)) _ f'.1 in
      let k' = and_parts (l.keeps s n) _ k in
      on _ (node_reads l s n (runs_of ts ++ ns) p f'.0 k'.0 (omega arith))
      (on _ (ap (λ c. read_trees (read_tree l room) c (l.inside n) (at (runs_of ts ++ ns) (p + 1))) (sym (eqb-true _ _ f''.0)) ∙ trees_read ts l room (l.inside n) ns (p + 1) f''.1 k'.1 (omega arith) (omega arith))
      (let e : p + 1 + sizes ts ≡ p + suc (sizes ts) = omega arith in ap (λ q. Ok (tree n ts, at ns q)) e))

  pub trees_read : (ts : Trees) (l : Layout) (room : ℕ) (s : Slot) (ns : List Node) (p : ℕ) → all_fit l s ts ≡ true → all_keep l s ts ≡ true → nestings ts ≤ room → p + sizes ts ≤ 4097 → read_trees (read_tree l room) (count ts) s (at (runs_of ts ++ ns) p) ≡ Ok (ts, at ns (p + sizes ts))
  trees_read none l room s ns p f k d z = let e : p ≡ p + 0 = omega arith in ap (λ q. Ok (none, at ns q)) e
  trees_read (more t ts) l room s ns p f k d z =
      let f' = and_parts (fits l s t) _ f in
      let k' = and_parts (keeps l s t) _ k in
      on _ (ap (λ r. read_tree l room s (at r p)) (append_assoc (run_of t) (runs_of ts) ns) ∙ tree_reads t l room s (runs_of ts ++ ns) p f'.0 k'.0 (omega arith) (omega arith))
      (on _ (trees_read ts l room (next s (root t)) ns (p + size t) f'.1 k'.1 (omega arith) (omega arith))
      (let e : p + size t + sizes ts ≡ p + (size t + sizes ts) = omega arith in ap (λ q. Ok (more t ts, at ns q)) e))

-- the run of a tree by itself
pub run_reads : (l : Layout) (s : Slot) (t : Tree) → Formed l s t → read_run l s (run_of t) ≡ Ok t
run_reads l s t f =
    ap (λ r. whole (read_tree l 16 s (at r 1))) (sym (append-nil (run_of t)))
    ∙ ap whole (tree_reads t l 16 s [] 1 f.fitting f.kept f.shallow (omega (arith, f.short)))
