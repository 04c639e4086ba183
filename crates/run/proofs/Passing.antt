-- A turn of the count of values that are still to be passed, and that it passes over a tree.
use Rattle.std.proofs.Common.{pos, ◌≡◌, ℕ, zero, suc, ◌+◌, ◌-◌, ◌<◌, true, eqb, List, [], ◌∷◌, ◌++◌, length, drop, Some, None, Option, sym, refl, ap, ◌∙◌, append_assoc, arith}
use Rattle.std.proofs.lemmas.List.{at_drop_more, length-drop}
use Rattle.std.proofs.lemmas.Bool.{eqb-true, and_parts}
use Rattle.model.specs.declared.node.Node.{Node}
use Rattle.model.specs.declared.slot.Slot.{Slot}
use Rattle.model.specs.Slots.{next}
use Rattle.model.specs.Nodes.{plain}
use Rattle.model.specs.Trees.{Tree, tree, Trees, none, more, root, run_of, runs_of, count, size, sizes}
use Rattle.model.specs.Layouts.{values, value_arity}
use Rattle.model.specs.Formed.{fits, all_fit}
use Rattle.run.specs.Places.{passes, node_at}

-- what is read beyond a run's end
abbrev pub blank : Node
blank = plain 0 0 0 (pos 0)

-- fewer nodes than values: there is no end
passes_short : (xs : List Node) (n p : ℕ) → length xs < n → passes n xs p ≡ None
passes_short xs zero p h = absurd (omega arith)
passes_short [] (suc n) p h = refl
passes_short (x ∷ xs) (suc n) p h = passes_short xs (n + value_arity x) (p + 1) (omega arith)

module _ (run : List Node) (p n : ℕ) {r : Option ℕ} (inv : passes n (drop p run) p ≡ r) where
  pub pass_on : (a : ℕ) → 0 < n → p < length run → a ≡ value_arity (node_at run p) → passes (n - 1 + a) (drop (p + 1) run) (p + 1) ≡ r
  pass_on a some there e =
      let d : suc (n - 1) ≡ n = omega arith in
      ap (λ b. passes (n - 1 + b) (drop (p + 1) run) (p + 1)) e
      ∙ sym (at_drop_more (λ xs. passes (suc (n - 1)) xs p) run p blank there)
      ∙ ap (λ k. passes k (drop p run) p) d
      ∙ inv

  pub pass_out : length run - p < n → None ≡ r
  pass_out h = sym (passes_short (drop p run) n p (rw (length-drop p run) h)) ∙ inv

-- the same number of values and the same place, written otherwise
same : (xs : List Node) {n m p q : ℕ} → n ≡ m → p ≡ q → passes n xs p ≡ passes m xs q
same xs e d = λ i. passes (e i) xs (d i)

mutual
  passes_tree : (s : Slot) (t : Tree) (n p : ℕ) (post : List Node) → fits values s t ≡ true → passes (suc n) (run_of t ++ post) p ≡ passes n post (p + size t)
  passes_tree s (tree x ts) n p post f =
      let g = and_parts (values.takes s x) _ f in
      let h = and_parts (eqb (count ts) (value_arity x)) _ g.1 in
      let many : count ts ≡ value_arity x = eqb-true (count ts) (value_arity x) h.0 in
      let d : p + 1 + sizes ts ≡ p + suc (sizes ts) = omega arith in
      same (runs_of ts ++ post) (ap (λ a. n + a) (sym many)) refl
      ∙ passes_trees (values.inside x) ts n (p + 1) post h.1
      ∙ same post refl d

  passes_trees : (s : Slot) (ts : Trees) (n p : ℕ) (post : List Node) → all_fit values s ts ≡ true → passes (n + count ts) (runs_of ts ++ post) p ≡ passes n post (p + sizes ts)
  passes_trees s none n p post f =
      let a : n + 0 ≡ n = omega arith in
      let b : p ≡ p + 0 = omega arith in
      same post a b
  passes_trees s (more t ts) n p post f =
      let g = and_parts (fits values s t) _ f in
      let a : n + suc (count ts) ≡ suc (n + count ts) = omega arith in
      let b : p + size t + sizes ts ≡ p + (size t + sizes ts) = omega arith in
      ap (λ xs. passes (n + suc (count ts)) xs p) (append_assoc (run_of t) (runs_of ts) post)
      ∙ same (run_of t ++ (runs_of ts ++ post)) a refl
      ∙ passes_tree s t (n + count ts) p (runs_of ts ++ post) g.0
      ∙ passes_trees (next s (root t)) ts n (p + size t) post g.1
      ∙ same post refl b

-- where the tree at a place ends
pub passes_one : (run : List Node) (p : ℕ) (s : Slot) (t : Tree) (post : List Node) → fits values s t ≡ true → drop p run ≡ run_of t ++ post → passes 1 (drop p run) p ≡ Some (p + size t)
passes_one run p s t post f lies = ap (λ xs. passes 1 xs p) lies ∙ passes_tree s t 0 p post f
