-- Runs of nodes as trees. A run lists a node and then its children in turn.
use Rattle.std.specs.Prelude.{ℕ, suc, ◌+◌, max, List, [], ◌∷◌, ◌++◌}
use Rattle.model.specs.declared.node.Node.{Node}

mutual
  -- a node with its children
  pub data Tree : Type 0 where
    tree : (root : Node) (children : Trees) → Tree

  -- trees in turn: the children of a node
  pub data Trees : Type 0 where
    none : Trees
    more : (first : Tree) (rest : Trees) → Trees

-- the node at the root of a tree
abbrev pub root : Tree → Node
root (tree n ts) = n

-- the run of a tree, and of several in turn
abbrev mutual
  pub run_of : Tree → List Node
  run_of (tree n ts) = n ∷ runs_of ts

  pub runs_of : Trees → List Node
  runs_of none = []
  runs_of (more t ts) = run_of t ++ runs_of ts

-- how many trees there are
abbrev pub count : Trees → ℕ
count none = 0
count (more t ts) = suc (count ts)

-- how many nodes a tree has
abbrev mutual
  pub size : Tree → ℕ
  size (tree n ts) = suc (sizes ts)

  pub sizes : Trees → ℕ
  sizes none = 0
  sizes (more t ts) = size t + sizes ts

-- how deep a tree nests: a node without children has nesting 1
abbrev mutual
  pub nesting : Tree → ℕ
  nesting (tree n ts) = suc (nestings ts)

  -- how deep the deepest of some trees nests
  pub nestings : Trees → ℕ
  nestings none = 0
  nestings (more t ts) = max (nesting t) (nestings ts)
