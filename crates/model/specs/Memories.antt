-- What memory holds after a call, and how the records of a pool are shared out.
use Rattle.std.specs.Prelude.{◌≡◌, ℕ, ◌+◌, ◌<◌, cond, List, [], ◌∷◌, ◌++◌, map, length, pos, ◌==◌}
use Rattle.model.specs.declared.node.Node.{Node}
use Rattle.model.specs.Nodes.{plain}
use Rattle.model.specs.Terms.{Term, size}

-- as many records, entries or nodes as before, each zero: what a refused build leaves of its memory, and every build of
-- its load buffer
abbrev pub cleared : {X : Type 0} → X → List X → List X
cleared zero xs = map (λ x. zero) xs

-- a node that is zero in all its parts
abbrev pub zero_node : Node
zero_node = plain 0 0 0 (pos 0)

-- how often a place stands in a list
abbrev pub occurrences : ℕ → List ℕ → ℕ
occurrences k [] = 0
occurrences k (p ∷ ps) = cond (k == p) 1 0 + occurrences k ps

-- the places of all terms together
abbrev pub all_places : List (List ℕ) → List ℕ
all_places [] = []
all_places (ps ∷ rest) = ps ++ all_places rest

-- each term has as many places as it takes records
abbrev pub Takes : List Term → List (List ℕ) → Type 0
Takes [] [] = Unit {0}
Takes [] (ps ∷ rest) = ⊥
Takes (t ∷ ts) [] = ⊥
Takes (t ∷ ts) (ps ∷ rest) = (length ps ≡ size t) × Takes ts rest

-- the records of a pool of n: those in use are exactly those of the terms, none is in two terms or twice in one, and
-- every other record is free
pub record SharedOut (n : ℕ) (terms : List Term) : Type 0 where
  pub places : List (List ℕ)
  pub free : List ℕ
  pub takes : Takes terms places
  pub once : (k : ℕ) → k < n → occurrences k (all_places places ++ free) ≡ 1
