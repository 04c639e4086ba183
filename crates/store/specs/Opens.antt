-- What making a table of nodes answers, in words of lists of entities.
use Rattle.std.specs.Prelude.{◌≡◌, ℕ, List}
use Rattle.model.specs.declared.node.Node.{Node}
use Rattle.model.specs.Entities.{Entity}
use Rattle.model.specs.Images.{entity_runs, first_nodes}
use Rattle.model.specs.Fitting.{Storable}

-- the nodes and first nodes are those of a list that fits
abbrev pub NodesOf : List Node → List ℕ → List Entity → Type 0
NodesOf nodes fs es = Storable es × (entity_runs es ≡ nodes) × (first_nodes 0 es ≡ fs)
