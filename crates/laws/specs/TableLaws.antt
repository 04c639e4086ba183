-- Making a table of nodes of a list and reading a table are inverse to each other.
use Rattle.std.specs.Prelude.{◌≡◌, ℕ, List, None}
use Rattle.model.specs.declared.node.Node.{Node}
use Rattle.model.specs.Entities.{Entity}
use Rattle.model.specs.Stores.{entities_of, table_fault}
use Rattle.model.specs.Images.{entity_runs, first_nodes}
use Rattle.model.specs.Fitting.{Storable}

-- a table is made of exactly the runs of a list that fits, and then means that list
pub record TablesRead : Type 0 where
  pub every : (es : List Entity) → Storable es → (table_fault (entity_runs es) (first_nodes 0 es) ≡ None) × (entities_of (entity_runs es) (first_nodes 0 es) ≡ es)
  pub only : (nodes : List Node) (fs : List ℕ) → table_fault nodes fs ≡ None → Storable (entities_of nodes fs) × (entity_runs (entities_of nodes fs) ≡ nodes) × (first_nodes 0 (entities_of nodes fs) ≡ fs)
