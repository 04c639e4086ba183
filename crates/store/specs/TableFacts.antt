-- What holds of nodes with a list of first nodes of which no fault is found.
-- It stands here, and not among the proofs, since a table shows by it what its ghost member says.
use Rattle.std.specs.Prelude.{◌≡◌, ℕ, List, None}
use Rattle.model.specs.declared.node.Node.{Node}
use Rattle.model.specs.Stores.{Lawful, entities_of, table_fault}
use Rattle.laws.proofs.WholeRuns.{table_whole, entities_lawful}

-- they mean a list that a store may mean
pub table_lawful : (nodes : List Node) (fs : List ℕ) → table_fault nodes fs ≡ None → Lawful (entities_of nodes fs)
table_lawful nodes fs h = entities_lawful nodes fs (table_whole nodes fs h)
