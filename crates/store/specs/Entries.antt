-- How faults in runs are told.
use Rattle.std.specs.Prelude.{ℕ, ◌<◌, List, length}
use Rattle.model.specs.declared.fault.Fault.{Fault}
use Rattle.model.specs.declared.fault.Refusal.{Refusal}
use Rattle.model.specs.Faults.{of_entity}
use Rattle.model.specs.Stores.{first_at}

-- how a refusal is told, by the run, the index of its first node, and the node's number in the run
abbrev pub Telling : Type 0
Telling = ℕ → ℕ → ℕ → Refusal → Fault

-- a refusal at a node of a run that the list of first nodes begins
abbrev pub told : Telling → List ℕ → ℕ → ℕ → Refusal → Fault
told t fs k p r = t k (first_at fs k) p r

-- a table of nodes tells a refusal by the entity and the node of its run
abbrev pub by_entity : Telling
by_entity k first p r = of_entity r k p

-- the first nodes of all runs lie below a bound
abbrev pub AllBelow : ℕ → List ℕ → Type 0
AllBelow n fs = (k : ℕ) → k < length fs → first_at fs k < n
