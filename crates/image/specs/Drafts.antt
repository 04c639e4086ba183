-- What is written of a store, from one entity to the next.
use Rattle.std.specs.Prelude.{◌≡◌, ℕ, ◌+◌, ◌-◌, ◌<◌, cond, List, ◌++◌, length, Some, None, Ok, Err, vec_items, Option, Result, nat_lt}
use Rattle.model.specs.declared.node.Node.{Node}
use Rattle.model.specs.declared.fault.Fault.{Fault as AFault}
use Rattle.model.specs.declared.fault.Refusal.TheVariants.{Limit}
use Rattle.model.specs.Faults.{of_entity}
use Rattle.model.specs.Entities.{Entity}
use Rattle.model.specs.Stores.{AllFitParts, RunsFitParts, at_node}
use Rattle.model.specs.Images.{entity_runs, first_nodes, low_bytes, node_bytes, joined}
use Rattle.image.specs.declared.draft.Draft.{Draft}
use Rattle.image.specs.declared.error.ImageError.{ImageError}
use Rattle.image.specs.declared.error.ImageError.TheVariants.{Fault, NoMemory}

-- what writing the image of a list refuses: 2 at the node 65,537, as a table of these nodes would
abbrev pub write_fault : List Entity → Option AFault
write_fault es = cond (nat_lt 65536 (length (entity_runs es))) (Some (at_node Limit (first_nodes 0 es) 65536)) None

-- the place list and the nodes of these entities
pub record Drafted (es : List Entity) (d : Draft) : Type 0 where
  pub listed : vec_items d.list ≡ joined (low_bytes 4) (first_nodes 0 es)
  pub noded : vec_items d.nodes ≡ joined node_bytes (entity_runs es)
  pub counted : d.count ≡ length (entity_runs es)
  pub fitting : RunsFitParts es

-- a run is added
pub record Added (run : List Node) (d e : Draft) : Type 0 where
  pub listed : vec_items e.list ≡ vec_items d.list ++ low_bytes 4 d.count
  pub noded : vec_items e.nodes ≡ vec_items d.nodes ++ joined node_bytes run
  pub counted : e.count ≡ d.count + length run
  pub fitting : AllFitParts run

-- adding the run of the entity at a place: it is added, or its node 65,537 of all is refused
abbrev pub Adds : ℕ → List Node → Draft → Draft → Result (Unit {0}) ImageError → Type 0
Adds place run d e (Ok u) = Added run d e
Adds place run d e (Err (Fault f)) = (65536 < d.count + length run) × (f ≡ of_entity Limit place (65536 - d.count + 1))
Adds place run d e (Err NoMemory) = Unit {0}

-- why a list is not written: the fault that is foretold; want of memory says nothing
abbrev pub Unwritten : ImageError → List Entity → Type 0
Unwritten (Fault f) es = write_fault es ≡ Some f
Unwritten NoMemory es = Unit {0}
