-- Reading a run and writing one are inverse to each other.
use Rattle.std.specs.Prelude.{◌≡◌, ℕ, Bool, true, List, Ok}
use Rattle.model.specs.declared.node.Node.{Node}
use Rattle.model.specs.Trees.{Tree, root, run_of}
use Rattle.model.specs.declared.slot.Slot.{Slot}
use Rattle.model.specs.Layouts.{Layout, values, types}
use Rattle.model.specs.Reading.{read_run}
use Rattle.model.specs.Formed.{Formed, fits}
use Rattle.model.specs.Values as value
use Rattle.model.specs.Values.{Value}
use Rattle.model.specs.Types as type
use Rattle.model.specs.Types.{Ty}
use Rattle.model.specs.Entities.{Entity, Request, entity_run, request_run, read_entity, read_request, FormedEntity, FormedRequest}

-- of every layout and slot: each tree within the limits is read from its run, and nothing else is read
pub record TreesRead : Type 0 where
  pub every : (l : Layout) (s : Slot) (t : Tree) → Formed l s t → read_run l s (run_of t) ≡ Ok t
  pub only : (l : Layout) (s : Slot) (run : List Node) (t : Tree) → read_run l s run ≡ Ok t → Formed l s t × (run_of t ≡ run)

-- a value is that of its tree, and a tree that fits is that of its value
pub record ValuesRead : Type 0 where
  pub back : (f : ℕ) (v : Value) → value.value_of (value.tree_of f v) ≡ v
  pub forth : (s : Slot) (t : Tree) → fits values s t ≡ true → value.tree_of (root t).field (value.value_of t) ≡ t

-- the same of types
pub record TypesRead : Type 0 where
  pub back : (f : ℕ) (q : Bool) (t : Ty) → type.type_of (type.tree_of f q t) ≡ t
  pub forth : (s : Slot) (t : Tree) → fits types s t ≡ true → type.tree_of (root t).field (value.is_one (root t).number) (type.type_of t) ≡ t

-- each entity within the limits is read from its run, and nothing else is read
pub record EntitiesRead : Type 0 where
  pub every : (e : Entity) → FormedEntity e → read_entity (entity_run e) ≡ Ok e
  pub only : (run : List Node) (e : Entity) → read_entity run ≡ Ok e → FormedEntity e × (entity_run e ≡ run)

-- the same of requests
pub record RequestsRead : Type 0 where
  pub every : (q : Request) → FormedRequest q → read_request (request_run q) ≡ Ok q
  pub only : (run : List Node) (q : Request) → read_request run ≡ Ok q → FormedRequest q × (request_run q ≡ run)
