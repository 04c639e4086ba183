-- Schemas: rows of entity types and of actions, when a schema is well formed, and what a closed one says.
use Rattle.std.specs.Prelude.{ℕ, ◌+◌, Bool, true, false, cond, not, ◌&&◌, ◌||◌, List, [], ◌∷◌, ◌++◌, map, length, Some, None, Ok, Err, Option, Result, ◌==◌, nat_eq, nat_le, nat_lt}
use Rattle.model.specs.declared.node.Node.{Node}
use Rattle.model.specs.declared.fault.Fault.{Fault}
use Rattle.model.specs.declared.fault.Refusal.{Refusal}
use Rattle.model.specs.declared.fault.Refusal.TheVariants.{Malformed, Limit, IllFormedSchema}
use Rattle.model.specs.declared.fault.Layer.TheVariants.{Schema as schema_layer}
use Rattle.model.specs.Faults.{refusal_number, placed}
use Rattle.model.specs.Options.{or_else, find, filter, any, mapped, unless}
use Rattle.model.specs.Trees.{Tree}
use Rattle.model.specs.declared.slot.Slot.{Slot}
use Rattle.model.specs.declared.slot.Slot.TheVariants.{Plain, ARecord}
use Rattle.model.specs.Slots.{Uid}
use Rattle.model.specs.Layouts.{types, is_name}
use Rattle.model.specs.Reading.{Refused, read_run}
use Rattle.model.specs.Types.{Ty, flat, never, type_of, names}

-- a type: standard, with the types of its descendants, its attributes and perhaps the type of its tags; or an enum
pub data Body (T : Type 0) : Type 0 where
  standard : (descendants : List ℕ) (attributes : T) (tags : Option T) → Body T
  enum : (members : List ℕ) → Body T

-- the row of an entity type: its name, and what it is
pub record TypeRow (T : Type 0) : Type 0 where
  pub name : ℕ
  pub body : Body T

-- the row of an action: its uid, its ancestors, and perhaps the type of its context
pub record ActionRow (T : Type 0) : Type 0 where
  pub uid : Uid
  pub ancestors : List Uid
  pub context : Option T

-- a schema whose types are given as T
pub record Rows (T : Type 0) : Type 0 where
  pub types : List (TypeRow T)
  pub actions : List (ActionRow T)

-- an open schema has its types as runs, a closed one as types
abbrev pub Open : Type 0
Open = Rows (List Node)

-- a closed schema
abbrev pub Schema : Type 0
Schema = Rows Ty

-- whether two uids are the same
abbrev pub same_uid : Uid → Uid → Bool
same_uid u v = u.0 == v.0 && u.1 == v.1

-- whether a name is in a list
abbrev pub among : ℕ → List ℕ → Bool
among n ns = any (nat_eq n) ns

-- a list without repeats
abbrev pub added : ℕ → List ℕ → List ℕ
added n ns = cond (among n ns) ns (n ∷ ns)

-- the types of the actions, each once
abbrev pub types_of_actions : {T : Type 0} → List (ActionRow T) → List ℕ
types_of_actions [] = []
types_of_actions (r ∷ rs) = added r.uid.0 (types_of_actions rs)

-- the runs of a row, with the slot that each has to fill
abbrev pub optional_run : Option (List Node) → List (Slot × List Node)
optional_run None = []
optional_run (Some run) = (Plain, run) ∷ []

-- the runs of a type row: its attributes have to be a record, its tags any type
abbrev pub type_runs : Body (List Node) → List (Slot × List Node)
type_runs (standard ds attributes tags) = (ARecord, attributes) ∷ optional_run tags
type_runs (enum ms) = []

-- whether a reading is refused with this number
abbrev pub refused_by : ℕ → Result Tree Refused → Bool
refused_by number (Ok t) = false
refused_by number (Err e) = refusal_number e.0 == number

-- whether one of some runs is refused with this number
abbrev pub a_run_refused : ℕ → List (Slot × List Node) → Bool
a_run_refused number runs = any (λ x. refused_by number (read_run types x.0 x.1)) runs

-- the first row that fails a test, which also sees the rows before it, the last of them first
abbrev pub first_row : {R : Type 0} → (List R → R → Bool) → List R → ℕ → List R → Option ℕ
first_row fails before n [] = None
first_row fails before n (r ∷ rs) = cond (fails before r) (Some n) (first_row fails (r ∷ before) (n + 1) rs)

-- the first row of a schema that fails: types before actions, from 1
abbrev pub first_failing : {T : Type 0} → (List (TypeRow T) → TypeRow T → Bool) → (List (ActionRow T) → ActionRow T → Bool) → Rows T → Option ℕ
first_failing t a o = or_else (first_row t [] 1 o.types) (first_row a [] (length o.types + 1) o.actions)

-- 1: a run of the row breaks its layout
abbrev pub broken_type : List (TypeRow (List Node)) → TypeRow (List Node) → Bool
broken_type before r = a_run_refused 1 (type_runs r.body)

-- 1: the context of an action row breaks its layout
abbrev pub broken_action : List (ActionRow (List Node)) → ActionRow (List Node) → Bool
broken_action before r = a_run_refused 1 (optional_run r.context)

-- 2: names of 65,536 and above; over 64 descendants, 256 members, 64 ancestors; a run that passes a limit;
-- the row at which types pass 64, action types among them, or actions 256
abbrev pub no_name : ℕ → Bool
no_name n = not (is_name n)

-- a uid with a name out of range
abbrev pub no_uid : Uid → Bool
no_uid u = no_name u.0 || no_name u.1

-- too many descendants or members, or one with a name out of range
abbrev pub large_body : Body (List Node) → Bool
large_body (standard ds attributes tags) = nat_lt 64 (length ds) || any no_name ds
large_body (enum ms) = nat_lt 256 (length ms) || any no_name ms

-- 2: a type row that passes a limit
abbrev pub large_type : List (TypeRow (List Node)) → TypeRow (List Node) → Bool
large_type before r = nat_le 64 (length before) || (no_name r.name || (large_body r.body || a_run_refused 2 (type_runs r.body)))

-- an action row counts as a type if no earlier action row has its type
abbrev pub type_too_many : ℕ → List (ActionRow (List Node)) → ℕ → Bool
type_too_many n before t = not (among t (types_of_actions before)) && nat_le 64 (n + length (types_of_actions before))

-- 2: an action row that passes a limit, after n type rows
abbrev pub large_action : ℕ → List (ActionRow (List Node)) → ActionRow (List Node) → Bool
large_action n before r =
    nat_le 256 (length before) || (type_too_many n before r.uid.0 || (no_uid r.uid || (nat_lt 64 (length r.ancestors)
    || (any no_uid r.ancestors || a_run_refused 2 (optional_run r.context)))))

-- the types that a schema's runs are; what is not one run of a type is never asked for
abbrev pub as_type : Result Tree Refused → Ty
as_type (Ok t) = type_of t
as_type (Err e) = flat never

-- the type that a run is in a slot
abbrev pub type_in : Slot → List Node → Ty
type_in s run = as_type (read_run types s run)

-- what an entity type is, with its runs as types
abbrev pub closed_body : Body (List Node) → Body Ty
closed_body (standard ds attributes tags) = standard ds (type_in ARecord attributes) (mapped (type_in Plain) tags)
closed_body (enum ms) = enum ms

-- a type row with its runs as types
abbrev pub closed_type : TypeRow (List Node) → TypeRow Ty
closed_type r = record { name = r.name; body = closed_body r.body }

-- an action row with its run as a type
abbrev pub closed_action : ActionRow (List Node) → ActionRow Ty
closed_action r = record { uid = r.uid; ancestors = r.ancestors; context = mapped (type_in Plain) r.context }

-- an open schema with its runs as types
abbrev pub closed : Open → Schema
closed o = record { types = map closed_type o.types; actions = map closed_action o.actions }

-- declared: the name of a type row, or the type of an action
abbrev pub declared : Schema → ℕ → Bool
declared s n = any (λ r. nat_eq r.name n) s.types || any (λ r. nat_eq r.uid.0 n) s.actions

-- whether one of some names is not declared
abbrev pub undeclared : Schema → List ℕ → Bool
undeclared s ns = any (λ n. not (declared s n)) ns

-- the entity types that a type names, where there is one
abbrev pub optional_names : Option Ty → List ℕ
optional_names None = []
optional_names (Some t) = names t

-- the entity types that a type row names: as descendants, in its attributes and in its tags
abbrev pub body_named : Body Ty → List ℕ
body_named (standard ds attributes tags) = ds ++ (names attributes ++ optional_names tags)
body_named (enum ms) = []

-- an enum without members
abbrev pub without_members : Body Ty → Bool
without_members (standard ds attributes tags) = false
without_members (enum ms) = length ms == 0

-- 3: a type that is named and not declared, a name declared twice, an enum without members
abbrev pub ill_type : Schema → List (TypeRow Ty) → TypeRow Ty → Bool
ill_type s before r = undeclared s (body_named r.body) || (any (λ q. nat_eq q.name r.name) before || without_members r.body)

-- 3: a type or an ancestor that is named and not declared, a uid declared twice, an action's type that is also a type row
abbrev pub ill_action : Schema → List (ActionRow Ty) → ActionRow Ty → Bool
ill_action s before r =
    undeclared s (optional_names r.context)
    || (any (λ u. not (any (λ q. same_uid q.uid u) s.actions)) r.ancestors
    || (any (λ q. same_uid q.uid r.uid) before || any (λ q. nat_eq q.name r.uid.0) s.types))

-- what `close` refuses, and where: the least number, and of it the first row
abbrev pub at_row : Refusal → Option ℕ → Option Fault
at_row r row = mapped (λ n. placed r schema_layer n) row

-- what `close` refuses of an open schema
abbrev pub close_fault : Open → Option Fault
close_fault o =
    or_else (at_row Malformed (first_failing broken_type broken_action o))
    (or_else (at_row Limit (first_failing large_type (large_action (length o.types)) o))
    (at_row IllFormedSchema (first_failing (ill_type (closed o)) (ill_action (closed o)) (closed o))))

-- the closed schema, or the refusal
abbrev pub close : Open → Result Schema Fault
close o = unless (close_fault o) (closed o)

-- the row of a type, and of an action
abbrev pub type_row : Schema → ℕ → Option (Body Ty)
type_row s n = mapped (λ r. r.body) (find (λ r. nat_eq r.name n) s.types)

-- the row of an action
abbrev pub action_row : Schema → Uid → Option (ActionRow Ty)
action_row s u = find (λ r. same_uid r.uid u) s.actions

-- an action's context
abbrev pub context_in : Option (ActionRow Ty) → Option Ty
context_in None = None
context_in (Some r) = r.context

-- the context type of an action, where it is declared with one
abbrev pub context_of : Schema → Uid → Option Ty
context_of s u = context_in (action_row s u)

-- the types of a schema's actions, each once
abbrev pub action_types : Schema → List ℕ
action_types s = types_of_actions s.actions

-- whether an action has this type
abbrev pub is_action_type : Schema → ℕ → Bool
is_action_type s n = among n (action_types s)

-- whether there is a row, and it is that of a standard type
abbrev pub standard_body : Option (Body Ty) → Bool
standard_body None = false
standard_body (Some (standard ds attributes tags)) = true
standard_body (Some (enum ms)) = false

-- whether a type is declared as a standard type
abbrev pub is_standard : Schema → ℕ → Bool
is_standard s n = standard_body (type_row s n)

-- the ids of the actions of a type
abbrev pub action_ids : Schema → ℕ → List ℕ
action_ids s n = map (λ r. r.uid.1) (filter (λ r. nat_eq r.uid.0 n) s.actions)

-- the members of a type: those of an enum, the ids of an action type's actions; a standard type has none
abbrev pub members_in : Schema → ℕ → Option (Body Ty) → Option (List ℕ)
members_in s n None = cond (is_action_type s n) (Some (action_ids s n)) None
members_in s n (Some (standard ds attributes tags)) = None
members_in s n (Some (enum ms)) = Some ms

-- the members of a type of a schema, where it has some
abbrev pub members : Schema → ℕ → Option (List ℕ)
members s n = members_in s n (type_row s n)

-- the smallest of some ids, or the empty id
abbrev pub smallest_of : ℕ → List ℕ → ℕ
smallest_of m [] = m
smallest_of m (n ∷ ns) = smallest_of (cond (nat_lt n m) n m) ns

-- the smallest of some ids, or the empty id if there are none
abbrev pub smallest : List ℕ → ℕ
smallest [] = 0
smallest (n ∷ ns) = smallest_of n ns

-- the smallest of some ids, or the empty id where ids are not limited
abbrev pub smallest_in : Option (List ℕ) → ℕ
smallest_in None = 0
smallest_in (Some ns) = smallest ns

-- the id of an entity type's default: its smallest member, or the empty id
abbrev pub least_member : Schema → ℕ → ℕ
least_member s n = smallest_in (members s n)

-- whether a type row names the type n as a descendant
abbrev pub lists_descendant : ℕ → Body Ty → Bool
lists_descendant n (standard ds attributes tags) = among n ds
lists_descendant n (enum ms) = false

-- the types whose descendants name a type
abbrev pub ancestor_types : Schema → ℕ → List ℕ
ancestor_types s n = map (λ r. r.name) (filter (λ r. lists_descendant n r.body) s.types)

-- the type of a standard type's attributes, and that of its tags
abbrev pub attributes_in : Option (Body Ty) → Option Ty
attributes_in None = None
attributes_in (Some (standard ds attributes tags)) = Some attributes
attributes_in (Some (enum ms)) = None

-- the type of the attributes of a standard type of a schema
abbrev pub attributes_of : Schema → ℕ → Option Ty
attributes_of s n = attributes_in (type_row s n)

-- the type of the tags of a standard type, where it has tags
abbrev pub tags_in : Option (Body Ty) → Option Ty
tags_in None = None
tags_in (Some (standard ds attributes tags)) = tags
tags_in (Some (enum ms)) = None

-- the type of the tags of a standard type of a schema, where it has tags
abbrev pub tags_of : Schema → ℕ → Option Ty
tags_of s n = tags_in (type_row s n)

-- the types of the principal and the resource, and the action
pub record RequestType : Type 0 where
  pub principal : ℕ
  pub action : Uid
  pub resource : ℕ
