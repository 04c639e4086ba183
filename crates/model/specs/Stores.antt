-- Stores: what a store means, and the runs that a list of first nodes cuts a list of nodes into.
use Rattle.std.specs.Prelude.{◌≡◌, ℕ, zero, suc, ◌+◌, ◌-◌, ◌≤◌, Bool, true, cond, not, ◌&&◌, ◌||◌, List, [], ◌∷◌, ◌++◌, length, take, drop, Some, None, Ok, Err, Option, Result, ◌==◌, nat_le, nat_lt, slice_index}
use Rattle.model.specs.declared.node.Node.{Node}
use Rattle.model.specs.declared.fault.Fault.{Fault}
use Rattle.model.specs.declared.fault.Refusal.{Refusal}
use Rattle.model.specs.declared.fault.Refusal.TheVariants.{Malformed, Limit, NotStored}
use Rattle.model.specs.declared.fault.Layer.TheVariants.{Entity as entity_layer}
use Rattle.model.specs.Faults.{of_entity, whole_call, least}
use Rattle.model.specs.Nodes.{FitsParts, fronted}
use Rattle.model.specs.Slots.{Uid, uid_below}
use Rattle.model.specs.Reading.{Refused}
use Rattle.model.specs.Entities.{Entity, FormedEntity, entity_run, read_entity, head_uid}

-- each uid is below the next
abbrev pub UidsAscend : List Entity → Type 0
UidsAscend [] = Unit {0}
UidsAscend (e ∷ []) = Unit {0}
UidsAscend (e ∷ (d ∷ ds)) = (uid_below e.uid d.uid ≡ true) × UidsAscend (d ∷ ds)

-- each entity is within the limits
abbrev pub AllFormed : List Entity → Type 0
AllFormed [] = Unit {0}
AllFormed (e ∷ es) = FormedEntity e × AllFormed es

-- every node of every run fits the sizes of its parts, as every node in memory does
abbrev pub AllFitParts : List Node → Type 0
AllFitParts [] = Unit {0}
AllFitParts (n ∷ ns) = FitsParts n × AllFitParts ns

-- every node of the run of every entity fits the sizes of its parts
abbrev pub RunsFitParts : List Entity → Type 0
RunsFitParts [] = Unit {0}
RunsFitParts (e ∷ es) = AllFitParts (entity_run e) × RunsFitParts es

-- the list that a store means: at most 1,024 entities, each within the limits, uids strictly ascending
pub record Lawful (es : List Entity) : Type 0 where
  pub few : length es ≤ 1024
  pub formed : AllFormed es
  pub ascending : UidsAscend es

-- the entity at a place
abbrev pub entity_at : List Entity → ℕ → Option Entity
entity_at [] i = None
entity_at (e ∷ es) i = cond (i == 0) (Some e) (entity_at es (i - 1))

-- 12, about the whole call: there is no such place
abbrev pub no_such_place : Fault
no_such_place = whole_call NotStored entity_layer

-- the answer to the question for the uid at a place: 12 exactly if there is no such place
abbrev pub uid_told : Option Entity → Result Uid Fault
uid_told None = Err no_such_place
uid_told (Some e) = Ok e.uid

-- the uid at a place of a store, or the refusal
abbrev pub uid_answer : List Entity → ℕ → Result Uid Fault
uid_answer es i = uid_told (entity_at es i)

-- the answer of `load` and the buffer after it: the run stands at its front, and the rest is as it was;
-- 12 exactly if there is no such place, 2 exactly if the buffer is shorter than the run, and nothing changes then
abbrev pub loaded : List Node → List Node → Result ℕ Fault × List Node
loaded run buffer = cond (nat_lt (length buffer) (length run)) (Err (whole_call Limit entity_layer), buffer) (Ok (length run), fronted run buffer)

-- the answer of `load` and the buffer after it, for the entity at the place, if there is one
abbrev pub load_told : Option Entity → List Node → Result ℕ Fault × List Node
load_told None buffer = (Err no_such_place, buffer)
load_told (Some e) buffer = loaded (entity_run e) buffer

-- the answer of `load` for a place of a store, and the buffer after it
abbrev pub load_answer : List Entity → ℕ → List Node → Result ℕ Fault × List Node
load_answer es i buffer = load_told (entity_at es i) buffer

-- Nodes with a list of first nodes: the run k goes from the first node k to the next, and the last to the end.

-- the index of the first node of the run k
abbrev pub first_at : List ℕ → ℕ → ℕ
first_at fs k = slice_index fs k

-- the index at which the run k ends, where there are v nodes
abbrev pub end_at : ℕ → List ℕ → ℕ → ℕ
end_at v fs k = cond (nat_lt (k + 1) (length fs)) (first_at fs (k + 1)) v

-- the nodes of the run k
abbrev pub run_at : List Node → List ℕ → ℕ → List Node
run_at nodes fs k = take (end_at (length nodes) fs k - first_at fs k) (drop (first_at fs k) nodes)

-- what a function gives at n numbers from i on
abbrev pub collected : {X : Type 0} → (ℕ → List X) → ℕ → ℕ → List X
collected f zero i = []
collected f (suc n) i = f i ++ collected f n (i + 1)

-- the first of n numbers from i on that passes a test
abbrev pub first_index : (ℕ → Bool) → ℕ → ℕ → Option ℕ
first_index p zero i = None
first_index p (suc n) i = cond (p i) (Some i) (first_index p n (i + 1))

-- an entry is sound if it is 0 as the first, and else above the one before; and below the number v of nodes
abbrev pub entry_sound : ℕ → List ℕ → ℕ → Bool
entry_sound v fs k = cond (k == 0) (first_at fs k == 0) (nat_lt (first_at fs (k - 1)) (first_at fs k)) && nat_lt (first_at fs k) v

-- the first entry that is not sound
abbrev pub broken_entry : ℕ → List ℕ → Option ℕ
broken_entry v fs = first_index (λ k. not (entry_sound v fs k)) (length fs) 0

-- the fault of reading a run, where `at` says how a refusal at a node of the run k is told
abbrev pub run_fault : (ℕ → ℕ → Refusal → Fault) → ℕ → Result Entity Refused → List Fault
run_fault at k (Ok e) = []
run_fault at k (Err x) = at k x.1 x.0 ∷ []

-- a uid that is not above that of the run before
abbrev pub uid_fault : (ℕ → ℕ → Refusal → Fault) → List Node → List ℕ → ℕ → List Fault
uid_fault at nodes fs k =
    cond (k == 0 || uid_below (head_uid (run_at nodes fs (k - 1))) (head_uid (run_at nodes fs k))) [] (at k 1 Malformed ∷ [])

-- the faults of the run k, and of all runs
abbrev pub faults_at : (ℕ → ℕ → Refusal → Fault) → List Node → List ℕ → ℕ → List Fault
faults_at at nodes fs k = run_fault at k (read_entity (run_at nodes fs k)) ++ uid_fault at nodes fs k

-- the faults of all runs
abbrev pub run_faults : (ℕ → ℕ → Refusal → Fault) → List Node → List ℕ → List Fault
run_faults at nodes fs = collected (faults_at at nodes fs) (length fs) 0

-- the entity of a run, if the run can be read
abbrev pub entity_if_read : Result Entity Refused → List Entity
entity_if_read (Ok e) = e ∷ []
entity_if_read (Err x) = []

-- the entities of a list of nodes with a list of first nodes
abbrev pub entities_of : List Node → List ℕ → List Entity
entities_of nodes fs = collected (λ k. entity_if_read (read_entity (run_at nodes fs k))) (length fs) 0

-- The table of nodes

-- the run in which the node j lies: the last that begins no later
abbrev pub run_holding : ℕ → List ℕ → ℕ → ℕ
run_holding j fs zero = 0
run_holding j fs (suc k) = cond (nat_le (first_at fs (suc k)) j) (suc k) (run_holding j fs k)

-- a refusal at the node j, by its run and its number there
abbrev pub at_node : Refusal → List ℕ → ℕ → Fault
at_node r fs j =
    of_entity r (run_holding j fs (length fs - 1)) (j - first_at fs (run_holding j fs (length fs - 1)) + 1)

-- a fault where a test holds, and else none
abbrev pub fault_if : Bool → Fault → List Fault
fault_if b f = cond b (f ∷ []) []

-- 1: nodes but no entity; 2: the 1,025th entity, and node 65,537
abbrev pub table_faults : List Node → List ℕ → List Fault
table_faults nodes fs =
    fault_if (length fs == 0 && nat_lt 0 (length nodes)) (of_entity Malformed 0 1)
    ++ (fault_if (nat_lt 1024 (length fs)) (of_entity Limit 1024 1) ++ fault_if (nat_lt 65536 (length nodes)) (at_node Limit fs 65536))

-- a broken entry is the fault; else the rest decides
abbrev pub unless_entry : Option ℕ → Option Fault → Option Fault
unless_entry (Some k) rest = Some (of_entity Malformed k 1)
unless_entry None rest = rest

-- what making a table of nodes refuses: a broken entry stands alone, since no run is defined then; else the least fault
abbrev pub table_fault : List Node → List ℕ → Option Fault
table_fault nodes fs =
    unless_entry (broken_entry (length nodes) fs) (least (table_faults nodes fs ++ run_faults (λ k p r. of_entity r k p) nodes fs))
