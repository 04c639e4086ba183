-- Live environments: what `put`, `remove` and `walk` answer, judged by the list of entities before the call, and the list
-- after it. What `make` answers is `built` with the check.
use Rattle.std.specs.Prelude.{ℕ, ◌+◌, Bool, cond, not, ◌&&◌, ◌||◌, List, [], ◌∷◌, length, is_some, Some, None, Ok, Err, Option, Result, ◌==◌, nat_le, nat_lt}
use Rattle.model.specs.declared.node.Node.{Node}
use Rattle.model.specs.declared.fault.Fault.{Fault}
use Rattle.model.specs.declared.fault.Refusal.TheVariants.{UnableToSymbolizeValue, NonConforming, NotStored, IllTypedWalk}
use Rattle.model.specs.declared.fault.Layer.TheVariants.{Entity as entity_layer, Walk as walk_layer}
use Rattle.model.specs.Faults.{refusal_number, placed, whole_call, of_entity}
use Rattle.model.specs.Options.{or_else, filter, any, mapped}
use Rattle.model.specs.Slots.{Uid, uid_below}
use Rattle.model.specs.Reading.{Refused}
use Rattle.model.specs.Terms.{TermTy, Term, encode, encode_type}
use Rattle.model.specs.Nodes.{fronted}
use Rattle.model.specs.Entities.{Entity, Request, read_entity, head_uid}
use Rattle.model.specs.Schemas.{Schema, RequestType, same_uid, no_uid, is_standard}
use Rattle.model.specs.Environments.{SymEnv, from_concrete_env, stored}
use Rattle.model.specs.Conforms.{entity_breaks}
use Rattle.model.specs.Builds.{Sizes, Part, when, entity_without_rule, entity_parts, build_parts, records_taken, records_needed, all_function_keys, all_tag_keys, full, limit}
use Rattle.model.specs.Walks.{Root, Step, Found, foretold, walk_in, walk_fault}

-- what was given to `make` and stays: schema, request type, request, and the sizes of the memory
pub record Setting : Type 0 where
  pub schema : Schema
  pub request_type : RequestType
  pub request : Request
  pub sizes : Sizes

-- the environment built afresh from a list, its terms, and the records that they take
abbrev pub afresh : Setting → List Entity → SymEnv
afresh g es = from_concrete_env g.schema g.request_type g.request es

-- the terms of the environment built afresh from a list
abbrev pub parts : Setting → List Entity → List Part
parts g es = build_parts g.schema g.request_type g.request es

-- the records that the environment built afresh from a list takes
abbrev pub in_use : Setting → List Entity → ℕ
in_use g es = records_taken (parts g es)

-- a list with an entity in uid order, in the place of one with the same uid
abbrev pub with_entity : Entity → List Entity → List Entity
with_entity e [] = e ∷ []
with_entity e (d ∷ ds) =
    cond (uid_below d.uid e.uid) (d ∷ with_entity e ds) (cond (same_uid d.uid e.uid) (e ∷ ds) (e ∷ (d ∷ ds)))

-- a list without the entity of a uid
abbrev pub without_uid : Uid → List Entity → List Entity
without_uid u es = filter (λ e. not (same_uid e.uid u)) es

-- the entities of standard types
abbrev pub standard_in : Schema → List Entity → List Entity
standard_in s es = filter (λ e. is_standard s e.uid.0) es

-- whether an entity of this uid would be the 1,025th of a standard type
abbrev pub one_too_many : Schema → List Entity → Uid → Bool
one_too_many s es u = is_standard s u.0 && (not (is_some (stored es u)) && nat_le 1024 (length (standard_in s es)))

-- 11 in a put: the records in use, less those of the entity that is replaced, and the need of all terms of the new one
-- together pass the pool; or one of these needs over 4,096; or the keys afterwards pass the entries
abbrev pub put_full : Setting → List Entity → Entity → Bool
put_full g es e =
    nat_lt g.sizes.records (in_use g (without_uid e.uid es) + records_needed (entity_parts g.schema e))
    || (any (λ p. nat_lt 4096 p.needs) (entity_parts g.schema e)
    || (nat_lt g.sizes.functions (all_function_keys g.schema (with_entity e es)) || nat_lt g.sizes.tags (all_tag_keys g.schema (with_entity e es))))

-- 10 in a put: an entity that is not of a standard type does not conform, at its node 1
abbrev pub put_breaks : Schema → Entity → Option ℕ
put_breaks s e = cond (is_standard s e.uid.0) (entity_breaks s e) (Some 1)

-- what a put refuses of an entity that can be read: 9, 10 and 11
abbrev pub read_put_fault : Setting → List Entity → Entity → Option Fault
read_put_fault g es e =
    or_else (mapped (λ p. of_entity UnableToSymbolizeValue 0 p) (entity_without_rule g.schema e))
    (or_else (mapped (λ p. of_entity NonConforming 0 p) (put_breaks g.schema e)) (when (put_full g es e) full))

-- a broken run stands first; the 1,025th standard entity before a limit inside the run
abbrev pub put_fault_of : Setting → List Entity → Uid → Result Entity Refused → Option Fault
put_fault_of g es u (Ok e) = or_else (when (one_too_many g.schema es u) limit) (read_put_fault g es e)
put_fault_of g es u (Err x) =
    cond (refusal_number x.0 == 1) (Some (of_entity x.0 0 x.1))
    (or_else (when (one_too_many g.schema es u) limit) (Some (of_entity x.0 0 x.1)))

-- what a put of a run refuses
abbrev pub put_fault : Setting → List Entity → List Node → Option Fault
put_fault g es run = put_fault_of g es (head_uid run) (read_entity run)

-- what a removal refuses: 2 for a name out of range, 12 where no entity of a standard type is stored under the uid
abbrev pub remove_fault : Setting → List Entity → Uid → Option Fault
remove_fault g es u =
    or_else (when (no_uid u) limit)
    (when (not (is_some (stored es u) && is_standard g.schema u.0)) (whole_call NotStored entity_layer))

-- the calls on a live environment; a walk has the lengths of its two buffers, for the type and for the term
pub data Call : Type 0 where
  put : (run : List Node) → Call
  remove : (uid : Uid) → Call
  walk : (root : Root) (steps : List Step) (types terms : ℕ) → Call

-- the answer of a call
pub data Answer : Type 0 where
  accepted : Answer
  refused : Fault → Answer
  -- what a walk gives: the type foretold and a term, or the step at which it is absent
  gives : TermTy → Term → Answer
  absent : (step : ℕ) → Answer

-- accepted, unless there is a fault
abbrev pub by_fault : Option Fault → Answer
by_fault None = accepted
by_fault (Some f) = refused f

-- the answer of a walk whose type is foretold
abbrev pub walked : TermTy → Found Term → Answer
walked a (Ok t) = gives a t
walked a (Err k) = absent k

-- the answer of a walk, refused where a step does not go with its type
abbrev pub foretold_answer : Result TermTy ℕ → Found Term → Answer
foretold_answer (Ok a) w = walked a w
foretold_answer (Err k) w = refused (placed IllTypedWalk walk_layer k)

-- the answer of a walk, refused where there is a fault
abbrev pub walk_answer : Option Fault → Result TermTy ℕ → Found Term → Answer
walk_answer None a w = foretold_answer a w
walk_answer (Some f) a w = refused f

-- the answer of a call, by the list before it
abbrev pub answer : Setting → List Entity → Call → Answer
answer g es (put run) = by_fault (put_fault g es run)
answer g es (remove u) = by_fault (remove_fault g es u)
answer g es (walk root steps types terms) =
    walk_answer (walk_fault g.schema g.request_type types terms root steps) (foretold g.schema g.request_type root steps) (walk_in g.schema g.request_type g.request es root steps)

-- the list with the entity of a run, if the run can be read
abbrev pub put_read : Result Entity Refused → List Entity → List Entity
put_read (Ok e) es = with_entity e es
put_read (Err x) es = es

-- the list after a call that is accepted, and the one before it if the call is refused
abbrev pub unless_refused : Option Fault → List Entity → List Entity → List Entity
unless_refused None after es = after
unless_refused (Some f) after es = es

-- the list after a call: a refused call and a walk leave it as it is
abbrev pub after : Setting → List Entity → Call → List Entity
after g es (put run) = unless_refused (put_fault g es run) (put_read (read_entity run) es) es
after g es (remove u) = unless_refused (remove_fault g es u) (without_uid u es) es
after g es (walk root steps types terms) = es

-- the present list after some calls: it is fed their arguments, and no answer
abbrev pub present : Setting → List Entity → List Call → List Entity
present g es [] = es
present g es (c ∷ cs) = present g (after g es c) cs

-- the two buffers of a walk after its answer: type and term stand at their fronts, and the rest is as it was;
-- a walk that is refused or absent writes nothing
abbrev pub buffers : Answer → List Node → List Node → List Node × List Node
buffers accepted types terms = (types, terms)
buffers (refused f) types terms = (types, terms)
buffers (gives a t) types terms = (fronted (encode_type a) types, fronted (encode t) terms)
buffers (absent k) types terms = (types, terms)
