-- What a build refuses, and the room that an environment takes.
use Rattle.std.specs.Prelude.{ℕ, ◌+◌, ◌*◌, Bool, false, cond, not, ◌&&◌, ◌||◌, List, [], ◌∷◌, ◌++◌, map, length, is_some, Some, None, Ok, Err, Option, Result, nat_lt}
use Rattle.model.specs.declared.node.Node.{Node}
use Rattle.model.specs.declared.fault.Fault.{Fault}
use Rattle.model.specs.declared.fault.Refusal.TheVariants.{Limit, IllFormedTypeEnv, UnsupportedFeature, UnableToSymbolizeValue, NonConforming, Full}
use Rattle.model.specs.declared.fault.Layer.TheVariants.{Schema as schema_layer, Request as request_layer, Entity as entity_layer}
use Rattle.model.specs.Faults.{placed, whole_call, of_entity}
use Rattle.model.specs.Options.{or_else, mapped, unless}
use Rattle.model.specs.Reading.{Refused}
use Rattle.model.specs.Values as value
use Rattle.model.specs.Values.{Value, Values}
use Rattle.model.specs.Types.{Ty}
use Rattle.model.specs.Terms.{Term, TermTy, flat, string, no_terms, record_of, size}
use Rattle.model.specs.Symbolize.{term_type, symbolize, untaken, without_rule, first_among, need, default_literal}
use Rattle.model.specs.Entities.{Entity, Request, read_request}
use Rattle.model.specs.Schemas.{Schema, Body, standard, enum, RequestType, same_uid, first_row, no_name, no_uid, type_row, action_types, least_member, ancestor_types}
use Rattle.model.specs.Environments.{SymEnv, SymRequest, entity_type, empty_set, context_type, or_empty, of_env, from_concrete_env, ancestors_term, tag_keys_term, uids_of_type}
use Rattle.model.specs.Conforms.{tags_place, entity_breaks, request_breaks}

-- the memory that a host gives: records of the pool, entries for the keys of functions, and for tags
pub record Sizes : Type 0 where
  pub records : ℕ
  pub functions : ℕ
  pub tags : ℕ

-- a thing where a test holds, and else nothing
abbrev pub when : {X : Type 0} → Bool → X → Option X
when b x = cond b (Some x) None

-- 2, about the whole call: a pool over 1,048,576 records, or a name out of range in the request type
abbrev pub large_build : Sizes → RequestType → Bool
large_build m q = nat_lt 1048576 m.records || (no_name q.principal || (no_uid q.action || no_name q.resource))

-- 6: the first row with a type that `of_type` does not take, types in order and then the request type's action
abbrev pub not_taken : Ty → Bool
not_taken t = is_some (untaken 1 t)

-- whether there is a type, and `of_type` does not take it
abbrev pub optional_not_taken : Option Ty → Bool
optional_not_taken None = false
optional_not_taken (Some t) = not_taken t

-- whether a standard type has attributes or tags of a type that is not taken
abbrev pub body_not_taken : Body Ty → Bool
body_not_taken (standard ds attributes tags) = not_taken attributes || optional_not_taken tags
body_not_taken (enum ms) = false

-- the first row with a type that is not taken; of the actions only that of the request type counts
abbrev pub untaken_row : Schema → RequestType → Option ℕ
untaken_row s q =
    or_else (first_row (λ before r. body_not_taken r.body) [] 1 s.types)
    (first_row (λ before r. same_uid r.uid q.action && optional_not_taken r.context) [] (length s.types + 1) s.actions)

-- 4 and 6: what the schema and the request type alone refuse
abbrev pub type_fault : Schema → RequestType → Option Fault
type_fault s q =
    or_else (when (not (is_some (context_type s q))) (whole_call IllFormedTypeEnv request_layer))
    (mapped (λ row. placed UnsupportedFeature schema_layer row) (untaken_row s q))

-- 9: the first node without a rule in an entity of a standard type, in its attributes and then in its tags
abbrev pub tags_without_rule : Option Ty → Entity → Option ℕ
tags_without_rule None e = None
tags_without_rule (Some t) e = first_among (without_rule t) (tags_place e) e.tags

-- the first node without a rule in an entity, by the row of its type; only standard types are looked into
abbrev pub entity_without_rule_in : Entity → Option (Body Ty) → Option ℕ
entity_without_rule_in e None = None
entity_without_rule_in e (Some (standard ds attributes tags)) =
    or_else (without_rule attributes 2 (value.rec e.attributes)) (tags_without_rule tags e)
entity_without_rule_in e (Some (enum ms)) = None

-- the first node without a rule in an entity of a schema
abbrev pub entity_without_rule : Schema → Entity → Option ℕ
entity_without_rule s e = entity_without_rule_in e (type_row s e.uid.0)

-- the first entity of a list, from the place i on, in which a search finds a node
abbrev pub first_entity : (Entity → Option ℕ) → ℕ → List Entity → Option (ℕ × ℕ)
first_entity f i [] = None
first_entity f i (e ∷ es) = or_else (mapped (λ p. (i, p)) (f e)) (first_entity f (i + 1) es)

-- 9: the first node without a rule in the context of the request, and else in the entities
abbrev pub rule_fault : Schema → RequestType → Request → List Entity → Option Fault
rule_fault s q r es =
    or_else (mapped (λ p. placed UnableToSymbolizeValue request_layer p) (without_rule (or_empty (context_type s q)) 4 (value.rec r.context)))
    (mapped (λ x. of_entity UnableToSymbolizeValue x.0 x.1) (first_entity (entity_without_rule s) 0 es))

-- 10: the check of the request, and then of every entity
abbrev pub check_fault : Schema → RequestType → Request → List Entity → Option Fault
check_fault s q r es =
    or_else (mapped (λ p. placed NonConforming request_layer p) (request_breaks s q (or_empty (context_type s q)) r))
    (mapped (λ x. of_entity NonConforming x.0 x.1) (first_entity (entity_breaks s) 0 es))

-- a term of an environment, and the records that it needs while it is written, before equal elements merge
pub record Part : Type 0 where
  pub needs : ℕ
  pub of : Term

-- only values need more than they take
abbrev pub as_it_is : Term → Part
as_it_is t = record { needs = size t; of = t }

-- the term of a value under a type, with the need of the value
abbrev pub value_part : Ty → Value → Part
value_part t v = record { needs = need t v; of = symbolize t v }

-- the terms of each thing of a list, in turn
abbrev pub parts_of : {X : Type 0} → (X → List Part) → List X → List Part
parts_of f [] = []
parts_of f (x ∷ xs) = f x ++ parts_of f xs

-- the default of each defined function of a type: attributes, each ancestor type, tag keys and tag values
abbrev pub default_part : Schema → Ty → Part
default_part s t = as_it_is (default_literal (least_member s) (term_type t))

-- the empty set of elements of a type
abbrev pub empty_part : TermTy → Part
empty_part a = as_it_is (empty_set a)

-- the default of the ancestors of each of some types: the empty set
abbrev pub ancestor_defaults : List ℕ → List Part
ancestor_defaults ns = map (λ n. empty_part (entity_type n)) ns

-- the defaults of tag keys and tag values, where a type has tags
abbrev pub tag_defaults : Schema → Option Ty → List Part
tag_defaults s None = []
tag_defaults s (Some t) = empty_part (flat string) ∷ (default_part s t ∷ [])

-- the default of attributes where there are none: the empty record
abbrev pub empty_record : Part
empty_record = as_it_is (record_of no_terms)

-- the defaults of a type row; an enum type has only that of its attributes
abbrev pub body_defaults : Schema → ℕ → Body Ty → List Part
body_defaults s n (standard ds attributes tags) = default_part s attributes ∷ (ancestor_defaults (ancestor_types s n) ++ tag_defaults s tags)
body_defaults s n (enum ms) = empty_record ∷ []

-- of an action type the attributes and each action type as ancestor type
abbrev pub action_defaults : Schema → List Part
action_defaults s = parts_of (λ n. empty_record ∷ ancestor_defaults (action_types s)) (action_types s)

-- the ancestors of each action, for each action type
abbrev pub action_parts : Schema → List Part
action_parts s = parts_of (λ r. map (λ n. as_it_is (uids_of_type n r.ancestors)) (action_types s)) s.actions

-- the terms of an entity of a standard type: attributes, ancestors of each ancestor type, tag keys, tag values in order
abbrev pub tag_parts : Ty → Values → List Part
tag_parts t value.none = []
tag_parts t (value.more name of rest) = value_part t of ∷ tag_parts t rest

-- the tag keys and tag values of an entity, where its type has tags
abbrev pub all_tag_parts : Option Ty → Entity → List Part
all_tag_parts None e = []
all_tag_parts (Some t) e = as_it_is (tag_keys_term e) ∷ tag_parts t e.tags

-- the terms of an entity, by the row of its type; only entities of standard types have any
abbrev pub entity_parts_in : Schema → Entity → Option (Body Ty) → List Part
entity_parts_in s e None = []
entity_parts_in s e (Some (standard ds attributes tags)) =
    value_part attributes (value.rec e.attributes) ∷ (map (λ n. as_it_is (ancestors_term n e)) (ancestor_types s e.uid.0) ++ all_tag_parts tags e)
entity_parts_in s e (Some (enum ms)) = []

-- the terms of an entity of a schema
abbrev pub entity_parts : Schema → Entity → List Part
entity_parts s e = entity_parts_in s e (type_row s e.uid.0)

-- the terms of `of_env`: the request, the defaults of enum types and of action types, the action tables
abbrev pub symbol_defaults : Body Ty → List Part
symbol_defaults (standard ds attributes tags) = []
symbol_defaults (enum ms) = empty_record ∷ []

-- principal, action, resource and context of a request
abbrev pub request_parts : SymRequest → Part → List Part
request_parts r context = as_it_is r.principal ∷ (as_it_is r.action ∷ (as_it_is r.resource ∷ (context ∷ [])))

-- all terms of `of_env`, for a schema and a request type
abbrev pub symbol_parts : Schema → RequestType → List Part
symbol_parts s q =
    request_parts (of_env s q).request (as_it_is (of_env s q).request.context)
    ++ (parts_of (λ r. symbol_defaults r.body) s.types ++ (action_defaults s ++ action_parts s))

-- the terms of `from_concrete_env` in the order of the build: principal, action, resource, context, defaults,
-- action tables, and then each entity of a standard type in its order
abbrev pub fixed_parts : Schema → RequestType → Request → List Part
fixed_parts s q r =
    request_parts (from_concrete_env s q r []).request (value_part (or_empty (context_type s q)) (value.rec r.context))
    ++ (parts_of (λ r'. body_defaults s r'.name r'.body) s.types ++ (action_defaults s ++ action_parts s))

-- all terms of `from_concrete_env`, for a request and a list of entities
abbrev pub build_parts : Schema → RequestType → Request → List Entity → List Part
build_parts s q r es = fixed_parts s q r ++ parts_of (entity_parts s) es

-- the terms alone, without their needs
abbrev pub terms_of : List Part → List Term
terms_of ps = map (λ p. p.of) ps

-- the records that some terms take, and that they need
abbrev pub records_taken : List Part → ℕ
records_taken [] = 0
records_taken (p ∷ ps) = size p.of + records_taken ps

-- the records that some terms need while they are written
abbrev pub records_needed : List Part → ℕ
records_needed [] = 0
records_needed (p ∷ ps) = p.needs + records_needed ps

-- whether a term passes the pool, where `used` records are in use before it, or needs over 4,096
abbrev pub passes_pool : ℕ → ℕ → List Part → Bool
passes_pool pool used [] = false
passes_pool pool used (p ∷ ps) = (nat_lt pool (used + p.needs) || nat_lt 4096 p.needs) || passes_pool pool (used + size p.of) ps

-- the keys of an entity in the tables of functions, and in those of tag values
abbrev pub tag_key : Option Ty → ℕ
tag_key None = 0
tag_key (Some t) = 1

-- the keys of functions that an entity of a type has, by the row of the type
abbrev pub function_keys_in : Schema → ℕ → Option (Body Ty) → ℕ
function_keys_in s n None = 0
function_keys_in s n (Some (standard ds attributes tags)) = 1 + length (ancestor_types s n) + tag_key tags
function_keys_in s n (Some (enum ms)) = 0

-- the keys of functions that an entity of a schema has
abbrev pub function_keys : Schema → Entity → ℕ
function_keys s e = function_keys_in s e.uid.0 (type_row s e.uid.0)

-- the keys of tag values that an entity has, by the row of its type
abbrev pub tag_keys_in : Entity → Option (Body Ty) → ℕ
tag_keys_in e None = 0
tag_keys_in e (Some (standard ds attributes None)) = 0
tag_keys_in e (Some (standard ds attributes (Some t))) = value.count e.tags
tag_keys_in e (Some (enum ms)) = 0

-- the keys of tag values that an entity of a schema has
abbrev pub tag_keys : Schema → Entity → ℕ
tag_keys s e = tag_keys_in e (type_row s e.uid.0)

-- the sum of a number over a list
abbrev pub total : {X : Type 0} → (X → ℕ) → List X → ℕ
total f [] = 0
total f (x ∷ xs) = f x + total f xs

-- for each action a key for each action type
abbrev pub action_keys : Schema → ℕ
action_keys s = length s.actions * length (action_types s)

-- the keys of functions of all actions and of all listed entities
abbrev pub all_function_keys : Schema → List Entity → ℕ
all_function_keys s es = action_keys s + total (function_keys s) es

-- the keys of tag values of all listed entities
abbrev pub all_tag_keys : Schema → List Entity → ℕ
all_tag_keys s es = total (tag_keys s) es

-- 11: the pool or the entries have no room
abbrev pub full : Fault
full = whole_call Full entity_layer

-- whether the environment of a request and a list of entities does not fit the memory
abbrev pub build_full : Sizes → Schema → RequestType → Request → List Entity → Bool
build_full m s q r es =
    passes_pool m.records 0 (build_parts s q r es) || (nat_lt m.functions (all_function_keys s es) || nat_lt m.tags (all_tag_keys s es))

-- whether the environment of `of_env` does not fit the memory
abbrev pub symbol_full : Sizes → Schema → RequestType → Bool
symbol_full m s q = passes_pool m.records 0 (symbol_parts s q) || nat_lt m.functions (action_keys s)

-- 2, about the whole call
abbrev pub limit : Fault
limit = whole_call Limit entity_layer

-- what `of_env` refuses
abbrev pub of_env_fault : Sizes → Schema → RequestType → Option Fault
of_env_fault m s q = or_else (when (large_build m q) limit) (or_else (type_fault s q) (when (symbol_full m s q) full))

-- the environment of `of_env`, or its refusal
abbrev pub built_symbols : Sizes → Schema → RequestType → Result SymEnv Fault
built_symbols m s q = unless (of_env_fault m s q) (of_env s q)

-- what a build refuses of a request that can be read, where the load buffer has `buffer` nodes; `checked` in `make`
abbrev pub read_fault : Sizes → ℕ → Bool → Schema → RequestType → Request → List Entity → Option Fault
read_fault m buffer checked s q r es =
    or_else (when (large_build m q || nat_lt buffer 4096) limit)
    (or_else (type_fault s q)
    (or_else (rule_fault s q r es)
    (or_else (cond checked (check_fault s q r es) None) (when (build_full m s q r es) full))))

-- a refusal at a node of the request's run
abbrev pub in_request : Refused → Fault
in_request e = placed e.0 request_layer e.1

-- what is made of a request that can be read, or the refusal of its run
abbrev pub with_request : {X : Type 0} → Result Request Refused → (Request → Result X Fault) → Result X Fault
with_request (Ok r) f = f r
with_request (Err e) f = Err (in_request e)

-- the environment that `from_concrete_env` builds of the run of a request, or its refusal; `make` checks as well
abbrev pub built : Sizes → ℕ → Bool → Schema → RequestType → List Node → List Entity → Result SymEnv Fault
built m buffer checked s q run es =
    with_request (read_request run) (λ r. unless (read_fault m buffer checked s q r es) (from_concrete_env s q r es))
