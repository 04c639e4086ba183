-- Symbolic environments, as in Lean SymCC: of a schema and a request type, and literal ones of a request and entities.
use Rattle.std.specs.Prelude.{◌≡◌, ℕ, true, false, cond, List, [], ◌∷◌, ℤ, pos, is_some, Some, None, Option, ◌==◌, nat_eq}
use Rattle.std.specs.declared.cmp.Ordering.{Ordering}
use Rattle.model.specs.Options.{find, filter, mapped}
use Rattle.model.specs.Slots.{Uid}
use Rattle.model.specs.Orders.{by_number, by_integers, by_pair}
use Rattle.model.specs.Values as value
use Rattle.model.specs.Values.{Values}
use Rattle.model.specs.Types as type
use Rattle.model.specs.Types.{Ty}
use Rattle.model.specs.Terms.{TermTy, flat, rec, set, entity, string, none, Term, atom, many, elements, prim, entity_uid, text, var, context, principal, resource, Terms, no_terms, term, record_of, set_of, literal}
use Rattle.model.specs.Symbolize.{term_type, symbolize, default_literal, field}
use Rattle.model.specs.Entities.{Entity, Request}
use Rattle.model.specs.Schemas.{Schema, Body, standard, enum, RequestType, same_uid, among, type_row, action_row, context_of, is_action_type, members, least_member, ancestor_types}

-- a function from keys to terms: of one that is uninterpreted only the type of its results is known;
-- a defined one has a table, and a default for every other key
pub data Function (K : Type 0) : Type 0 where
  uninterpreted : (result : TermTy) → Function K
  defined : (result : TermTy) (table : K → Option Term) (default : Term) → Function K

-- a tag is looked up by its entity and its key
abbrev pub TagKey : Type 0
TagKey = Uid × ℕ

-- which tags an entity has, and their values
pub record SymTags : Type 0 where
  pub keys : Function Uid
  pub vals : Function TagKey

-- the entities of one type: attributes, ancestors by their type, the set of ids where these are limited, tags where there
-- are some
pub record SymEntityData : Type 0 where
  pub attrs : Function Uid
  pub ancestors : ℕ → Option (Function Uid)
  pub members : Option (List ℕ)
  pub tags : Option SymTags

-- a symbolic request: its principal, action, resource and context are terms
pub record SymRequest : Type 0 where
  pub principal : Term
  pub action : Term
  pub resource : Term
  pub context : Term

-- a symbolic environment: a request, and the data of each entity type that it has
pub record SymEnv : Type 0 where
  pub request : SymRequest
  pub entities : ℕ → Option SymEntityData

-- the functions of an environment, by kind and names: of a type, and for ancestors of the type that these have
pub data FunctionId : Type 0 where
  attributes : (owner : ℕ) → FunctionId
  ancestors : (owner of : ℕ) → FunctionId
  tag_keys : (owner : ℕ) → FunctionId
  tag_values : (owner : ℕ) → FunctionId

-- The order of the keys of tables. Names compare by number, and pairs by their left parts first: uids by type and id,
-- function keys by function and uid, tag keys by uid and tag. Functions compare by kind and names.
abbrev pub by_uid : Uid → Uid → Ordering
by_uid = by_pair by_number by_number

-- the kind and the names of a function, by which functions compare
abbrev pub function_key : FunctionId → List ℤ
function_key (attributes n) = pos 0 ∷ (pos n ∷ [])
function_key (ancestors n m) = pos 1 ∷ (pos n ∷ (pos m ∷ []))
function_key (tag_keys n) = pos 2 ∷ (pos n ∷ [])
function_key (tag_values n) = pos 3 ∷ (pos n ∷ [])

-- the order of functions: by kind, and then by names
abbrev pub by_function : FunctionId → FunctionId → Ordering
by_function f g = by_integers (function_key f) (function_key g)

-- the order of function keys: by function, and then by uid
abbrev pub by_function_key : FunctionId × Uid → FunctionId × Uid → Ordering
by_function_key = by_pair by_function by_uid

-- the order of tag keys: by uid, and then by tag
abbrev pub by_tag_key : TagKey → TagKey → Ordering
by_tag_key = by_pair by_uid by_number

-- what a function is asked for: an entity of a type, or such an entity and a tag key
pub data Argument : Type 0 where
  an_entity : ℕ → Argument
  entity_and_tag : ℕ → Argument

-- what a function of an environment is asked for
abbrev pub argument : FunctionId → Argument
argument (attributes n) = an_entity n
argument (ancestors n m) = an_entity n
argument (tag_keys n) = an_entity n
argument (tag_values n) = entity_and_tag n

-- the type of the results of a function
abbrev pub result : {K : Type 0} → Function K → TermTy
result (uninterpreted a) = a
result (defined a table default) = a

-- the type of a function's results, where the environment has that function
abbrev pub result_in : Option SymEntityData → FunctionId → Option TermTy
result_in None f = None
result_in (Some d) (attributes n) = Some (result d.attrs)
result_in (Some d) (ancestors n m) = mapped result (d.ancestors m)
result_in (Some d) (tag_keys n) = mapped (λ t. result t.keys) d.tags
result_in (Some d) (tag_values n) = mapped (λ t. result t.vals) d.tags

-- the entity type to which a function belongs
abbrev pub owner : FunctionId → ℕ
owner (attributes n) = n
owner (ancestors n m) = n
owner (tag_keys n) = n
owner (tag_values n) = n

-- the type of the results of a function of an environment
abbrev pub result_type : SymEnv → FunctionId → Option TermTy
result_type e f = result_in (e.entities (owner f)) f

-- the term type of the entities of a type
abbrev pub entity_type : ℕ → TermTy
entity_type n = flat (entity n)

-- the term of a uid
abbrev pub uid_term : Uid → Term
uid_term u = atom (prim (entity_uid u))

-- the table without keys
abbrev pub no_table : {K : Type 0} → K → Option Term
no_table k = None

-- the terms of some uids
abbrev pub uid_terms : List Uid → Terms
uid_terms [] = no_terms
uid_terms (u ∷ us) = term 0 (uid_term u) (uid_terms us)

-- the set of those uids that are of the type n
abbrev pub uids_of_type : ℕ → List Uid → Term
uids_of_type n us = set_of (entity_type n) (uid_terms (filter (λ u. nat_eq u.0 n) us))

-- the empty set of elements of a type
abbrev pub empty_set : TermTy → Term
empty_set a = many (elements a) no_terms

-- attributes of enum types and of action types: no key, and the empty record as default
abbrev pub no_attributes : Function Uid
no_attributes = defined (rec none) no_table (record_of no_terms)

-- the declared ancestors of an action that are of the type n
abbrev pub action_ancestors : Schema → (of n : ℕ) → Uid → Option Term
action_ancestors s of n u =
    cond (u.0 == of) (mapped (λ r. uids_of_type n r.ancestors) (action_row s u)) None

-- an action type: for each action type the ancestors of that type, from the schema
abbrev pub action_data : Schema → ℕ → SymEntityData
action_data s of = record {
  attrs = no_attributes;
  ancestors = λ n. cond (is_action_type s n) (Some (defined (set (entity_type n)) (action_ancestors s of n) (empty_set (entity_type n)))) None;
  members = members s of;
  tags = None;
}

-- an enum type: its members, and neither attributes, ancestors nor tags
abbrev pub enum_data : List ℕ → SymEntityData
enum_data ms = record { attrs = no_attributes; ancestors = λ n. None; members = Some ms; tags = None }

-- a standard type in `of_env`: every function is uninterpreted
abbrev pub standard_symbols : Schema → ℕ → Ty → Option Ty → SymEntityData
standard_symbols s of attrs tags = record {
  attrs = uninterpreted (term_type attrs);
  ancestors = λ n. cond (among n (ancestor_types s of)) (Some (uninterpreted (set (entity_type n)))) None;
  members = None;
  tags = mapped (λ t. record { keys = uninterpreted (set (flat string)); vals = uninterpreted (term_type t) }) tags;
}

-- the entity that a list of entities has under a uid; and the same if it is of a type
abbrev pub stored : List Entity → Uid → Option Entity
stored es u = find (λ e. same_uid e.uid u) es

-- the listed entity of a uid, if the uid is of the type n
abbrev pub stored_as : ℕ → List Entity → Uid → Option Entity
stored_as n es u = cond (u.0 == n) (stored es u) None

-- the names of some tags as string terms
abbrev pub key_terms : Values → Terms
key_terms value.none = no_terms
key_terms (value.more name of rest) = term 0 (atom (prim (text name))) (key_terms rest)

-- the terms of an entity of a standard type: its attributes, its ancestors of one type, its tag keys
abbrev pub attributes_term : Ty → Entity → Term
attributes_term t e = symbolize t (value.rec e.attributes)

-- the ancestors of an entity that are of the type n, as a set
abbrev pub ancestors_term : ℕ → Entity → Term
ancestors_term n e = uids_of_type n e.ancestors

-- the tag keys of an entity, as a set of strings
abbrev pub tag_keys_term : Entity → Term
tag_keys_term e = set_of (flat string) (key_terms e.tags)

-- the term of the tag of this key, where the entity is stored and has it
abbrev pub tag_in : Ty → ℕ → Option Entity → Option Term
tag_in t key None = None
tag_in t key (Some e) = mapped (symbolize t) (field key e.tags)

-- a standard type in `from_concrete_env`: every listed entity of the type is a key of the attributes, of the ancestors
-- of each ancestor type and of the tag keys; the tag values have each of its tags
abbrev pub standard_tables : Schema → List Entity → ℕ → Ty → Option Ty → SymEntityData
standard_tables s es of attrs tags = record {
  attrs = defined (term_type attrs) (λ u. mapped (attributes_term attrs) (stored_as of es u)) (default_literal (least_member s) (term_type attrs));
  ancestors = λ n. cond (among n (ancestor_types s of))
      (Some (defined (set (entity_type n)) (λ u. mapped (ancestors_term n) (stored_as of es u)) (empty_set (entity_type n)))) None;
  members = None;
  tags = mapped (λ t. record {
    keys = defined (set (flat string)) (λ u. mapped tag_keys_term (stored_as of es u)) (empty_set (flat string));
    vals = defined (term_type t) (λ k. tag_in t k.1 (stored_as of es k.0)) (default_literal (least_member s) (term_type t));
  }) tags;
}

-- the data of an entity type by its row, where `f` gives those of a standard type; none if it is not declared
abbrev pub data_by : (ℕ → Ty → Option Ty → SymEntityData) → Schema → ℕ → Option (Body Ty) → Option SymEntityData
data_by f s n None = cond (is_action_type s n) (Some (action_data s n)) None
data_by f s n (Some (standard ds attrs tags)) = Some (f n attrs tags)
data_by f s n (Some (enum ms)) = Some (enum_data ms)

-- no name stands twice in a list
abbrev pub EachOnce : List ℕ → Type 0
EachOnce [] = Unit {0}
EachOnce (n ∷ ns) = (among n ns ≡ false) × EachOnce ns

-- the context type of a request type, whose action has to be declared with a closed record
abbrev pub closed_context : Option Ty → Option Ty
closed_context None = None
closed_context (Some (type.flat x)) = None
closed_context (Some (type.set t)) = None
closed_context (Some (type.rec is_open ts)) = cond is_open None (Some (type.rec is_open ts))

-- the context type of a request type, if its action is declared with a closed record
abbrev pub context_type : Schema → RequestType → Option Ty
context_type s q = closed_context (context_of s q.action)

-- a type, or the empty closed record where there is none
abbrev pub or_empty : Option Ty → Ty
or_empty None = type.rec false type.none
or_empty (Some t) = t

-- `of_env`: principal, resource and context are variables
abbrev pub of_env : Schema → RequestType → SymEnv
of_env s q = record {
  request = record {
    principal = atom (var principal (entity_type q.principal));
    action = uid_term q.action;
    resource = atom (var resource (entity_type q.resource));
    context = atom (var context (term_type (or_empty (context_type s q))));
  };
  entities = λ n. data_by (standard_symbols s) s n (type_row s n);
}

-- `from_concrete_env`: the environment built afresh from a request and a list of entities
abbrev pub from_concrete_env : Schema → RequestType → Request → List Entity → SymEnv
from_concrete_env s q r es = record {
  request = record {
    principal = uid_term r.principal;
    action = uid_term r.action;
    resource = uid_term r.resource;
    context = symbolize (or_empty (context_type s q)) (value.rec r.context);
  };
  entities = λ n. data_by (standard_tables s es) s n (type_row s n);
}

-- a literal environment: no variables, and every function is a defined table
abbrev pub LiteralFunction : {K : Type 0} → Function K → Type 0
LiteralFunction (uninterpreted a) = ⊥
LiteralFunction {K} (defined a table default) = ((k : K) (t : Term) → table k ≡ Some t → literal t ≡ true) × (literal default ≡ true)

-- the data of an entity type are literal: every function is a table of literal terms
pub record LiteralData (d : SymEntityData) : Type 0 where
  pub attrs : LiteralFunction d.attrs
  pub ancestors : (n : ℕ) (f : Function Uid) → d.ancestors n ≡ Some f → LiteralFunction f
  pub keys : (t : SymTags) → d.tags ≡ Some t → LiteralFunction t.keys
  pub vals : (t : SymTags) → d.tags ≡ Some t → LiteralFunction t.vals

-- an environment is literal: so are its request and the data of every entity type
pub record LiteralEnv (e : SymEnv) : Type 0 where
  pub principal : literal e.request.principal ≡ true
  pub action : literal e.request.action ≡ true
  pub resource : literal e.request.resource ≡ true
  pub context : literal e.request.context ≡ true
  pub entities : (n : ℕ) (d : SymEntityData) → e.entities n ≡ Some d → LiteralData d

-- the types of an environment, each once, in any order
pub record ListsTypes (e : SymEnv) (ns : List ℕ) : Type 0 where
  pub those : (n : ℕ) → among n ns ≡ is_some (e.entities n)
  pub once : EachOnce ns
