-- Walks: the type that is foretold, step by step; the answer on an environment; and that of a list of entities.
use Rattle.std.specs.Prelude.{ℕ, ◌+◌, Bool, true, false, cond, List, [], ◌∷◌, pos, Some, None, Ok, Err, Option, Result, ◌==◌, nat_eq, nat_lt}
use Rattle.model.specs.declared.fault.Fault.{Fault}
use Rattle.model.specs.declared.fault.Refusal.TheVariants.{Limit, IllTypedWalk}
use Rattle.model.specs.declared.fault.Layer.TheVariants.{Walk as walk_layer}
use Rattle.model.specs.Faults.{placed, whole_call}
use Rattle.model.specs.Options.{or_else, filter, mapped}
use Rattle.model.specs.Slots.{Uid}
use Rattle.model.specs.Values as value
use Rattle.model.specs.Values.{Value, Values, decimal, ipaddr, datetime, duration}
use Rattle.model.specs.Types as type
use Rattle.model.specs.Types.{Ty, Tys, Flat}
use Rattle.model.specs.Terms as term
use Rattle.model.specs.Terms.{TermTy, TermTys, Term, Terms, TermPrim, Atom}
use Rattle.model.specs.Symbolize.{term_type, symbolize, field, no_rule}
use Rattle.model.specs.Entities.{Entity, Request}
use Rattle.model.specs.Schemas.{Schema, Body, standard, enum, ActionRow, RequestType, among, no_name, type_row, action_row, is_action_type, action_types, ancestor_types, attributes_of, tags_of, least_member}
use Rattle.model.specs.Environments.{Function, uninterpreted, defined, SymEntityData, SymTags, SymEnv, SymRequest, context_type, or_empty, entity_type, stored}
use Rattle.model.specs.Builds.{when}

-- where a walk begins: at one of the four parts of the request
pub data Root : Type 0 where
  principal action resource context : Root

-- a step of a walk: to an attribute, to a tag, or to the ancestors of a type
pub data Step : Type 0 where
  attribute : ℕ → Step
  tag : ℕ → Step
  ancestors : ℕ → Step

-- Types

-- the type of a root under a request type
abbrev pub root_type : Schema → RequestType → Root → TermTy
root_type s q principal = entity_type q.principal
root_type s q action = entity_type q.action.0
root_type s q resource = entity_type q.resource
root_type s q context = term_type (or_empty (context_type s q))

-- the type that a field has where it is present
abbrev pub without_option : TermTy → TermTy
without_option (term.option a) = a
without_option (term.flat x) = term.flat x
without_option (term.rec xs) = term.rec xs
without_option (term.set a) = term.set a

-- the type of the field of a name, without Option if it is optional
abbrev pub field_type : ℕ → TermTys → Option TermTy
field_type n term.none = None
field_type n (term.more m a xs) = cond (m == n) (Some (without_option a)) (field_type n xs)

-- the type of a field, where the type is a record
abbrev pub record_field : ℕ → TermTy → Option TermTy
record_field n (term.option a) = None
record_field n (term.flat x) = None
record_field n (term.rec xs) = field_type n xs
record_field n (term.set a) = None

-- what a function finds of a thing, where there is one
abbrev pub and_then : {X Y : Type 0} → Option X → (X → Option Y) → Option Y
and_then None f = None
and_then (Some x) f = f x

-- the types of ancestors that a type has tables for
abbrev pub ancestor_tables_in : Schema → ℕ → Option (Body Ty) → List ℕ
ancestor_tables_in s n None = cond (is_action_type s n) (action_types s) []
ancestor_tables_in s n (Some (standard ds attributes tags)) = ancestor_types s n
ancestor_tables_in s n (Some (enum ms)) = []

-- the types of ancestors that a type of a schema has tables for
abbrev pub ancestor_tables : Schema → ℕ → List ℕ
ancestor_tables s n = ancestor_tables_in s n (type_row s n)

-- the attribute of an entity type, the type of its tags, its ancestors of a type where it has these
abbrev pub entity_step : Schema → Step → ℕ → Option TermTy
entity_step s (attribute n) e = and_then (attributes_of s e) (λ t. record_field n (term_type t))
entity_step s (tag n) e = mapped term_type (tags_of s e)
entity_step s (ancestors m) e = when (among m (ancestor_tables s e)) (term.set (entity_type m))

-- the type after a step at a type without parts: only an entity type has steps
abbrev pub flat_step : Schema → Step → term.FlatTy → Option TermTy
flat_step s st term.bitvec = None
flat_step s st term.bool = None
flat_step s st term.string = None
flat_step s st (term.entity e) = entity_step s st e
flat_step s st (term.extension x) = None

-- the type after a step at a record: it has only attributes
abbrev pub record_step : Step → TermTys → Option TermTy
record_step (attribute n) xs = field_type n xs
record_step (tag n) xs = None
record_step (ancestors m) xs = None

-- the type after a step, where the step goes with the type
abbrev pub step_type : Schema → Step → TermTy → Option TermTy
step_type s st (term.option a) = None
step_type s st (term.flat x) = flat_step s st x
step_type s st (term.rec xs) = record_step st xs
step_type s st (term.set a) = None

-- the type after all steps, or the first that does not go with its type, the next of them being the step k
abbrev pub typed_on : ℕ → Option TermTy → (TermTy → Result TermTy ℕ) → Result TermTy ℕ
typed_on k None f = Err k
typed_on k (Some a) f = f a

-- the type after some steps from a type, or the first that does not go with its type
abbrev pub foretold_from : Schema → List Step → ℕ → TermTy → Result TermTy ℕ
foretold_from s [] k a = Ok a
foretold_from s (st ∷ sts) k a = typed_on k (step_type s st a) (λ b. foretold_from s sts (k + 1) b)

-- the type of a walk, or the first step that does not go with its type
abbrev pub foretold : Schema → RequestType → Root → List Step → Result TermTy ℕ
foretold s q root steps = foretold_from s steps 1 (root_type s q root)

-- The answer on an environment

-- what a function says of a key: its table's term, or its default
abbrev pub or_default : Option Term → Term → Term
or_default None d = d
or_default (Some t) d = t

-- the term of a function at a key
abbrev pub look_up : {K : Type 0} → Function K → K → Term
look_up (uninterpreted a) k = no_rule
look_up (defined a table default) k = or_default (table k) default

-- the term of a root
abbrev pub root_term : SymRequest → Root → Term
root_term r principal = r.principal
root_term r action = r.action
root_term r resource = r.resource
root_term r context = r.context

-- a field that is None is absent, and Some is what is inside
abbrev pub present_atom : Atom → Option Term
present_atom (term.none_of a) = None
present_atom (term.prim x) = Some (term.atom (term.prim x))
present_atom (term.var v a) = Some (term.atom (term.var v a))

-- what is inside a field, or nothing where the field is None
abbrev pub present : Term → Option Term
present (term.atom x) = present_atom x
present (term.many g ts) = Some (term.many g ts)
present (term.some t) = Some t

-- the field of a name, where it is present
abbrev pub field_of : ℕ → Terms → Option Term
field_of n term.no_terms = None
field_of n (term.term m t ts) = cond (m == n) (present t) (field_of n ts)

-- the field of a name in a record term, where it is present
abbrev pub field_in : ℕ → Term → Option Term
field_in n (term.atom x) = None
field_in n (term.many g ts) = field_of n ts
field_in n (term.some t) = None

-- whether a term is this string
abbrev pub is_text : ℕ → Term → Bool
is_text n (term.atom (term.none_of a)) = false
is_text n (term.atom (term.prim (term.pattern p))) = false
is_text n (term.atom (term.prim (term.truth b))) = false
is_text n (term.atom (term.prim (term.entity_uid u))) = false
is_text n (term.atom (term.prim (term.ext x))) = false
is_text n (term.atom (term.prim (term.text m))) = m == n
is_text n (term.atom (term.var v a)) = false
is_text n (term.many g ts) = false
is_text n (term.some t) = false

-- whether a set of strings has this one
abbrev pub has_text : ℕ → Terms → Bool
has_text n term.no_terms = false
has_text n (term.term m t ts) = cond (is_text n t) true (has_text n ts)

-- whether a term is a set that has this string
abbrev pub has_key : ℕ → Term → Bool
has_key n (term.atom x) = false
has_key n (term.many g ts) = has_text n ts
has_key n (term.some t) = false

-- the value of a tag of an entity, where the entity has its key
abbrev pub tag_of : ℕ → Uid → SymTags → Option Term
tag_of n u t = when (has_key n (look_up t.keys u)) (look_up t.vals (u, n))

-- a step at an entity looks it up in the table of that step
abbrev pub at_entity : Step → Uid → SymEntityData → Option Term
at_entity (attribute n) u d = field_in n (look_up d.attrs u)
at_entity (tag n) u d = and_then d.tags (tag_of n u)
at_entity (ancestors m) u d = mapped (λ f. look_up f u) (d.ancestors m)

-- the term after a step at a primitive: only a uid has steps
abbrev pub at_prim : SymEnv → Step → TermPrim → Option Term
at_prim e st (term.pattern p) = None
at_prim e st (term.truth b) = None
at_prim e st (term.entity_uid u) = and_then (e.entities u.0) (at_entity st u)
at_prim e st (term.ext x) = None
at_prim e st (term.text s) = None

-- the term after a step at a term without parts: only a primitive has steps
abbrev pub at_atom : SymEnv → Step → Atom → Option Term
at_atom e st (term.none_of a) = None
at_atom e st (term.prim x) = at_prim e st x
at_atom e st (term.var v a) = None

-- the term after a step at a record: it has only attributes
abbrev pub at_record : Step → Terms → Option Term
at_record (attribute n) ts = field_of n ts
at_record (tag n) ts = None
at_record (ancestors m) ts = None

-- the term after a step, or nothing where it is absent
abbrev pub step_term : SymEnv → Step → Term → Option Term
step_term e st (term.atom x) = at_atom e st x
step_term e st (term.many g ts) = at_record st ts
step_term e st (term.some t) = None

-- what a walk finds, or the step at which it is absent
abbrev pub Found : Type 0 → Type 0
Found X = Result X ℕ

-- what is found behind a step, or the step k where that is absent
abbrev pub found_on : {X : Type 0} → ℕ → Option X → (X → Found X) → Found X
found_on k None f = Err k
found_on k (Some x) f = f x

-- what some steps find from a term, the next of them being the step k
abbrev pub walk_from : SymEnv → List Step → ℕ → Term → Found Term
walk_from e [] k t = Ok t
walk_from e (st ∷ sts) k t = found_on k (step_term e st t) (λ u. walk_from e sts (k + 1) u)

-- what a walk finds on an environment
abbrev pub walk_on : SymEnv → Root → List Step → Found Term
walk_on e root steps = walk_from e steps 1 (root_term e.request root)

-- The answer of a list of entities: the same steps on the request and the stored values, with defaults for what is not stored

-- a value and its type
abbrev pub Typed : Type 0
Typed = Ty × Value

-- the default of a type: optional attributes are absent
abbrev pub default_ext_value : ℕ → value.Ext
default_ext_value c = cond (c == 1) (decimal (pos 0)) (cond (c == 2) (ipaddr 0 32) (cond (c == 3) (datetime (pos 0)) (duration (pos 0))))

-- the default of a type without parts, where `least` gives the id of an entity type
abbrev pub default_flat : (ℕ → ℕ) → Flat → value.Primitive
default_flat least type.bool = value.bool false
default_flat least type.true_type = value.bool false
default_flat least type.false_type = value.bool false
default_flat least type.long = value.long (pos 0)
default_flat least type.string = value.string 0
default_flat least type.any_entity = value.bool false
default_flat least type.entities = value.bool false
default_flat least type.any_set = value.bool false
default_flat least type.never = value.bool false
default_flat least (type.entity n) = value.uid (n, least n)
default_flat least (type.extension c) = value.ext (default_ext_value c)

-- the default value of a type, and those of a record's required fields
abbrev mutual
  pub default_value : (ℕ → ℕ) → Ty → Value
  default_value least (type.flat x) = value.prim (default_flat least x)
  default_value least (type.set t) = value.set value.none
  default_value least (type.rec is_open ts) = value.rec (default_values least ts)

  pub default_values : (ℕ → ℕ) → Tys → Values
  default_values least type.none = value.none
  default_values least (type.more name required of rest) =
      cond required (value.more name (default_value least of) (default_values least rest)) (default_values least rest)

-- the value of a root in a request, with its type
abbrev pub root_value : Schema → RequestType → Request → Root → Typed
root_value s q r principal = (type.flat (type.entity q.principal), value.prim (value.uid r.principal))
root_value s q r action = (type.flat (type.entity q.action.0), value.prim (value.uid r.action))
root_value s q r resource = (type.flat (type.entity q.resource), value.prim (value.uid r.resource))
root_value s q r context = (or_empty (context_type s q), value.rec r.context)

-- a field that both the type and the value have, with its type
abbrev pub typed_field : Option (Bool × Ty) → Option Value → Option Typed
typed_field None v = None
typed_field (Some x) None = None
typed_field (Some x) (Some v) = Some (x.1, v)

-- the field of a name in a record, with its type
abbrev pub record_value : ℕ → Ty → Values → Option Typed
record_value n t vs = typed_field (type.field n (type.fields_of t)) (field n vs)

-- the attributes of a stored entity, or the defaults of its type
abbrev pub attributes_or_default : Schema → Ty → Option Entity → Values
attributes_or_default s t None = value.fields_of (default_value (least_member s) t)
attributes_or_default s t (Some e) = e.attributes

-- some uids as the elements of a set
abbrev pub uid_values : List Uid → Values
uid_values [] = value.none
uid_values (u ∷ us) = value.more 0 (value.prim (value.uid u)) (uid_values us)

-- the ancestors of an entity: of a stored one its own, of a declared action those of the schema, else none
abbrev pub ancestors_stored : Option Entity → List Uid
ancestors_stored None = []
ancestors_stored (Some e) = e.ancestors

-- the declared ancestors of an action, and none where it is not declared
abbrev pub ancestors_declared : Option (ActionRow Ty) → List Uid
ancestors_declared None = []
ancestors_declared (Some r) = r.ancestors

-- the ancestors of a uid: stored ones where its type has a row, else those of the action
abbrev pub ancestors_by_row : Schema → List Entity → Uid → Option (Body Ty) → List Uid
ancestors_by_row s es u None = ancestors_declared (action_row s u)
ancestors_by_row s es u (Some b) = ancestors_stored (stored es u)

-- the ancestors of a uid, by the schema and the listed entities
abbrev pub listed_ancestors : Schema → List Entity → Uid → List Uid
listed_ancestors s es u = ancestors_by_row s es u (type_row s u.0)

-- the tags of a stored entity, and none of one that is not stored
abbrev pub tags_stored : Option Entity → Values
tags_stored None = value.none
tags_stored (Some e) = e.tags

-- the value after a step at an entity, with its type
abbrev pub entity_value : Schema → List Entity → Step → Uid → Option Typed
entity_value s es (attribute n) u = and_then (attributes_of s u.0) (λ t. record_value n t (attributes_or_default s t (stored es u)))
entity_value s es (tag n) u = and_then (tags_of s u.0) (λ t. mapped (λ v. (t, v)) (field n (tags_stored (stored es u))))
entity_value s es (ancestors m) u = Some (type.set (type.flat (type.entity m)), value.set (uid_values (filter (λ a. nat_eq a.0 m) (listed_ancestors s es u))))

-- the value after a step at a literal or extension value: only a uid has steps
abbrev pub prim_value : Schema → List Entity → Step → value.Primitive → Option Typed
prim_value s es st (value.bool b) = None
prim_value s es st (value.long z) = None
prim_value s es st (value.string n) = None
prim_value s es st (value.uid u) = entity_value s es st u
prim_value s es st (value.ext x) = None

-- the value after a step at a record: it has only attributes
abbrev pub fields_value : Step → Ty → Values → Option Typed
fields_value (attribute n) t vs = record_value n t vs
fields_value (tag n) t vs = None
fields_value (ancestors m) t vs = None

-- the value after a step with its type, or nothing where it is absent
abbrev pub step_value : Schema → List Entity → Step → Ty → Value → Option Typed
step_value s es st t (value.prim x) = prim_value s es st x
step_value s es st t (value.set vs) = None
step_value s es st t (value.rec vs) = fields_value st t vs

-- what some steps find from a value, the next of them being the step k
abbrev pub values_from : Schema → List Entity → List Step → ℕ → Typed → Found Typed
values_from s es [] k x = Ok x
values_from s es (st ∷ sts) k x = found_on k (step_value s es st x.0 x.1) (λ y. values_from s es sts (k + 1) y)

-- what is found as a term
abbrev pub as_term : Found Typed → Found Term
as_term (Ok x) = Ok (symbolize x.0 x.1)
as_term (Err k) = Err k

-- what a list of entities answers, as `from_value` writes it
abbrev pub walk_in : Schema → RequestType → Request → List Entity → Root → List Step → Found Term
walk_in s q r es root steps = as_term (values_from s es steps 1 (root_value s q r root))

-- Refusals

-- the name that a step has
abbrev pub step_name : Step → ℕ
step_name (attribute n) = n
step_name (tag n) = n
step_name (ancestors m) = m

-- the first step that passes a limit: one with a name out of range, or the 17th
abbrev pub large_step : List Step → ℕ → Option ℕ
large_step [] k = None
large_step (st ∷ sts) k = cond (nat_lt 16 k) (Some k) (cond (no_name (step_name st)) (Some k) (large_step sts (k + 1)))

-- the step that does not go with its type, if there is one
abbrev pub ill_typed : Result TermTy ℕ → Option ℕ
ill_typed (Ok a) = None
ill_typed (Err k) = Some k

-- what a walk refuses, where its two buffers have so many nodes: 2 about the whole call, 2 at a step, 13 at a step
abbrev pub walk_fault : Schema → RequestType → ℕ → ℕ → Root → List Step → Option Fault
walk_fault s q types terms root steps =
    or_else (when (cond (nat_lt types 4096) true (nat_lt terms 4096)) (whole_call Limit walk_layer))
    (or_else (mapped (λ k. placed Limit walk_layer k) (large_step steps 1))
    (mapped (λ k. placed IllTypedWalk walk_layer k) (ill_typed (foretold s q root steps))))
