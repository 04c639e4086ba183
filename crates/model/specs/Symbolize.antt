-- Cedar's types and values as term types and terms: of_type, from_value, the need of a value, default literals.
-- `term_type` and `symbolize` are total: what is not taken, or has no rule, is told apart by `untaken` and `without_rule`.
use Rattle.std.specs.Prelude.{ℕ, suc, ◌+◌, ◌-◌, ◌^◌, Bool, true, false, cond, ◌&&◌, ℤ, pos, negsuc, Some, None, Option, Result, ◌==◌, nat_le, nat_lt}
use Rattle.model.specs.Options.{or_else, unless}
use Rattle.model.specs.Values as value
use Rattle.model.specs.Values.{Value, Values, decimal, ipaddr, datetime, duration, field_at}
use Rattle.model.specs.Types as type
use Rattle.model.specs.Types.{Ty, Tys, Flat}
use Rattle.model.specs.Terms.{ExtTy, ip, decimals, datetimes, durations, FlatTy, bitvec, bool, string, entity, extension, TermTy, option, flat, rec, set, TermTys, none, more, TermPrim, pattern, truth, entity_uid, ext, text, none_of, prim, elements, Term, atom, many, some, Terms, no_terms, term, record_of, set_of}

-- Bool, Long, String, an entity type and a known extension are taken; so are sets and closed records of what is taken
abbrev pub flat_taken : Flat → Bool
flat_taken type.bool = true
flat_taken type.true_type = false
flat_taken type.false_type = false
flat_taken type.long = true
flat_taken type.string = true
flat_taken type.any_entity = false
flat_taken type.entities = false
flat_taken type.any_set = false
flat_taken type.never = false
flat_taken (type.entity n) = true
flat_taken (type.extension c) = nat_lt 0 c && nat_le c 4

-- the first node that `of_type` does not take, of a type whose root is the node p
abbrev mutual
  pub untaken : ℕ → Ty → Option ℕ
  untaken p (type.flat x) = cond (flat_taken x) None (Some p)
  untaken p (type.set t) = untaken (p + 1) t
  untaken p (type.rec is_open ts) = cond is_open (Some p) (untakens (p + 1) ts)

  pub untakens : ℕ → Tys → Option ℕ
  untakens p type.none = None
  untakens p (type.more name required of rest) = or_else (untaken p of) (untakens (p + type.size of) rest)

-- the extension type of a code
abbrev pub ext_of_code : ℕ → ExtTy
ext_of_code c = cond (c == 1) decimals (cond (c == 2) ip (cond (c == 3) datetimes durations))

-- the term type of a type without parts; a type that is not taken has one that nothing asks for
abbrev pub flat_type : Flat → FlatTy
flat_type type.bool = bool
flat_type type.true_type = bool
flat_type type.false_type = bool
flat_type type.long = bitvec
flat_type type.string = string
flat_type type.any_entity = bool
flat_type type.entities = bool
flat_type type.any_set = bool
flat_type type.never = bool
flat_type (type.entity n) = entity n
flat_type (type.extension c) = extension (ext_of_code c)

-- an optional attribute becomes Option
abbrev pub qualified : Bool → TermTy → TermTy
qualified required a = cond required a (option a)

-- the term type of a type, and the term types of a record's fields
abbrev mutual
  pub term_type : Ty → TermTy
  term_type (type.flat x) = flat (flat_type x)
  term_type (type.set t) = set (term_type t)
  term_type (type.rec is_open ts) = rec (term_types ts)

  pub term_types : Tys → TermTys
  term_types type.none = none
  term_types (type.more name required of rest) = more name (qualified required (term_type of)) (term_types rest)

-- the term type, or the first node that is not taken
abbrev pub of_type : Ty → Result TermTy ℕ
of_type t = unless (untaken 1 t) (term_type t)

-- the 64-bit pattern of a Long
abbrev pub pattern_of : ℤ → ℕ
pattern_of (pos n) = n
pattern_of (negsuc n) = 2 ^ 64 - suc n

-- the primitive term of a literal or extension value
abbrev pub symbolize_prim : value.Primitive → TermPrim
symbolize_prim (value.bool b) = truth b
symbolize_prim (value.long z) = pattern (pattern_of z)
symbolize_prim (value.string s) = text s
symbolize_prim (value.uid u) = entity_uid u
symbolize_prim (value.ext x) = ext x

-- the field of a name, where there is one
abbrev pub field : ℕ → Values → Option Value
field name value.none = None
field name (value.more m of rest) = cond (m == name) (Some of) (field name rest)

-- the term where there is no rule, which nothing asks for
abbrev pub no_rule : Term
no_rule = atom (none_of (flat bool))

-- the terms of some elements
abbrev pub each : (Value → Term) → Values → Terms
each f value.none = no_terms
each f (value.more name of rest) = term 0 (f of) (each f rest)

-- the term of a value under a type without parts
abbrev pub as_flat : Value → Term
as_flat (value.prim x) = atom (prim (symbolize_prim x))
as_flat (value.set vs) = no_rule
as_flat (value.rec vs) = no_rule

-- the term of a value under a set type, with elements of the type a
abbrev pub as_set : TermTy → (Value → Term) → Value → Term
as_set a f (value.prim x) = atom (prim (symbolize_prim x))
as_set a f (value.set vs) = set_of a (each f vs)
as_set a f (value.rec vs) = no_rule

-- the term of a value under a record type
abbrev pub as_record : (Values → Terms) → Value → Term
as_record f (value.prim x) = atom (prim (symbolize_prim x))
as_record f (value.set vs) = no_rule
as_record f (value.rec vs) = record_of (f vs)

-- an attribute in both is symbolized, inside Some if it is optional; one only in the type becomes None
abbrev pub attribute : (required : Bool) → TermTy → (Value → Term) → Option Value → Term
attribute required a f None = atom (none_of a)
attribute required a f (Some v) = cond required (f v) (some (f v))

-- the term of a value under a type; an attribute only in the value is dropped
abbrev mutual
  pub symbolize : Ty → Value → Term
  symbolize (type.flat x) v = as_flat v
  symbolize (type.set t) v = as_set (term_type t) (λ u. symbolize t u) v
  symbolize (type.rec is_open ts) v = as_record (λ vs. attributes ts vs) v

  pub attributes : Tys → Values → Terms
  attributes type.none vs = no_terms
  attributes (type.more name required of rest) vs =
      term name (attribute required (term_type of) (λ u. symbolize of u) (field name vs)) (attributes rest vs)

-- the first node without a rule among the elements of a set, of which the first lies at p
abbrev pub first_among : (ℕ → Value → Option ℕ) → ℕ → Values → Option ℕ
first_among f p value.none = None
first_among f p (value.more name of rest) = or_else (f p of) (first_among f (p + value.size of) rest)

-- under a type without parts a set and a record have no rule
abbrev pub rule_flat : ℕ → Value → Option ℕ
rule_flat p (value.prim x) = None
rule_flat p (value.set vs) = Some p
rule_flat p (value.rec vs) = Some p

-- under a set type a record has no rule, and of a set its elements decide
abbrev pub rule_set : (ℕ → Value → Option ℕ) → ℕ → Value → Option ℕ
rule_set f p (value.prim x) = None
rule_set f p (value.set vs) = first_among f (p + 1) vs
rule_set f p (value.rec vs) = Some p

-- under a record type a set has no rule, and of a record its fields decide
abbrev pub rule_record : (ℕ → Values → Option ℕ) → ℕ → Value → Option ℕ
rule_record f p (value.prim x) = None
rule_record f p (value.set vs) = Some p
rule_record f p (value.rec vs) = f (p + 1) vs

-- the first node without a rule in a field, if the value has it
abbrev pub visited : (ℕ → Value → Option ℕ) → Option (ℕ × Value) → Option ℕ
visited f None = None
visited f (Some x) = f x.0 x.1

-- the first node, in run order, for which `from_value` has no rule, of a value whose root is the node p:
-- a set wants a set type with an element type, a record a closed record; what is dropped is not visited
abbrev mutual
  pub without_rule : Ty → ℕ → Value → Option ℕ
  without_rule (type.flat x) p v = rule_flat p v
  without_rule (type.set t) p v = rule_set (λ q u. without_rule t q u) p v
  without_rule (type.rec is_open ts) p v = cond is_open (rule_flat p v) (rule_record (λ q vs. without_rules ts q vs) p v)

  pub without_rules : Tys → ℕ → Values → Option ℕ
  without_rules type.none q vs = None
  without_rules (type.more name required of rest) q vs =
      or_else (visited (λ r u. without_rule of r u) (field_at name q vs)) (without_rules rest q vs)

-- from_value: the term of a value whose root is the node p, or the first node without a rule
abbrev pub from_value : Ty → ℕ → Value → Result Term ℕ
from_value t p v = unless (without_rule t p v) (symbolize t v)

-- the needs of some values together
abbrev pub sum_of : (Value → ℕ) → Values → ℕ
sum_of f value.none = 0
sum_of f (value.more name of rest) = f of + sum_of f rest

-- the need of a value under a set type
abbrev pub need_set : (Value → ℕ) → Value → ℕ
need_set f (value.prim x) = 1
need_set f (value.set vs) = suc (sum_of f vs)
need_set f (value.rec vs) = 1

-- the need of a value under a record type
abbrev pub need_record : (Values → ℕ) → Value → ℕ
need_record f (value.prim x) = 1
need_record f (value.set vs) = 1
need_record f (value.rec vs) = suc (f vs)

-- the need of an attribute: a record for None, and one more for Some where it is optional
abbrev pub need_attribute : Bool → (Value → ℕ) → Option Value → ℕ
need_attribute required f None = 1
need_attribute required f (Some v) = cond required (f v) (suc (f v))

-- the need of a value under a type: the records of its term before equal elements merge
abbrev mutual
  pub need : Ty → Value → ℕ
  need (type.flat x) v = 1
  need (type.set t) v = need_set (λ u. need t u) v
  need (type.rec is_open ts) v = need_record (λ vs. needs ts vs) v

  pub needs : Tys → Values → ℕ
  needs type.none vs = 0
  needs (type.more name required of rest) vs = need_attribute required (λ u. need of u) (field name vs) + needs rest vs

-- the default of a type without parts, where `least` gives the id of an entity type: its smallest member, or the empty id
abbrev pub default_ext : ExtTy → value.Ext
default_ext ip = ipaddr 0 32
default_ext decimals = decimal (pos 0)
default_ext datetimes = datetime (pos 0)
default_ext durations = duration (pos 0)

-- the default primitive of a term type without parts
abbrev pub default_prim : (ℕ → ℕ) → FlatTy → TermPrim
default_prim least bitvec = pattern 0
default_prim least bool = truth false
default_prim least string = text 0
default_prim least (entity n) = entity_uid (n, least n)
default_prim least (extension x) = ext (default_ext x)

-- the default of a term type, and of a record's fields: None for Option, the empty set for a set
abbrev mutual
  pub default_literal : (ℕ → ℕ) → TermTy → Term
  default_literal least (option a) = atom (none_of a)
  default_literal least (flat x) = atom (prim (default_prim least x))
  default_literal least (rec xs) = record_of (default_literals least xs)
  default_literal least (set a) = many (elements a) no_terms

  pub default_literals : (ℕ → ℕ) → TermTys → Terms
  default_literals least none = no_terms
  default_literals least (more name of rest) = term name (default_literal least of) (default_literals least rest)
