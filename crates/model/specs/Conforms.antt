-- The check: whether values, entities and a request conform to a schema. Each answer is the first node, in run order,
-- that breaks a rule, or nothing.
use Rattle.std.specs.Prelude.{ℕ, ◌+◌, Bool, true, false, cond, not, ◌&&◌, ◌||◌, List, [], ◌∷◌, length, is_some, Some, None, Option, ◌==◌}
use Rattle.model.specs.Options.{or_else}
use Rattle.model.specs.Slots.{Uid}
use Rattle.model.specs.Values as value
use Rattle.model.specs.Values.{Value, Values, Primitive, decimal, ipaddr, datetime, duration}
use Rattle.model.specs.Types as type
use Rattle.model.specs.Types.{Ty, Tys, Flat}
use Rattle.model.specs.Symbolize.{field}
use Rattle.model.specs.Entities.{Entity, Request}
use Rattle.model.specs.Schemas.{Schema, Body, standard, enum, RequestType, same_uid, among, declared, members, ancestor_types, type_row}

-- whether an id is a member of a type; without members every id is
abbrev pub is_member : Option (List ℕ) → ℕ → Bool
is_member None id = true
is_member (Some ms) id = among id ms

-- a uid conforms if its type is declared, and its id is a member where that type has members
abbrev pub uid_conforms : Schema → Uid → Bool
uid_conforms s u = declared s u.0 && is_member (members s u.0) u.1

-- a uid of this type that conforms
abbrev pub uid_of_type : Schema → ℕ → Uid → Bool
uid_of_type s n u = u.0 == n && uid_conforms s u

-- whether a literal or extension value is a Bool
abbrev pub is_bool : Primitive → Bool
is_bool (value.bool b) = true
is_bool (value.long z) = false
is_bool (value.string n) = false
is_bool (value.uid u) = false
is_bool (value.ext x) = false

-- whether a literal or extension value is a Long
abbrev pub is_long : Primitive → Bool
is_long (value.bool b) = false
is_long (value.long z) = true
is_long (value.string n) = false
is_long (value.uid u) = false
is_long (value.ext x) = false

-- whether a literal or extension value is a String
abbrev pub is_string : Primitive → Bool
is_string (value.bool b) = false
is_string (value.long z) = false
is_string (value.string n) = true
is_string (value.uid u) = false
is_string (value.ext x) = false

-- whether a literal or extension value is a uid that passes a test
abbrev pub is_uid : (Uid → Bool) → Primitive → Bool
is_uid f (value.bool b) = false
is_uid f (value.long z) = false
is_uid f (value.string n) = false
is_uid f (value.uid u) = f u
is_uid f (value.ext x) = false

-- the code of the extension type that an extension value has
abbrev pub ext_code : value.Ext → ℕ
ext_code (decimal z) = 1
ext_code (ipaddr address prefix) = 2
ext_code (datetime z) = 3
ext_code (duration z) = 4

-- whether a literal or extension value is of the extension type of this code
abbrev pub is_ext : ℕ → Primitive → Bool
is_ext c (value.bool b) = false
is_ext c (value.long z) = false
is_ext c (value.string n) = false
is_ext c (value.uid u) = false
is_ext c (value.ext x) = ext_code x == c

-- whether the kind of a literal or extension value fits a type without parts; a type that is not taken has no values
abbrev pub kind_fits : Schema → Flat → Primitive → Bool
kind_fits s type.bool x = is_bool x
kind_fits s type.true_type x = false
kind_fits s type.false_type x = false
kind_fits s type.long x = is_long x
kind_fits s type.string x = is_string x
kind_fits s type.any_entity x = false
kind_fits s type.entities x = false
kind_fits s type.any_set x = false
kind_fits s type.never x = false
kind_fits s (type.entity n) x = is_uid (uid_of_type s n) x
kind_fits s (type.extension c) x = is_ext c x

-- the node p breaks a rule unless a test holds
abbrev pub here_unless : Bool → ℕ → Option ℕ
here_unless b p = cond b None (Some p)

-- a literal or extension value breaks every type but one without parts that it fits
abbrev pub prim_breaks : Schema → Primitive → Ty → ℕ → Option ℕ
prim_breaks s x (type.flat f) p = here_unless (kind_fits s f x) p
prim_breaks s x (type.set t) p = Some p
prim_breaks s x (type.rec is_open ts) p = Some p

-- whether a required field is missing
abbrev pub lacks : Tys → Values → Bool
lacks type.none vs = false
lacks (type.more name required of rest) vs = (required && not (is_some (field name vs))) || lacks rest vs

-- a set breaks every type but a set type; there its elements decide
abbrev pub in_set : (Ty → Option ℕ) → ℕ → Ty → Option ℕ
in_set f p (type.flat x) = Some p
in_set f p (type.set t) = f t
in_set f p (type.rec is_open ts) = Some p

-- a record has every required field, and none beyond the type's
abbrev pub in_record : Values → (Tys → Option ℕ) → ℕ → Ty → Option ℕ
in_record vs f p (type.flat x) = Some p
in_record vs f p (type.set t) = Some p
in_record vs f p (type.rec is_open ts) = or_else (here_unless (not (is_open || lacks ts vs)) p) (f ts)

-- a field that the record type does not have breaks; else its value decides
abbrev pub in_field : (Ty → Option ℕ) → ℕ → Option (Bool × Ty) → Option ℕ
in_field f p None = Some p
in_field f p (Some x) = f x.1

-- the first node that breaks a rule in a value whose root is the node p
abbrev mutual
  pub breaks : Schema → Value → Ty → ℕ → Option ℕ
  breaks s (value.prim x) t p = prim_breaks s x t p
  breaks s (value.set vs) t p = in_set (λ el. elements_break s vs el (p + 1)) p t
  breaks s (value.rec vs) t p = in_record vs (λ ts. fields_break s vs ts (p + 1)) p t

  -- the same of the elements of a set, or of tags, of which the first lies at p
  pub elements_break : Schema → Values → Ty → ℕ → Option ℕ
  elements_break s value.none t p = None
  elements_break s (value.more name of rest) t p = or_else (breaks s of t p) (elements_break s rest t (p + value.size of))

  -- the same of the fields of a record, of which the first lies at p
  pub fields_break : Schema → Values → Tys → ℕ → Option ℕ
  fields_break s value.none ts p = None
  fields_break s (value.more name of rest) ts p =
      or_else (in_field (λ t. breaks s of t p) p (type.field name ts)) (fields_break s rest ts (p + value.size of))

-- every ancestor's type is an ancestor type, and its uid conforms
abbrev pub ancestors_break : Schema → ℕ → List Uid → ℕ → Option ℕ
ancestors_break s n [] p = None
ancestors_break s n (u ∷ us) p =
    or_else (here_unless (among u.0 (ancestor_types s n) && uid_conforms s u) p) (ancestors_break s n us (p + 1))

-- tags conform to the tag type; without one there are none
abbrev pub tags_break : Schema → Option Ty → Values → ℕ → Option ℕ
tags_break s None value.none p = None
tags_break s None (value.more name of rest) p = Some p
tags_break s (Some t) vs p = elements_break s vs t p

-- where the ancestors of an entity begin, and its tags; its attributes are the node 2
abbrev pub ancestors_place : Entity → ℕ
ancestors_place e = 3 + value.sizes e.attributes

-- the node at which the tags of an entity begin
abbrev pub tags_place : Entity → ℕ
tags_place e = ancestors_place e + length e.ancestors

-- the first broken node of an entity with these types of attributes and tags: uid, attributes, ancestors, tags
abbrev pub parts_break : Schema → Entity → Ty → Option Ty → Option ℕ
parts_break s e attributes tags =
    or_else (here_unless (uid_conforms s e.uid) 1)
    (or_else (breaks s (value.rec e.attributes) attributes 2)
    (or_else (ancestors_break s e.uid.0 e.ancestors (ancestors_place e)) (tags_break s tags e.tags (tags_place e))))

-- the first broken node of an entity, by the row of its type; of an enum it has no attributes and no tags
abbrev pub entity_breaks_in : Schema → Entity → Option (Body Ty) → Option ℕ
entity_breaks_in s e None = Some 1
entity_breaks_in s e (Some (standard ds attributes tags)) = parts_break s e attributes tags
entity_breaks_in s e (Some (enum ms)) = parts_break s e (type.rec false type.none) None

-- an entity of a type row; entities of action types and of undeclared types do not conform
abbrev pub entity_breaks : Schema → Entity → Option ℕ
entity_breaks s e = entity_breaks_in s e (type_row s e.uid.0)

-- principal and resource are of the request type's types and conform, the action is the one named, the context conforms
abbrev pub request_breaks : Schema → RequestType → Ty → Request → Option ℕ
request_breaks s q context r =
    or_else (here_unless (uid_of_type s q.principal r.principal) 1)
    (or_else (here_unless (same_uid r.action q.action) 2)
    (or_else (here_unless (uid_of_type s q.resource r.resource) 3) (breaks s (value.rec r.context) context 4)))
