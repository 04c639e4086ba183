-- What conforms fits its type: in a request, and in every stored entity.
use Rattle.std.proofs.Common.{◌≡◌, ℕ, ◌+◌, Bool, true, false, cond, not, ◌&&◌, ◌||◌, eqb, List, [], ◌∷◌, is_some, Some, None, Option, sym, refl, ap, ◌∙◌, arith}
use Rattle.std.proofs.lemmas.Bool.{not-true, and_parts, or_parts, eqb-true, eq-eqb, ne_eqb, cond-true, cond-false}
use Rattle.model.specs.Options.{mapped}
use Rattle.model.specs.Slots.{Uid}
use Rattle.model.specs.Values as value
use Rattle.model.specs.Values.{Value, Values, Primitive, Ext, decimal, ipaddr, datetime, duration}
use Rattle.model.specs.Types as type
use Rattle.model.specs.Types.{Ty, Tys, Flat}
use Rattle.model.specs.Terms.{bitvec, bool, string, entity, extension, option, flat, rec, more, prim_type, ext_type, type_of, types_of}
use Rattle.model.specs.Symbolize.{ext_of_code, flat_type, qualified, term_type, term_types, symbolize_prim, field, attribute, symbolize, attributes}
use Rattle.model.specs.Entities.{Entity}
use Rattle.model.specs.Schemas.{Schema, same_uid, type_row}
use Rattle.model.specs.Environments.{stored}
use Rattle.model.specs.Builds.{first_entity}
use Rattle.model.specs.Conforms.{uid_of_type, uid_conforms, is_bool, is_long, is_string, is_uid, ext_code, is_ext, kind_fits, here_unless, lacks, in_field, breaks, elements_break, fields_break, ancestors_break, tags_break, ancestors_place, tags_place, parts_break, entity_breaks_in, entity_breaks}
use Rattle.laws.specs.WalkLaws.{Apart, AllApart}
use Rattle.laws.proofs.Searches.{or_else_none, mapped_none}
use Rattle.laws.proofs.SymbolizedFields.{Fitting}

-- where a node breaks no rule, the rule holds
pub here_holds : (b : Bool) (p : ℕ) → here_unless b p ≡ None → b ≡ true
here_holds true p e = refl
here_holds false p e = cc

-- a literal or extension value whose kind fits
bool_kind : (y : Primitive) → is_bool y ≡ true → prim_type (symbolize_prim y) ≡ bool
bool_kind (value.bool b) h = refl
bool_kind (value.long z) h = cc
bool_kind (value.string n) h = cc
bool_kind (value.uid u) h = cc
bool_kind (value.ext x) h = cc

long_kind : (y : Primitive) → is_long y ≡ true → prim_type (symbolize_prim y) ≡ bitvec
long_kind (value.bool b) h = cc
long_kind (value.long z) h = refl
long_kind (value.string n) h = cc
long_kind (value.uid u) h = cc
long_kind (value.ext x) h = cc

string_kind : (y : Primitive) → is_string y ≡ true → prim_type (symbolize_prim y) ≡ string
string_kind (value.bool b) h = cc
string_kind (value.long z) h = cc
string_kind (value.string n) h = refl
string_kind (value.uid u) h = cc
string_kind (value.ext x) h = cc

uid_kind : (s : Schema) (n : ℕ) (y : Primitive) → is_uid (uid_of_type s n) y ≡ true → prim_type (symbolize_prim y) ≡ entity n
uid_kind s n (value.bool b) h = cc
uid_kind s n (value.long z) h = cc
uid_kind s n (value.string m) h = cc
uid_kind s n (value.uid u) h = ap entity (eqb-true u.0 n (and_parts (eqb u.0 n) (uid_conforms s u) h).0)
uid_kind s n (value.ext x) h = cc

ext_type_is : (x : Ext) → ext_type x ≡ ext_of_code (ext_code x)
ext_type_is (decimal z) = refl
ext_type_is (ipaddr address prefix) = refl
ext_type_is (datetime z) = refl
ext_type_is (duration z) = refl

ext_kind : (c : ℕ) (y : Primitive) → is_ext c y ≡ true → prim_type (symbolize_prim y) ≡ extension (ext_of_code c)
ext_kind c (value.bool b) h = cc
ext_kind c (value.long z) h = cc
ext_kind c (value.string n) h = cc
ext_kind c (value.uid u) h = cc
ext_kind c (value.ext x) h = ap extension (ext_type_is x ∙ ap ext_of_code (eqb-true (ext_code x) c h))

kind_type : (s : Schema) (x : Flat) (y : Primitive) → kind_fits s x y ≡ true → prim_type (symbolize_prim y) ≡ flat_type x
kind_type s type.bool y h = bool_kind y h
kind_type s type.true_type y h = cc
kind_type s type.false_type y h = cc
kind_type s type.long y h = long_kind y h
kind_type s type.string y h = string_kind y h
kind_type s type.any_entity y h = cc
kind_type s type.entities y h = cc
kind_type s type.any_set y h = cc
kind_type s type.never y h = cc
kind_type s (type.entity n) y h = uid_kind s n y h
kind_type s (type.extension c) y h = ext_kind c y h

-- a value in which no node breaks a rule, from whichever node it is counted
abbrev pub Unbroken : Schema → Value → Ty → Type 0
Unbroken s v t = (p : ℕ) × (breaks s v t p ≡ None)

-- the first element of a name is unbroken where all are
pub element_unbroken : (s : Schema) (vs : Values) (t : Ty) (p n : ℕ) (v : Value) → elements_break s vs t p ≡ None → field n vs ≡ Some v → Unbroken s v t
element_unbroken s value.none t p n v e h = (p, cc)
element_unbroken s (value.more m of rest) t p n v e h =
    let both = or_else_none (breaks s of t p) (elements_break s rest t (p + value.size of)) e in
    go (eqb m n) both.0 h (element_unbroken s rest t (p + value.size of) n v both.1)
  where
    go : (c : Bool) → breaks s of t p ≡ None → cond c (Some of) (field n rest) ≡ Some v → (field n rest ≡ Some v → Unbroken s v t) → Unbroken s v t
    go true b h ih = (p, cc)
    go false b h ih = ih h

-- and so is a field, under the type that a record has for it
field_unbroken : (s : Schema) (vs : Values) (ts : Tys) (p n : ℕ) (v : Value) (x : Bool × Ty) → fields_break s vs ts p ≡ None → field n vs ≡ Some v → type.field n ts ≡ Some x → Unbroken s v x.1
field_unbroken s value.none ts p n v x e h k = (p, cc)
field_unbroken s (value.more m of rest) ts p n v x e h k =
    let both = or_else_none (in_field (λ t. breaks s of t p) p (type.field m ts)) (fields_break s rest ts (p + value.size of)) e in
    go (eqb m n) refl both.0 h (λ h'. field_unbroken s rest ts (p + value.size of) n v x both.1 h' k)
  where
    go : (c : Bool) → eqb m n ≡ c → in_field (λ t. breaks s of t p) p (type.field m ts) ≡ None → cond c (Some of) (field n rest) ≡ Some v → (field n rest ≡ Some v → Unbroken s v x.1) → Unbroken s v x.1
    go true c b h ih =
        let found : type.field m ts ≡ Some x = ap (λ i. type.field i ts) (eqb-true m n c) ∙ k in
        let here : breaks s of x.1 p ≡ None = ap (λ o. in_field (λ t. breaks s of t p) p o) (sym found) ∙ b in
        (p, ap (λ w. breaks s w x.1 p) (cc) ∙ here)
    go false c b h ih = ih h

-- the fields of a part of a record type are the record's
abbrev Within : Tys → Tys → Type 0
Within ts all = (n : ℕ) (x : Bool × Ty) → type.field n ts ≡ Some x → type.field n all ≡ Some x

within_rest : (name : ℕ) (required : Bool) (of : Ty) (rest all : Tys) → type.field name rest ≡ None → Within (type.more name required of rest) all → Within rest all
within_rest name required of rest all d w n x e =
    let differ : name ≡ n → ⊥ = λ q. (let z : ◌≡◌ {A = ℕ} 0 1 = cc (ap (λ m. type.field m rest) q) in omega arith) in
    w n x (cond-false (eqb name n) (Some (required, of)) (type.field n rest) (ne_eqb name n differ) ∙ e)

attribute_fits : (required : Bool) (t : Ty) (o : Option Value) → (required && not (is_some o)) ≡ false → ((v : Value) → o ≡ Some v → Fitting t v) →
    type_of (attribute required (term_type t) (λ u. symbolize t u) o) ≡ qualified required (term_type t)
attribute_fits true t None h f = cc
attribute_fits false t None h f = refl
attribute_fits true t (Some v) h f = f v refl
attribute_fits false t (Some v) h f = ap option (f v refl)

-- an unbroken value fits
mutual
  pub fitting : (s : Schema) (t : Ty) (v : Value) → Apart t → Unbroken s v t → Fitting t v
  fitting s (type.flat x) (value.prim y) d u = ap flat (kind_type s x y (here_holds (kind_fits s x y) u.0 u.1))
  fitting s (type.flat x) (value.set vs) d u = cc u.1
  fitting s (type.flat x) (value.rec vs) d u = cc u.1
  fitting s (type.set t) (value.prim y) d u = cc u.1
  fitting s (type.set t) (value.set vs) d u = refl
  fitting s (type.set t) (value.rec vs) d u = cc u.1
  fitting s (type.rec is_open ts) (value.prim y) d u = cc u.1
  fitting s (type.rec is_open ts) (value.set vs) d u = cc u.1
  fitting s (type.rec is_open ts) (value.rec vs) d u =
      let both = or_else_none (here_unless (not (is_open || lacks ts vs)) u.0) (fields_break s vs ts (u.0 + 1)) u.1 in
      let whole = or_parts is_open (lacks ts vs) (not-true (is_open || lacks ts vs) (here_holds (not (is_open || lacks ts vs)) u.0 both.0)) in
      ap rec (fitting_fields s ts ts vs (u.0 + 1) (λ n x e. e) d whole.1 both.1)

  fitting_fields : (s : Schema) (ts all : Tys) (vs : Values) (p : ℕ) → Within ts all → AllApart ts → lacks ts vs ≡ false → fields_break s vs all p ≡ None → types_of (attributes ts vs) ≡ term_types ts
  fitting_fields s type.none all vs p w d h e = refl
  fitting_fields s (type.more name required of rest) all vs p w d h e =
      let own : type.field name (type.more name required of rest) ≡ Some (required, of) = cond-true (eqb name name) (Some (required, of)) (type.field name rest) (eq-eqb name name refl) in
      let both = or_parts (required && not (is_some (field name vs))) (lacks rest vs) h in
      let first : type_of (attribute required (term_type of) (λ u. symbolize of u) (field name vs)) ≡ qualified required (term_type of)
      = attribute_fits required of (field name vs) both.0 (λ v k. fitting s of v d.1.0 (field_unbroken s vs all p name v (required, of) e k (w name (required, of) own))) in
      let others : types_of (attributes rest vs) ≡ term_types rest = fitting_fields s rest all vs p (within_rest name required of rest all d.0 w) d.1.1 both.1 e in
      λ i. more name (first i) (others i)

-- the entity stored under a uid breaks no rule of the row of its type
pub stored_unbroken : (s : Schema) (es : List Entity) (i : ℕ) (u : Uid) (e : Entity) → first_entity (entity_breaks s) i es ≡ None → stored es u ≡ Some e → entity_breaks_in s e (type_row s u.0) ≡ None
stored_unbroken s [] i u e h k = cc
stored_unbroken s (d ∷ ds) i u e h k =
    let both = or_else_none (mapped (λ p. (i, p)) (entity_breaks s d)) (first_entity (entity_breaks s) (i + 1) ds) h in
    go (same_uid d.uid u) refl (mapped_none (λ p. (i, p)) (entity_breaks s d) both.0) k (stored_unbroken s ds (i + 1) u e both.1)
  where
    go : (c : Bool) → same_uid d.uid u ≡ c → entity_breaks s d ≡ None → cond c (Some d) (stored ds u) ≡ Some e → (stored ds u ≡ Some e → entity_breaks_in s e (type_row s u.0) ≡ None) → entity_breaks_in s e (type_row s u.0) ≡ None
    go true c b k ih =
        let one : d.uid.0 ≡ u.0 = eqb-true d.uid.0 u.0 (and_parts (eqb d.uid.0 u.0) (eqb d.uid.1 u.1) c).0 in
        let same : d ≡ e = cc in
        ap (λ x. entity_breaks_in s x (type_row s u.0)) (sym same) ∙ (ap (λ n. entity_breaks_in s d (type_row s n)) (sym one) ∙ b)
    go false c b k ih = ih k

-- so its attributes are unbroken, and its tags
pub parts_unbroken : (s : Schema) (e : Entity) (attributes : Ty) (tags : Option Ty) → parts_break s e attributes tags ≡ None →
    Unbroken s (value.rec e.attributes) attributes × (tags_break s tags e.tags (tags_place e) ≡ None)
parts_unbroken s e attributes tags h =
    let first = or_else_none (here_unless (uid_conforms s e.uid) 1) _ h in
    let next = or_else_none (breaks s (value.rec e.attributes) attributes 2) _ first.1 in
    let last = or_else_none (ancestors_break s e.uid.0 e.ancestors (ancestors_place e)) _ next.1 in
    ((2, next.0), last.1)
