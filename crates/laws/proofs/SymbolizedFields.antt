-- Terms of values: they are literals, and a field of a fitting record is the term of that field.
use Rattle.std.proofs.Common.{◌≡◌, ℕ, Bool, true, false, cond, eqb, Some, None, Option, Ordering, Less, Equal, Greater, sym, refl, ◌∙◌, subst, arith}
use Rattle.std.proofs.lemmas.Bool.{eqb-true, and_parts, and_from}
use Rattle.model.specs.Values as value
use Rattle.model.specs.Values.{Value, Values}
use Rattle.model.specs.Types as type
use Rattle.model.specs.Types.{Ty, Tys}
use Rattle.model.specs.Terms.{TermTy, option, none_of, prim, var, Term, atom, many, some, Terms, no_terms, term, order, insert_by, insert, inserted, literal, literals, type_of, types_of}
use Rattle.model.specs.Symbolize.{qualified, term_type, term_types, field, each, attribute, symbolize, attributes}
use Rattle.model.specs.Walks.{Typed, without_option, field_type, present, field_of, typed_field}
use Rattle.laws.proofs.Searches.{none_not}

-- a set of literals is one
insert_literals : (t : Term) (us : Terms) → literal t ≡ true → literals us ≡ true → literals (insert t us) ≡ true
insert_literals t no_terms h k = and_from (literal t) true h refl
insert_literals t (term m u us) h k = go (order u t) (insert_literals t us h)
  where
    go : (o : Ordering) → (literals us ≡ true → literals (insert t us) ≡ true) →
        literals (insert_by o (term m u (insert t us)) (term 0 t (term m u us)) (term m u us)) ≡ true
    go Less ih = let both = and_parts (literal u) (literals us) k in and_from (literal u) (literals (insert t us)) both.0 (ih both.1)
    go Equal ih = k
    go Greater ih = and_from (literal t) (literals (term m u us)) h k

inserted_literals : (ts us : Terms) → literals ts ≡ true → literals us ≡ true → literals (inserted ts us) ≡ true
inserted_literals no_terms us h k = k
inserted_literals (term m t ts) us h k = let both = and_parts (literal t) (literals ts) h in inserted_literals ts (insert t us) both.1 (insert_literals t us both.0 k)

each_literal : (f : Value → Term) → ((v : Value) → literal (f v) ≡ true) → (vs : Values) → literals (each f vs) ≡ true
each_literal f h value.none = refl
each_literal f h (value.more name of rest) = and_from (literal (f of)) (literals (each f rest)) (h of) (each_literal f h rest)

attribute_literal : (required : Bool) (a : TermTy) (f : Value → Term) → ((v : Value) → literal (f v) ≡ true) → (o : Option Value) → literal (attribute required a f o) ≡ true
attribute_literal required a f h None = refl
attribute_literal true a f h (Some v) = h v
attribute_literal false a f h (Some v) = h v

-- the term of any value is a literal
mutual
  pub symbolized_literal : (t : Ty) (v : Value) → literal (symbolize t v) ≡ true
  symbolized_literal (type.flat x) (value.prim y) = refl
  symbolized_literal (type.flat x) (value.set vs) = refl
  symbolized_literal (type.flat x) (value.rec vs) = refl
  symbolized_literal (type.set t) (value.prim y) = refl
  symbolized_literal (type.set t) (value.set vs) = inserted_literals (each (λ u. symbolize t u) vs) no_terms (each_literal (λ u. symbolize t u) (λ u. symbolized_literal t u) vs) refl
  symbolized_literal (type.set t) (value.rec vs) = refl
  symbolized_literal (type.rec is_open ts) (value.prim y) = refl
  symbolized_literal (type.rec is_open ts) (value.set vs) = refl
  symbolized_literal (type.rec is_open ts) (value.rec vs) = attributes_literal ts vs

  attributes_literal : (ts : Tys) (vs : Values) → literals (attributes ts vs) ≡ true
  attributes_literal type.none vs = refl
  attributes_literal (type.more name required of rest) vs =
      and_from _ (literals (attributes rest vs))
      (attribute_literal required (term_type of) (λ u. symbolize of u) (λ u. symbolized_literal of u) (field name vs)) (attributes_literal rest vs)

-- a value fits a type where its term has the type's term type
abbrev pub Fitting : Ty → Value → Type 0
Fitting t v = type_of (symbolize t v) ≡ term_type t

-- no type becomes Option
pub option_not : {P : Type 0} (t : Ty) (a : TermTy) → option a ≡ term_type t → P
option_not (type.flat x) a e = let z : ◌≡◌ {A = ℕ} 0 1 = cc in absurd (omega arith)
option_not (type.set t) a e = let z : ◌≡◌ {A = ℕ} 0 1 = cc in absurd (omega arith)
option_not (type.rec is_open ts) a e = let z : ◌≡◌ {A = ℕ} 0 1 = cc in absurd (omega arith)

-- so a term of a type is there
present_term : (t : Ty) (u : Term) → type_of u ≡ term_type t → present u ≡ Some u
present_term t (atom (none_of a)) e = option_not t a e
present_term t (atom (prim x)) e = refl
present_term t (atom (var v a)) e = refl
present_term t (many g ts) e = refl
present_term t (some u) e = option_not t (type_of u) e

-- the type of a field is foretold as that of what it holds
qualified_type : (required : Bool) (t : Ty) → without_option (qualified required (term_type t)) ≡ term_type t
qualified_type true (type.flat x) = refl
qualified_type true (type.set t) = refl
qualified_type true (type.rec is_open ts) = refl
qualified_type false t = refl

-- a value with its type that is found, or nothing, where an environment has this term, and b is foretold
abbrev pub Agrees : Option Typed → Option Term → TermTy → Type 0
Agrees None o b = o ≡ None
Agrees (Some x) o b = (o ≡ Some (symbolize x.0 x.1)) × ((term_type x.0 ≡ b) × Fitting x.0 x.1)

-- the term of a field, and of a field that is absent
abbrev field_term : Bool → Ty → Option Value → Term
field_term required t o = attribute required (term_type t) (λ u. symbolize t u) o

attribute_agrees : (required : Bool) (t : Ty) (o : Option Value) → type_of (field_term required t o) ≡ qualified required (term_type t) →
    Agrees (typed_field (Some (required, t)) o) (present (field_term required t o)) (term_type t)
attribute_agrees true t None e = option_not t (term_type t) e
attribute_agrees false t None e = refl
attribute_agrees true t (Some v) e = (present_term t (symbolize t v) e, (refl, e))
attribute_agrees false t (Some v) e = (refl, (refl, cc))

-- a field of a record that fits
pub field_agrees : (n : ℕ) (ts : Tys) (vs : Values) (b : TermTy) → types_of (attributes ts vs) ≡ term_types ts → field_type n (term_types ts) ≡ Some b →
    Agrees (typed_field (type.field n ts) (field n vs)) (field_of n (attributes ts vs)) b
field_agrees n type.none vs b e h = none_not h
field_agrees n (type.more name required of rest) vs b e h = go (eqb name n) refl h (field_agrees n rest vs b (cc))
  where
    go : (c : Bool) → eqb name n ≡ c → cond c (Some (without_option (qualified required (term_type of)))) (field_type n (term_types rest)) ≡ Some b →
        (field_type n (term_types rest) ≡ Some b → Agrees (typed_field (type.field n rest) (field n vs)) (field_of n (attributes rest vs)) b) →
        Agrees (typed_field (cond c (Some (required, of)) (type.field n rest)) (field n vs)) (cond c (present (field_term required of (field name vs))) (field_of n (attributes rest vs))) b
    go true c h ih =
        let found = present (field_term required of (field name vs)) in
        let b_is : term_type of ≡ b = sym (qualified_type required of) ∙ (cc) in
        subst (λ m. Agrees (typed_field (Some (required, of)) (field m vs)) found b) (eqb-true name n c)
        (subst (λ a. Agrees (typed_field (Some (required, of)) (field name vs)) found a) b_is (attribute_agrees required of (field name vs) (cc)))
    go false c h ih = ih h
