-- The default value of a type, and the default literal of its term type.
use Rattle.std.proofs.Common.{◌≡◌, ℕ, Bool, true, false, cond, eqb, pos, Some, None, sym, refl, ap, ◌∙◌}
use Rattle.std.proofs.lemmas.Bool.{eqb-false, eq-eqb, ne_eqb, cond-true, cond-false}
use Rattle.model.specs.Values as value
use Rattle.model.specs.Values.{Value, Values, decimal, ipaddr, datetime, duration}
use Rattle.model.specs.Types as type
use Rattle.model.specs.Types.{Ty, Tys, Flat}
use Rattle.model.specs.Terms.{ip, decimals, datetimes, durations, FlatTy, bitvec, bool, string, entity, extension, TermTy, option, flat, rec, set, TermTys, none, more, prim, atom, term, record_of, type_of, types_of, prim_type}
use Rattle.model.specs.Symbolize.{flat_type, term_type, term_types, symbolize_prim, field, attribute, symbolize, attributes, default_ext, default_prim, default_literal, default_literals}
use Rattle.model.specs.Walks.{default_flat, default_value, default_values}
use Rattle.laws.specs.WalkLaws.{Apart, AllApart}
use Rattle.laws.proofs.Searches.{not_found}
use Rattle.laws.proofs.SymbolizedFields.{Fitting}

-- a default literal has its type
default_prim_type : (least : ℕ → ℕ) (x : FlatTy) → prim_type (default_prim least x) ≡ x
default_prim_type least bitvec = refl
default_prim_type least bool = refl
default_prim_type least string = refl
default_prim_type least (entity n) = refl
default_prim_type least (extension ip) = refl
default_prim_type least (extension decimals) = refl
default_prim_type least (extension datetimes) = refl
default_prim_type least (extension durations) = refl

mutual
  default_type : (least : ℕ → ℕ) (a : TermTy) → type_of (default_literal least a) ≡ a
  default_type least (option a) = refl
  default_type least (flat x) = ap flat (default_prim_type least x)
  default_type least (rec xs) = ap rec (default_types least xs)
  default_type least (set a) = refl

  default_types : (least : ℕ → ℕ) (xs : TermTys) → types_of (default_literals least xs) ≡ xs
  default_types least none = refl
  default_types least (more name of rest) = λ i. more name (default_type least of i) (default_types least rest i)

-- the default of a type without parts
default_ext_is : (a b c : Bool) → cond a (decimal (pos 0)) (cond b (ipaddr 0 32) (cond c (datetime (pos 0)) (duration (pos 0)))) ≡ default_ext (cond a decimals (cond b ip (cond c datetimes durations)))
default_ext_is true b c = refl
default_ext_is false true c = refl
default_ext_is false false true = refl
default_ext_is false false false = refl

default_flat_is : (least : ℕ → ℕ) (x : Flat) → symbolize_prim (default_flat least x) ≡ default_prim least (flat_type x)
default_flat_is least type.bool = refl
default_flat_is least type.true_type = refl
default_flat_is least type.false_type = refl
default_flat_is least type.long = refl
default_flat_is least type.string = refl
default_flat_is least type.any_entity = refl
default_flat_is least type.entities = refl
default_flat_is least type.any_set = refl
default_flat_is least type.never = refl
default_flat_is least (type.entity n) = refl
default_flat_is least (type.extension c) = ap (λ x. symbolize_prim (value.ext x)) (default_ext_is (eqb c 1) (eqb c 2) (eqb c 3))

-- names differ either way round
differ_turned : (m n : ℕ) → eqb m n ≡ false → eqb n m ≡ false
differ_turned m n h = ne_eqb n m (λ e. eqb-false m n h (sym e))

-- a value under a name that no field has says nothing
attributes_beside : (n : ℕ) (v : Value) (vs : Values) (ts : Tys) → type.field n ts ≡ None → attributes ts (value.more n v vs) ≡ attributes ts vs
attributes_beside n v vs type.none h = refl
attributes_beside n v vs (type.more name required of rest) h =
    let both = not_found (eqb name n) (required, of) (type.field n rest) h in
    let here : field name (value.more n v vs) ≡ field name vs = cond-false (eqb n name) (Some v) (field name vs) (differ_turned name n both.0) in
    λ i. term name (attribute required (term_type of) (λ u. symbolize of u) (here i)) (attributes_beside n v vs rest both.1 i)

-- nor has the default a field of that name
default_beside : (least : ℕ → ℕ) (n : ℕ) (ts : Tys) → type.field n ts ≡ None → field n (default_values least ts) ≡ None
default_beside least n type.none h = refl
default_beside least n (type.more name true of rest) h =
    let both = not_found (eqb name n) (true, of) (type.field n rest) h in
    cond-false (eqb name n) (Some (default_value least of)) (field n (default_values least rest)) both.0 ∙ default_beside least n rest both.1
default_beside least n (type.more name false of rest) h = default_beside least n rest (not_found (eqb name n) (false, of) (type.field n rest) h).1

-- the term of the default value is the default literal
mutual
  pub default_is : (least : ℕ → ℕ) (t : Ty) → Apart t → symbolize t (default_value least t) ≡ default_literal least (term_type t)
  default_is least (type.flat x) d = ap (λ y. atom (prim y)) (default_flat_is least x)
  default_is least (type.set t) d = refl
  default_is least (type.rec is_open ts) d = ap record_of (defaults_are least ts d)

  defaults_are : (least : ℕ → ℕ) (ts : Tys) → AllApart ts → attributes ts (default_values least ts) ≡ default_literals least (term_types ts)
  defaults_are least type.none d = refl
  defaults_are least (type.more name true of rest) d =
      let v = default_value least of in
      let vs = default_values least rest in
      let here : field name (value.more name v vs) ≡ Some v = cond-true (eqb name name) (Some v) (field name vs) (eq-eqb name name refl) in
      let first : attribute true (term_type of) (λ u. symbolize of u) (field name (value.more name v vs)) ≡ default_literal least (term_type of)
      = ap (λ o. attribute true (term_type of) (λ u. symbolize of u) o) here ∙ default_is least of d.1.0 in
      let others : attributes rest (value.more name v vs) ≡ default_literals least (term_types rest) = attributes_beside name v vs rest d.0 ∙ defaults_are least rest d.1.1 in
      λ i. term name (first i) (others i)
  defaults_are least (type.more name false of rest) d =
      λ i. term name (attribute false (term_type of) (λ u. symbolize of u) (default_beside least name rest d.0 i)) (defaults_are least rest d.1.1 i)

-- so the default value fits
pub default_fits : (least : ℕ → ℕ) (t : Ty) → Apart t → Fitting t (default_value least t)
default_fits least t d = ap type_of (default_is least t d) ∙ default_type least (term_type t)
