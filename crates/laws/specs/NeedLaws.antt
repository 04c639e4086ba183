-- The need of a value is the size of its term before equal elements merge, and at least the records that the term takes.
use Rattle.std.specs.Prelude.{◌≡◌, ◌≤◌}
use Rattle.model.specs.Values as value
use Rattle.model.specs.Values.{Value, Values}
use Rattle.model.specs.Types.{Ty, Tys, flat, set, rec, none, more}
use Rattle.model.specs.Terms.{Term, TermTy, many, elements, Terms, no_terms, term, size}
use Rattle.model.specs.Symbolize.{term_type, symbolize, as_flat, as_set, as_record, attribute, each, field, need}

-- a set with all its elements, equal ones each time
abbrev pub with_repeats : TermTy → (Value → Term) → Value → Term
with_repeats a f (value.prim x) = as_set a f (value.prim x)
with_repeats a f (value.set vs) = many (elements a) (each f vs)
with_repeats a f (value.rec vs) = as_set a f (value.rec vs)

-- the term of a value before equal elements merge
abbrev mutual
  pub unmerged : Ty → Value → Term
  unmerged (flat x) v = as_flat v
  unmerged (set t) v = with_repeats (term_type t) (λ u. unmerged t u) v
  unmerged (rec is_open ts) v = as_record (λ vs. unmerged_fields ts vs) v

  pub unmerged_fields : Tys → Values → Terms
  unmerged_fields none vs = no_terms
  unmerged_fields (more name required of rest) vs =
      term name (attribute required (term_type of) (λ u. unmerged of u) (field name vs)) (unmerged_fields rest vs)

pub record NeedLaws : Type 0 where
  pub is : (t : Ty) (v : Value) → need t v ≡ size (unmerged t v)
  pub suffices : (t : Ty) (v : Value) → size (symbolize t v) ≤ need t v
