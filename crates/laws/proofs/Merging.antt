-- The need of a value is the size of its term before equal elements merge; merging only frees records.
use Rattle.std.proofs.Common.{◌≡◌, ℕ, suc, ◌+◌, ◌≤◌, Bool, true, false, Some, None, Option, Ordering, Less, Equal, Greater, refl, ap, arith}
use Rattle.model.specs.Values as value
use Rattle.model.specs.Values.{Value, Values}
use Rattle.model.specs.Types.{Ty, Tys, flat, set, rec, none, more}
use Rattle.model.specs.Terms.{Term, TermTy, Terms, no_terms, term, order, insert, insert_by, inserted, size, sizes}
use Rattle.model.specs.Symbolize.{term_type, symbolize, attributes, attribute, as_flat, as_set, as_record, each, field, need, needs, need_set, need_record, need_attribute, sum_of}
use Rattle.laws.specs.NeedLaws.{with_repeats, unmerged, unmerged_fields, NeedLaws}

-- a term inserted adds at most its own records
insert_by_takes : (o : Ordering) (m : ℕ) (t u : Term) (us vs : Terms) → sizes vs ≤ size t + sizes us → sizes (insert_by o (term m u vs) (term 0 t (term m u us)) (term m u us)) ≤ size t + (size u + sizes us)
insert_by_takes Less m t u us vs h = omega arith
insert_by_takes Equal m t u us vs h = omega arith
insert_by_takes Greater m t u us vs h = omega arith

insert_takes : (t : Term) (us : Terms) → sizes (insert t us) ≤ size t + sizes us
insert_takes t no_terms = omega arith
insert_takes t (term m u us) = insert_by_takes (order u t) m t u us (insert t us) (insert_takes t us)

inserted_takes : (ts us : Terms) → sizes (inserted ts us) ≤ sizes ts + sizes us
inserted_takes no_terms us = omega arith
inserted_takes (term m t ts) us = omega (arith, inserted_takes ts (insert t us), insert_takes t us)

-- what holds of each element holds of their sum
each_takes : (f : Value → Term) (g : Value → ℕ) → ((v : Value) → size (f v) ≤ g v) → (vs : Values) → sizes (each f vs) ≤ sum_of g vs
each_takes f g h value.none = omega arith
each_takes f g h (value.more name of rest) = omega (arith, h of, each_takes f g h rest)

flat_takes : (v : Value) → size (as_flat v) ≤ 1
flat_takes (value.prim x) = omega arith
flat_takes (value.set vs) = omega arith
flat_takes (value.rec vs) = omega arith

set_takes : (a : TermTy) (f : Value → Term) (g : Value → ℕ) → ((v : Value) → size (f v) ≤ g v) → (v : Value) → size (as_set a f v) ≤ need_set g v
set_takes a f g h (value.prim x) = omega arith
set_takes a f g h (value.set vs) = omega (arith, inserted_takes (each f vs) no_terms, each_takes f g h vs)
set_takes a f g h (value.rec vs) = omega arith

record_takes : (f : Values → Terms) (g : Values → ℕ) → ((vs : Values) → sizes (f vs) ≤ g vs) → (v : Value) → size (as_record f v) ≤ need_record g v
record_takes f g h (value.prim x) = omega arith
record_takes f g h (value.set vs) = omega arith
record_takes f g h (value.rec vs) = omega (arith, h vs)

attribute_takes : (required : Bool) (a : TermTy) (f : Value → Term) (g : Value → ℕ) → ((v : Value) → size (f v) ≤ g v) → (o : Option Value) → size (attribute required a f o) ≤ need_attribute required g o
attribute_takes required a f g h None = omega arith
attribute_takes true a f g h (Some v) = h v
attribute_takes false a f g h (Some v) = omega (arith, h v)

mutual
  need_suffices : (t : Ty) (v : Value) → size (symbolize t v) ≤ need t v
  need_suffices (flat x) v = flat_takes v
  need_suffices (set t) v = set_takes (term_type t) (λ u. symbolize t u) (λ u. need t u) (need_suffices t) v
  need_suffices (rec o ts) v = record_takes (λ vs. attributes ts vs) (λ vs. needs ts vs) (needs_suffice ts) v

  needs_suffice : (ts : Tys) (vs : Values) → sizes (attributes ts vs) ≤ needs ts vs
  needs_suffice none vs = omega arith
  needs_suffice (more name required of rest) vs =
      omega (arith, attribute_takes required (term_type of) (λ u. symbolize of u) (λ u. need of u) (need_suffices of) (field name vs), needs_suffice rest vs)

-- the need counts what stands in the term before merging, part by part
each_is : (f : Value → Term) (g : Value → ℕ) → ((v : Value) → g v ≡ size (f v)) → (vs : Values) → sum_of g vs ≡ sizes (each f vs)
each_is f g h value.none = refl
each_is f g h (value.more name of rest) = omega (arith, h of, each_is f g h rest)

flat_is : (v : Value) → 1 ≡ size (as_flat v)
flat_is (value.prim x) = refl
flat_is (value.set vs) = refl
flat_is (value.rec vs) = refl

set_is : (a : TermTy) (f : Value → Term) (g : Value → ℕ) → ((v : Value) → g v ≡ size (f v)) → (v : Value) → need_set g v ≡ size (with_repeats a f v)
set_is a f g h (value.prim x) = refl
set_is a f g h (value.set vs) = ap suc (each_is f g h vs)
set_is a f g h (value.rec vs) = refl

record_is : (f : Values → Terms) (g : Values → ℕ) → ((vs : Values) → g vs ≡ sizes (f vs)) → (v : Value) → need_record g v ≡ size (as_record f v)
record_is f g h (value.prim x) = refl
record_is f g h (value.set vs) = refl
record_is f g h (value.rec vs) = ap suc (h vs)

attribute_is : (required : Bool) (a : TermTy) (f : Value → Term) (g : Value → ℕ) → ((v : Value) → g v ≡ size (f v)) → (o : Option Value) → need_attribute required g o ≡ size (attribute required a f o)
attribute_is required a f g h None = refl
attribute_is true a f g h (Some v) = h v
attribute_is false a f g h (Some v) = ap suc (h v)

mutual
  need_is : (t : Ty) (v : Value) → need t v ≡ size (unmerged t v)
  need_is (flat x) v = flat_is v
  need_is (set t) v = set_is (term_type t) (λ u. unmerged t u) (λ u. need t u) (need_is t) v
  need_is (rec o ts) v = record_is (λ vs. unmerged_fields ts vs) (λ vs. needs ts vs) (needs_are ts) v

  needs_are : (ts : Tys) (vs : Values) → needs ts vs ≡ sizes (unmerged_fields ts vs)
  needs_are none vs = refl
  needs_are (more name required of rest) vs =
      omega (arith, attribute_is required (term_type of) (λ u. unmerged of u) (λ u. need of u) (need_is of) (field name vs), needs_are rest vs)

pub need_laws : NeedLaws
need_laws = record { is = need_is; suffices = need_suffices }
