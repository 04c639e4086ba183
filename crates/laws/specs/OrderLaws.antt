-- The orders of keys, of terms and of term types are total, and a set holds its elements in that order.
use Rattle.std.specs.Prelude.{◌≡◌, ◌⊎◌}
use Rattle.std.specs.declared.cmp.Ordering.TheVariants.{Less}
use Rattle.std.specs.Ordering.{is_lt}
use Rattle.model.specs.Orders.{Total, by_number}
use Rattle.model.specs.Slots.{Uid, uid_below}
use Rattle.model.specs.Environments.{by_uid, by_function_key, by_tag_key}
use Rattle.model.specs.Terms.{Term, Terms, no_terms, term, order, inserted, term_below, type_below}

-- one of the terms is t
abbrev pub Among : Term → Terms → Type 0
Among t no_terms = ⊥
Among t (term m u us) = (t ≡ u) ⊎ Among t us

-- each term is below the next
abbrev pub Above : Term → Terms → Type 0
Above u no_terms = Unit {0}
Above u (term m v vs) = order u v ≡ Less

abbrev pub Ascends : Terms → Type 0
Ascends no_terms = Unit {0}
Ascends (term m u us) = Above u us × Ascends us

pub record OrderLaws : Type 0 where
  -- the four kinds of keys
  pub names : Total (λ m n. is_lt (by_number m n))
  pub uids : Total (λ u v. is_lt (by_uid u v))
  pub function_keys : Total (λ k l. is_lt (by_function_key k l))
  pub tag_keys : Total (λ k l. is_lt (by_tag_key k l))
  pub uid_order : (u v : Uid) → uid_below u v ≡ is_lt (by_uid u v)
  pub types : Total type_below
  pub terms : Total term_below
  -- the elements of a set ascend, and are those that were put in
  pub ascends : (ts : Terms) → Ascends (inserted ts no_terms)
  pub holds : (t : Term) (ts : Terms) → Among t ts → Among t (inserted ts no_terms)
  pub only : (t : Term) (ts : Terms) → Among t (inserted ts no_terms) → Among t ts
