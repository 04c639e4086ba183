-- The derived order of faults is the order of their numbers.
use Rattle.std.proofs.Common.{◌≡◌, refl, ℕ, ℤ, pos, Bool, cond, nat_lt, [], ◌∷◌, Some, Option, sym, ap, ◌∙◌, arith}
use Rattle.std.proofs.lemmas.Bool.Decides.{nat_tests}
use Rattle.std.specs.declared.cmp.Ordering.{Ordering}
use Rattle.std.specs.Cmp.Derive.{number}
use Rattle.std.specs.Ordering.{partial_lt, is_some_and, is_lt, partial_ordering_then, nat_cmp, int_cmp, ord_min}
use Rattle.model.specs.declared.fault.Fault.{Fault}
use Rattle.model.specs.declared.fault.Refusal.{Refusal}
use Rattle.model.specs.declared.fault.Refusal.TheVariants.{Malformed, Limit, IllFormedSchema, IllFormedTypeEnv, UnsupportedFeature, UnableToSymbolizeValue, NonConforming, Full, NotStored, IllTypedWalk}
use Rattle.model.specs.declared.fault.Layer.{Layer}
use Rattle.model.specs.declared.fault.Layer.TheVariants.{Image, Schema, Request, Entity, Walk}
use Rattle.model.specs.Faults.{refusal_number, layer_number, lexical, precedes, stands}
use Rattle.model.specs.contracts.fault.Refusal as refusal
use Rattle.model.specs.contracts.fault.Layer as layer
use Rattle.model.specs.contracts.fault.FaultPartialOrd.TheImpl as faults
use Rattle.model.specs.contracts.fault.FaultOrd.TheImpl as total
use Rattle.model.specs.contracts.fault.FaultOrd.TheImpl.Laws.{matches_partial_cmp-law}
use Rattle.model.specs.contracts.fault.RefusalPartialOrd.TheImpl as refusals
use Rattle.model.specs.contracts.fault.LayerPartialOrd.TheImpl as layers

integers : (m n : ℕ) → int_cmp (pos m) (pos n) ≡ nat_cmp m n
integers m n = grind (arith, nat_tests)

-- a derived order of an enum goes by its discriminants
by_discriminant : {K : Type 0} {of : K → ℤ} (compare : K → K → Option Ordering) → ((x y : K) → compare x y ≡ Some (int_cmp (of x) (of y)))
    → (n : K → ℕ) → ((x : K) → of x ≡ pos (n x)) → (x y : K) → compare x y ≡ Some (nat_cmp (n x) (n y))
by_discriminant compare is n same x y =
    let e = is x y in (rw (same x, same y) at e) ∙ ap Some (integers (n x) (n y))

by_refusal : (r s : Refusal) → refusals.ghosts.partial_cmp r s ≡ Some (nat_cmp (refusal_number r) (refusal_number s))
by_refusal = by_discriminant {of = number refusal.the_type (pos 1 ∷ pos 2 ∷ pos 3 ∷ pos 4 ∷ pos 6 ∷ pos 9 ∷ pos 10 ∷ pos 11 ∷ pos 12 ∷ pos 13 ∷ [])} refusals.ghosts.partial_cmp (λ x y. refl) refusal_number (elim [
  | Malformed ↦ refl
  | Limit ↦ refl
  | IllFormedSchema ↦ refl
  | IllFormedTypeEnv ↦ refl
  | UnsupportedFeature ↦ refl
  | UnableToSymbolizeValue ↦ refl
  | NonConforming ↦ refl
  | Full ↦ refl
  | NotStored ↦ refl
  | IllTypedWalk ↦ refl
])

by_layer : (l m : Layer) → layers.ghosts.partial_cmp l m ≡ Some (nat_cmp (layer_number l) (layer_number m))
by_layer = by_discriminant {of = number layer.the_type (pos 1 ∷ pos 2 ∷ pos 3 ∷ pos 4 ∷ pos 5 ∷ [])} layers.ghosts.partial_cmp (λ x y. refl) layer_number (elim [
  | Image ↦ refl
  | Schema ↦ refl
  | Request ↦ refl
  | Entity ↦ refl
  | Walk ↦ refl
])

-- one level of the order
level : (m n : ℕ) (rest : Option Ordering) (b : Bool) → is_some_and is_lt rest ≡ b
    → is_some_and is_lt (partial_ordering_then (Some (nat_cmp m n)) rest) ≡ lexical m n b
level m n rest b e = grind (arith, nat_tests)

last : (m n : ℕ) → is_some_and is_lt (Some (nat_cmp m n)) ≡ nat_lt m n
last m n = grind (arith, nat_tests)

pub derived : (f g : Fault) → partial_lt faults.ghosts.partial_cmp f g ≡ precedes f g
derived f g =
    let place : Option Ordering = Some (nat_cmp f.place g.place) in
    let entity : Option Ordering = partial_ordering_then (Some (nat_cmp f.entity g.entity)) place in
    let layer : Option Ordering = partial_ordering_then (Some (nat_cmp (layer_number f.layer) (layer_number g.layer))) entity in
    rw (by_refusal f.refusal g.refusal, by_layer f.layer g.layer) (
    level (refusal_number f.refusal) (refusal_number g.refusal) layer _ (
    level (layer_number f.layer) (layer_number g.layer) entity _ (
    level f.entity g.entity place _ (last f.place g.place))))

-- the least by the derived order is the one that stands
pub lesser : (f g : Fault) → ord_min total.ghosts.cmp f g ≡ stands f g
lesser f g = ap (λ b. cond b g f) (ap (is_some_and is_lt) (sym (matches_partial_cmp-law g f)) ∙ derived g f)
