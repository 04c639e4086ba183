-- The order of faults is total.
use Rattle.std.proofs.Common.{◌≡◌, ℕ, ◌<◌, Bool, true, cond, eqb, ltb, ◌⊎◌, sym, refl, ap, ◌∙◌, inl, inr, ⊎_elim, arith}
use Rattle.std.proofs.lemmas.Bool.{cases_order, lt-ltb, ltb-true, eq-eqb, ne_eqb, cond-true, cond-false}
use Rattle.std.proofs.lemmas.Bool.Decides.{nat_tests}
use Rattle.model.specs.declared.fault.Refusal.{Refusal}
use Rattle.model.specs.declared.fault.Refusal.TheVariants.{Malformed, Limit, IllFormedSchema, IllFormedTypeEnv, UnsupportedFeature, UnableToSymbolizeValue, NonConforming, Full, NotStored, IllTypedWalk}
use Rattle.model.specs.declared.fault.Layer.{Layer}
use Rattle.model.specs.declared.fault.Layer.TheVariants.{Image, Schema, Request, Entity, Walk}
use Rattle.model.specs.declared.fault.Fault.{Fault}
use Rattle.model.specs.Faults.{refusal_number, layer_number, lexical, precedes}
use Rattle.model.specs.Orders.{Total}

-- one level of the order: what holds of the rest holds with the number in front of it
level_both : (m n : ℕ) (x y : Bool) → (x ≡ true → y ≡ true → ⊥) → lexical m n x ≡ true → lexical n m y ≡ true → ⊥
level_both m n x y h p q = grind (arith, nat_tests)

level_transitive : (m n o : ℕ) (x y z : Bool) → (x ≡ true → y ≡ true → z ≡ true) → lexical m n x ≡ true → lexical n o y ≡ true → lexical m o z ≡ true
level_transitive m n o x y z h p q = grind (arith, nat_tests)

level_one : (m n : ℕ) (x y : Bool) (P : Type 0) → ((x ≡ true) ⊎ (P ⊎ (y ≡ true))) → (lexical m n x ≡ true) ⊎ (((m ≡ n) × P) ⊎ (lexical n m y ≡ true))
level_one m n x y P h =
    ⊎_elim
    (λ (e : m ≡ n). ⊎_elim
    (λ (a : x ≡ true). inl (cond-true (eqb m n) x (ltb m n) (eq-eqb m n e) ∙ a))
    (λ (r : P ⊎ (y ≡ true)). ⊎_elim
    (λ (p : P). inr (inl (e, p)))
    (λ (b : y ≡ true). inr (inr (cond-true (eqb n m) y (ltb n m) (eq-eqb n m (sym e)) ∙ b)))
    r)
    h)
    (λ (c : (m < n) ⊎ (n < m)). ⊎_elim
    (λ (l : m < n). inl (cond-false (eqb m n) x (ltb m n) (ne_eqb m n (λ e. omega arith)) ∙ lt-ltb m n l))
    (λ (l : n < m). inr (inr (cond-false (eqb n m) y (ltb n m) (ne_eqb n m (λ e. omega arith)) ∙ lt-ltb n m l)))
    c)
    (cases_order m n)

refusal_of : ℕ → Refusal
refusal_of n =
    cond (eqb n 1) Malformed (cond (eqb n 2) Limit (cond (eqb n 3) IllFormedSchema (cond (eqb n 4) IllFormedTypeEnv (
    cond (eqb n 6) UnsupportedFeature (cond (eqb n 9) UnableToSymbolizeValue (cond (eqb n 10) NonConforming (
    cond (eqb n 11) Full (cond (eqb n 12) NotStored IllTypedWalk))))))))

refusal_back : (r : Refusal) → refusal_of (refusal_number r) ≡ r
unfolding refusal_of
refusal_back Malformed = refl
refusal_back Limit = refl
refusal_back IllFormedSchema = refl
refusal_back IllFormedTypeEnv = refl
refusal_back UnsupportedFeature = refl
refusal_back UnableToSymbolizeValue = refl
refusal_back NonConforming = refl
refusal_back Full = refl
refusal_back NotStored = refl
refusal_back IllTypedWalk = refl

layer_of : ℕ → Layer
layer_of n = cond (eqb n 1) Image (cond (eqb n 2) Schema (cond (eqb n 3) Request (cond (eqb n 4) Entity Walk)))

layer_back : (l : Layer) → layer_of (layer_number l) ≡ l
unfolding layer_of
layer_back Image = refl
layer_back Schema = refl
layer_back Request = refl
layer_back Entity = refl
layer_back Walk = refl

abbrev fault : Refusal → Layer → ℕ → ℕ → Fault
fault r l e p = record { refusal = r; layer = l; entity = e; place = p }

-- a fault is known by its four numbers
same_numbers : (f g : Fault) → refusal_number f.refusal ≡ refusal_number g.refusal → layer_number f.layer ≡ layer_number g.layer → f.entity ≡ g.entity → f.place ≡ g.place → f ≡ g
same_numbers f g p q e s =
    let r : f.refusal ≡ g.refusal = sym (refusal_back f.refusal) ∙ (ap refusal_of p ∙ refusal_back g.refusal) in
    let l : f.layer ≡ g.layer = sym (layer_back f.layer) ∙ (ap layer_of q ∙ layer_back g.layer) in
    let m : fault f.refusal f.layer f.entity f.place ≡ fault g.refusal g.layer g.entity g.place = cc in
    m

one_of : (f g : Fault) → (precedes f g ≡ true) ⊎ ((f ≡ g) ⊎ (precedes g f ≡ true))
one_of f g =
    let P : Type 0 = (refusal_number f.refusal ≡ refusal_number g.refusal) × ((layer_number f.layer ≡ layer_number g.layer) × ((f.entity ≡ g.entity) × (f.place ≡ g.place))) in
    let place : (ltb f.place g.place ≡ true) ⊎ ((f.place ≡ g.place) ⊎ (ltb g.place f.place ≡ true)) =
    ⊎_elim (λ (e : f.place ≡ g.place). inr (inl e))
    (λ (c : (f.place < g.place) ⊎ (g.place < f.place)). ⊎_elim (λ (l : f.place < g.place). inl (lt-ltb _ _ l)) (λ (l : g.place < f.place). inr (inr (lt-ltb _ _ l))) c)
    (cases_order f.place g.place) in
    let entity = level_one f.entity g.entity _ _ _ place in
    let layer = level_one (layer_number f.layer) (layer_number g.layer) _ _ _ entity in
    ⊎_elim
    (λ (a : precedes f g ≡ true). inl a)
    (λ (r : P ⊎ (precedes g f ≡ true)). ⊎_elim
    (λ (p : P). inr (inl (same_numbers f g p.0 p.1.0 p.1.1.0 p.1.1.1)))
    (λ (b : precedes g f ≡ true). inr (inr b))
    r)
    (level_one (refusal_number f.refusal) (refusal_number g.refusal) _ _ _ layer)

not_both : (f g : Fault) → precedes f g ≡ true → precedes g f ≡ true → ⊥
not_both f g =
    level_both (refusal_number f.refusal) (refusal_number g.refusal) _ _
    (level_both (layer_number f.layer) (layer_number g.layer) _ _
    (level_both f.entity g.entity _ _ (λ p q. omega (arith, ltb-true f.place g.place p, ltb-true g.place f.place q))))

transitive : (f g h : Fault) → precedes f g ≡ true → precedes g h ≡ true → precedes f h ≡ true
transitive f g h =
    level_transitive (refusal_number f.refusal) (refusal_number g.refusal) (refusal_number h.refusal) _ _ _
    (level_transitive (layer_number f.layer) (layer_number g.layer) (layer_number h.layer) _ _ _
    (level_transitive f.entity g.entity h.entity _ _ _
    (λ p q. lt-ltb f.place h.place (omega (arith, ltb-true f.place g.place p, ltb-true g.place h.place q)))))

pub total_order : Total precedes
total_order = record { one_of = one_of; not_both = not_both; not_itself = λ f p. not_both f f p p; transitive = transitive }
