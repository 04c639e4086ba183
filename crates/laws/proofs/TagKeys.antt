-- The set of an entity's tag keys has a key exactly if the entity has that tag.
use Rattle.std.proofs.Common.{◌≡◌, ℕ, Bool, true, false, cond, eqb, is_some, Some, Ordering, Less, Equal, Greater, refl, ap, ◌∙◌}
use Rattle.model.specs.Values as value
use Rattle.model.specs.Values.{Values}
use Rattle.model.specs.Terms.{Term, Terms, no_terms, term, order, insert_by, insert, inserted}
use Rattle.model.specs.Symbolize.{field}
use Rattle.model.specs.Environments.{key_terms}
use Rattle.model.specs.Walks.{is_text, has_text}
use Rattle.laws.proofs.TermOrder.{terms_lawful}

-- the laws of tests in turn
either_turned : (a b c : Bool) → cond a true (cond b true c) ≡ cond b true (cond a true c)
either_turned true true c = refl
either_turned true false c = refl
either_turned false b c = refl

either_twice : (a c : Bool) → cond a true c ≡ cond a true (cond a true c)
either_twice true c = refl
either_twice false c = refl

either_joined : (a b c : Bool) → cond b true (cond a true c) ≡ cond (cond a true b) true c
either_joined true true c = refl
either_joined true false c = refl
either_joined false b c = refl

-- an inserted term is there, with the others
insert_text : (n : ℕ) (t : Term) (us : Terms) → has_text n (insert t us) ≡ cond (is_text n t) true (has_text n us)
insert_text n t no_terms = refl
insert_text n t (term m u us) = go (order u t) refl (insert_text n t us)
  where
    go : (o : Ordering) → order u t ≡ o → has_text n (insert t us) ≡ cond (is_text n t) true (has_text n us) →
        has_text n (insert_by o (term m u (insert t us)) (term 0 t (term m u us)) (term m u us)) ≡ cond (is_text n t) true (cond (is_text n u) true (has_text n us))
    go Less e ih = ap (cond (is_text n u) true) ih ∙ either_turned (is_text n u) (is_text n t) (has_text n us)
    go Equal e ih = either_twice (is_text n u) (has_text n us) ∙ ap (λ x. cond (is_text n x) true (cond (is_text n u) true (has_text n us))) (terms_lawful.same u t e)
    go Greater e ih = refl

inserted_text : (n : ℕ) (ts us : Terms) → has_text n (inserted ts us) ≡ cond (has_text n ts) true (has_text n us)
inserted_text n no_terms us = refl
inserted_text n (term m t ts) us =
    inserted_text n ts (insert t us)
    ∙ (ap (cond (has_text n ts) true) (insert_text n t us) ∙ either_joined (is_text n t) (has_text n ts) (has_text n us))

-- the keys before they are put in order
keys_text : (n : ℕ) (vs : Values) → has_text n (key_terms vs) ≡ is_some (field n vs)
keys_text n value.none = refl
keys_text n (value.more name of rest) = go (eqb name n) (keys_text n rest)
  where
    go : (c : Bool) → has_text n (key_terms rest) ≡ is_some (field n rest) → cond c true (has_text n (key_terms rest)) ≡ is_some (cond c (Some of) (field n rest))
    go true ih = refl
    go false ih = ih

either_false : (a : Bool) → cond a true false ≡ a
either_false true = refl
either_false false = refl

pub key_held : (n : ℕ) (vs : Values) → has_text n (inserted (key_terms vs) no_terms) ≡ is_some (field n vs)
key_held n vs = inserted_text n (key_terms vs) no_terms ∙ (either_false (has_text n (key_terms vs)) ∙ keys_text n vs)
