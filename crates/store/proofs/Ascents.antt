-- Places in a list of entities whose uids ascend.
use Rattle.std.proofs.Common.{◌≡◌, ℕ, zero, suc, ◌+◌, ◌<◌, ◌≤◌, Bool, true, false, cond, List, [], ◌∷◌, length, Some, None, Option, sym, refl, ap, ◌∙◌, subst, ⊎_elim, arith}
use Rattle.std.proofs.lemmas.Bool.{cond-true, cond-false, cases_lt}
use Rattle.std.proofs.lemmas.Bool.Decides.{nat_tests}
use Rattle.std.specs.declared.cmp.Ordering.{Ordering}
use Rattle.std.specs.declared.cmp.Ordering.TheVariants.{Less, Equal, Greater}
use Rattle.model.specs.Slots.{Uid, uid_below}
use Rattle.model.specs.Entities.{Entity}
use Rattle.model.specs.Schemas.{same_uid}
use Rattle.model.specs.Stores.{UidsAscend, entity_at}
use Rattle.store.specs.Places.{place_from, place_of, compared}
use Rattle.laws.proofs.WholeRuns.{at_suc, there, beyond_last}

-- the order of uids
below_then : (u v w : Uid) → uid_below u v ≡ true → uid_below v w ≡ true → uid_below u w ≡ true
below_then u v w p q = grind (arith, nat_tests)

-- a uid that is below another, or above it, is not the same
below_not_same : (u v : Uid) → uid_below u v ≡ true → same_uid u v ≡ false
below_not_same u v p = grind (arith, nat_tests)

above_not_same : (u v : Uid) → uid_below v u ≡ true → same_uid u v ≡ false
above_not_same u v p = grind (arith, nat_tests)

-- one that is neither is
neither_same : (u v : Uid) → uid_below u v ≡ false → uid_below v u ≡ false → same_uid u v ≡ true
neither_same u v p q = grind (arith, nat_tests)

-- what is below a uid is below the same uid
same_below : (u v w : Uid) → uid_below u v ≡ true → same_uid v w ≡ true → uid_below u w ≡ true
same_below u v w p q = grind (arith, nat_tests)

-- where uids ascend, the first is below each later one
first_below : (e : Entity) (es : List Entity) (k : ℕ) (d : Entity) → UidsAscend (e ∷ es) → entity_at es k ≡ Some d → uid_below e.uid d.uid ≡ true
first_below e [] k d h p = cc
first_below e (c ∷ es) zero d h p = let q : c ≡ d = cc in subst (λ (x : Entity). uid_below e.uid x.uid ≡ true) q h.0
first_below e (c ∷ es) (suc k) d h p =
    below_then e.uid c.uid d.uid h.0 (first_below c es k d h.1 (sym (at_suc c es k) ∙ p))

-- so do the others
rest_ascends : (e : Entity) (es : List Entity) → UidsAscend (e ∷ es) → UidsAscend es
rest_ascends e [] h = tt
rest_ascends e (c ∷ es) h = h.1

-- and an earlier one below a later one
ascends_at : (es : List Entity) → UidsAscend es → (j k : ℕ) (d e : Entity) → j < k → entity_at es j ≡ Some d → entity_at es k ≡ Some e → uid_below d.uid e.uid ≡ true
ascends_at [] h j k d e l p q = cc
ascends_at (c ∷ es) h j zero d e l p q = absurd (omega arith)
ascends_at (c ∷ es) h zero (suc k) d e l p q =
    let r : c ≡ d = cc in subst (λ (x : Entity). uid_below x.uid e.uid ≡ true) r (first_below c es k e h (sym (at_suc c es k) ∙ q))
ascends_at (c ∷ es) h (suc j) (suc k) d e l p q =
    ascends_at es (rest_ascends c es h) j k d e (omega arith) (sym (at_suc c es j) ∙ p) (sym (at_suc c es k) ∙ q)

-- what is said of the entity at each place in a range
abbrev OfEach : List Entity → (ℕ → Type 0) → (Uid → Bool) → Type 0
OfEach es range test = (k : ℕ) (e : Entity) → range k → entity_at es k ≡ Some e → test e.uid ≡ true

-- a uid that no entity has is at no place
nowhere : (es : List Entity) (u : Uid) (i : ℕ) → ((k : ℕ) (e : Entity) → entity_at es k ≡ Some e → same_uid e.uid u ≡ false) → place_from i es u ≡ None
nowhere [] u i h = refl
nowhere (e ∷ es) u i h =
    cond-false (same_uid e.uid u) (Some i) (place_from (i + 1) es u) (h 0 e refl) ∙ nowhere es u (i + 1) (λ k d p. h (suc k) d (at_suc e es k ∙ p))

-- a uid is at the first place that has it
somewhere : (es : List Entity) (u : Uid) (i k : ℕ) (e : Entity) → entity_at es k ≡ Some e → same_uid e.uid u ≡ true → ((j : ℕ) (d : Entity) → j < k → entity_at es j ≡ Some d → same_uid d.uid u ≡ false) → place_from i es u ≡ Some (i + k)
somewhere [] u i k e p s h = cc
somewhere (c ∷ es) u i zero e p s h =
    let r : c ≡ e = cc in
    let n : i ≡ i + 0 = omega arith in
    cond-true (same_uid c.uid u) (Some i) (place_from (i + 1) es u) (ap (λ (x : Entity). same_uid x.uid u) r ∙ s) ∙ ap Some n
somewhere (c ∷ es) u i (suc k) e p s h =
    let n : i + 1 + k ≡ i + suc k = omega arith in
    cond-false (same_uid c.uid u) (Some i) (place_from (i + 1) es u) (h 0 c (omega arith) refl)
    ∙ somewhere es u (i + 1) k e (sym (at_suc c es k) ∙ p) s (λ j d l q. h (suc j) d (omega arith) (at_suc c es j ∙ q))
    ∙ ap Some n

-- where the entity at a place is below u, so is each up to it
below_up_to : (es : List Entity) (u : Uid) (m : ℕ) (e : Entity) → UidsAscend es → entity_at es m ≡ Some e → uid_below e.uid u ≡ true → OfEach es (λ k. k < m + 1) (λ v. uid_below v u)
below_up_to es u m e h p b k d l q =
    ⊎_elim
    (λ (lt : k < m). below_then d.uid e.uid u (ascends_at es h k m d e lt q p) b)
    (λ (ge : m ≤ k).
    let n : k ≡ m = omega arith in
    let r : d ≡ e = cc in
    subst (λ (x : Entity). uid_below x.uid u ≡ true) (sym r) b)
    (cases_lt k m)

-- where it is above, so is each from it on
above_from : (es : List Entity) (u : Uid) (m : ℕ) (e : Entity) → UidsAscend es → entity_at es m ≡ Some e → uid_below u e.uid ≡ true → OfEach es (λ k. m ≤ k) (λ v. uid_below u v)
above_from es u m e h p b k d l q =
    ⊎_elim
    (λ (lt : m < k). below_then u e.uid d.uid b (ascends_at es h m k e d lt p q))
    (λ (ge : k ≤ m).
    let n : k ≡ m = omega arith in
    let r : d ≡ e = cc in
    subst (λ (x : Entity). uid_below u x.uid ≡ true) (sym r) b)
    (cases_lt m k)

-- what comparing the uid at a place tells
module _ (es : List Entity) (m : ℕ) (u : Uid) where
  -- it was compared as an entity there
  abbrev At : Ordering → Type 0
  At o = (e : Entity) × (entity_at es m ≡ Some e) × (cond (uid_below e.uid u) Less (cond (uid_below u e.uid) Greater Equal) ≡ o)

  -- as whatever is there is compared
  at : (o : Ordering) (r : Option Entity) → entity_at es m ≡ r → compared r u ≡ Some o → At o
  at o None p h = cc
  at o (Some e) p h = (e, p, cc)

-- which of the two tests passed
less : (a b : Bool) → cond a Less (cond b Greater Equal) ≡ Less → a ≡ true
less true b h = refl
less false true h = cc
less false false h = cc

greater : (a b : Bool) → cond a Less (cond b Greater Equal) ≡ Greater → b ≡ true
greater true b h = cc
greater false true h = refl
greater false false h = cc

equal : (a b : Bool) → cond a Less (cond b Greater Equal) ≡ Equal → (a ≡ false) × (b ≡ false)
equal true b h = cc
equal false true h = cc
equal false false h = (refl, refl)

-- the state of a search between two places
pub record Between (es : List Entity) (u : Uid) (low high : ℕ) : Type 0 where
  pub ascending : UidsAscend es
  pub ordered : low ≤ high
  pub within : high ≤ length es
  pub below : OfEach es (λ k. k < low) (λ v. uid_below v u)
  pub above : OfEach es (λ k. high ≤ k) (λ v. uid_below u v)

module _ (es : List Entity) (u : Uid) where
  -- at the start nothing is excluded
  pub at_start : (n : ℕ) → n ≡ length es → UidsAscend es → Between es u 0 n
  at_start n e h = record {
    ascending = h;
    ordered = omega arith;
    within = omega arith;
    below = λ k d l p. absurd (omega arith);
    above = λ k d l p. let q = beyond_last es k (omega arith) in cc;
  }

  module _ (low high : ℕ) (i : Between es u low high) where
    -- where nothing is left between them, the uid is nowhere
    pub misses : high ≤ low → None ≡ place_of es u
    misses l =
        sym (nowhere es u 0 (λ k e p. ⊎_elim
        (λ (a : k < low). below_not_same e.uid u (i.below k e a p))
        (λ (a : low ≤ k). above_not_same e.uid u (i.above k e (omega arith) p))
        (cases_lt k low)))

    -- else the uid at a place m below `high` tells where to look on
    module _ (m : ℕ) where
      -- behind it, where it is below u
      pub goes_up : m < high → compared (entity_at es m) u ≡ Some Less → Between es u (m + 1) high
      goes_up l t =
          let p = at es m u Less (entity_at es m) refl t in
          record { ascending = i.ascending; ordered = omega arith; within = i.within; below = below_up_to es u m p.0 i.ascending p.1 (less _ _ p.2); above = i.above }

      -- in front of it, where it is above
      pub goes_down : low ≤ m → m < high → compared (entity_at es m) u ≡ Some Greater → Between es u low m
      goes_down l r t =
          let p = at es m u Greater (entity_at es m) refl t in
          let n = i.within in
          record { ascending = i.ascending; ordered = l; within = omega arith; below = i.below; above = above_from es u m p.0 i.ascending p.1 (greater _ _ p.2) }

      -- nowhere else, where it is u
      pub hits : compared (entity_at es m) u ≡ Some Equal → Some m ≡ place_of es u
      hits t =
          let p = at es m u Equal (entity_at es m) refl t in
          let q = equal _ _ p.2 in
          let s : same_uid p.0.uid u ≡ true = neither_same p.0.uid u q.0 q.1 in
          let n : 0 + m ≡ m = omega arith in
          sym (somewhere es u 0 m p.0 p.1 s (λ j d l q. below_not_same d.uid u (same_below d.uid p.0.uid u (ascends_at es i.ascending j m d p.0 l q p.1) s)) ∙ ap Some n)

      -- there is a uid there
      pub always_compared : m < high → compared (entity_at es m) u ≡ None → ⊥
      always_compared l t =
          let n = i.within in
          let p = there es m (omega arith) in
          let q : compared (Some p.0) u ≡ None = ap (λ o. compared o u) (sym p.1) ∙ t in
          cc
