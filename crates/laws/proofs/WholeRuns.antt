-- What holds of nodes with a list of first nodes of which no fault is found: they mean a lawful list of entities.
-- Nothing here depends on how a fault is told, so it holds of a table of nodes and of an image of bytes alike.
use Rattle.std.proofs.Common.{◌≡◌, ℕ, zero, suc, ◌+◌, ◌-◌, ◌<◌, ◌≤◌, Bool, true, false, cond, not, ◌&&◌, ◌||◌, eqb, ltb, List, [], ◌∷◌, ◌++◌, length, Some, None, Ok, Err, Option, Result, sym, refl, ap, ◌∙◌, subst, ⊎_elim, arith}
use Rattle.std.proofs.lemmas.Bool.{cases_lt, ltb-true, ltb-false, lt-ltb, le-ltb, eqb-true, eq-eqb, ne_eqb, or_cases, or_right, and_parts, and_cases, and_from, and_left, and_right, not-false, not_from_true, cond-true, cond-false, eqb-false}
use Rattle.model.specs.declared.node.Node.{Node}
use Rattle.model.specs.declared.fault.Fault.{Fault}
use Rattle.model.specs.declared.fault.Refusal.{Refusal}
use Rattle.model.specs.declared.fault.Refusal.TheVariants.{Malformed, Limit}
use Rattle.model.specs.Faults.{least_with, least, stands, of_entity}
use Rattle.model.specs.Slots.{Uid, uid_below}
use Rattle.model.specs.Reading.{Refused}
use Rattle.model.specs.Entities.{Entity, FormedEntity, entity_run, read_entity, head_uid}
use Rattle.model.specs.Stores.{Lawful, AllFormed, UidsAscend, entity_at, first_at, collected, first_index, entry_sound, run_at, run_fault, uid_fault, faults_at, run_faults, entity_if_read, entities_of, at_node, fault_if, table_faults, unless_entry, broken_entry, table_fault, no_such_place, uid_told, uid_answer, loaded, load_told, load_answer}
use Rattle.laws.proofs.EntityRuns.{entities_read}

-- What stands at the places of a list of entities

-- the entity at a place behind the first
pub at_suc : (e : Entity) (es : List Entity) (k : ℕ) → entity_at (e ∷ es) (suc k) ≡ entity_at es k
at_suc e es k =
    let n : suc k - 1 ≡ k = omega arith in
    cond-false (eqb (suc k) 0) (Some e) (entity_at es (suc k - 1)) (ne_eqb (suc k) 0 (λ h. omega arith)) ∙ ap (entity_at es) n

-- there is an entity at each place below the length
pub there : (es : List Entity) (k : ℕ) → k < length es → (e : Entity) × (entity_at es k ≡ Some e)
there [] k h = absurd (omega arith)
there (e ∷ es) zero h = (e, refl)
there (e ∷ es) (suc k) h = let p = there es k (omega arith) in (p.0, at_suc e es k ∙ p.1)

-- and none beyond the last
pub beyond_last : (es : List Entity) (k : ℕ) → length es ≤ k → entity_at es k ≡ None
beyond_last [] k l = refl
beyond_last (e ∷ es) zero l = absurd (omega arith)
beyond_last (e ∷ es) (suc k) l = at_suc e es k ∙ beyond_last es k (omega arith)

-- Searches and entries

-- where a search finds nothing, no number passes the test
pub none_passes : (p : ℕ → Bool) (n i : ℕ) → first_index p n i ≡ None → (k : ℕ) → i ≤ k → k < i + n → p k ≡ false
none_passes p zero i h k l m = absurd (omega arith)
none_passes p (suc n) i h k l m = here (p i) refl h (λ g q. none_passes p n (i + 1) g k q (omega arith)) where
  here : (b : Bool) → p i ≡ b → cond b (Some i) (first_index p n (i + 1)) ≡ None → (first_index p n (i + 1) ≡ None → i + 1 ≤ k → p k ≡ false) → p k ≡ false
  here true e g later = let z : ◌≡◌ {A = ℕ} 0 1 = cc in absurd (omega arith)
  here false e g later =
      ⊎_elim
      (λ (q : i < k). later g (omega arith))
      (λ (q : k ≤ i). let d : i ≡ k = omega arith in subst (λ x. p x ≡ false) d e)
      (cases_lt i k)

-- where no number passes the test, a search finds nothing
pub none_found : (p : ℕ → Bool) (n i : ℕ) → ((k : ℕ) → i ≤ k → k < i + n → p k ≡ false) → first_index p n i ≡ None
none_found p zero i h = refl
none_found p (suc n) i h =
    cond-false (p i) (Some i) (first_index p n (i + 1)) (h i (omega arith) (omega arith))
    ∙ none_found p n (i + 1) (λ k l m. h k (omega arith) (omega arith))

-- the entries begin with 0, rise, and lie below the number v of nodes
pub record Sound (v : ℕ) (fs : List ℕ) : Type 0 where
  pub starts : 0 < length fs → first_at fs 0 ≡ 0
  pub below : (k : ℕ) → k < length fs → first_at fs k < v
  pub rises : (k : ℕ) → k + 1 < length fs → first_at fs k < first_at fs (k + 1)

-- so they do where no entry is broken
pub sound : (v : ℕ) (fs : List ℕ) → broken_entry v fs ≡ None → Sound v fs
sound v fs h =
    let at : (k : ℕ) → k < length fs → entry_sound v fs k ≡ true = λ k l. not-false (entry_sound v fs k) (none_passes (λ j. not (entry_sound v fs j)) (length fs) 0 h k (omega arith) (omega arith)) in
    record {
      starts = λ l. eqb-true _ _ (and_parts (eqb (first_at fs 0) 0) _ (at 0 l)).0;
      below = λ k l. ltb-true _ _ (and_parts _ _ (at k l)).1;
      rises = λ k l.
          let z : eqb (k + 1) 0 ≡ false = ne_eqb (k + 1) 0 (λ e. omega arith) in
          let p : ltb (first_at fs (k + 1 - 1)) (first_at fs (k + 1)) ≡ true = sym (cond-false _ _ _ z) ∙ (and_parts _ _ (at (k + 1) l)).0 in
          let e : k + 1 - 1 ≡ k = omega arith in
          ltb-true _ _ (rw e at p);
    }

-- an entry that lies so is sound
entry_stands : (v : ℕ) (fs : List ℕ) → Sound v fs → (k : ℕ) → k < length fs → entry_sound v fs k ≡ true
entry_stands v fs s zero l = and_from _ _ (eq-eqb _ _ (s.starts l)) (lt-ltb _ _ (s.below 0 l))
entry_stands v fs s (suc k) l =
    let e : suc k - 1 ≡ k = omega arith in
    let d : k + 1 ≡ suc k = omega arith in
    let r : first_at fs k < first_at fs (suc k) = subst (λ x. first_at fs k < first_at fs x) d (s.rises k (omega arith)) in
    and_from _ _
    (cond-false (eqb (suc k) 0) _ _ (ne_eqb (suc k) 0 (λ h. omega arith)) ∙ lt-ltb _ _ (subst (λ x. first_at fs x < first_at fs (suc k)) (sym e) r))
    (lt-ltb _ _ (s.below (suc k) l))

-- where the entries lie so, none is broken
pub sound_entries : (v : ℕ) (fs : List ℕ) → Sound v fs → broken_entry v fs ≡ None
sound_entries v fs s =
    none_found (λ j. not (entry_sound v fs j)) (length fs) 0 (λ k l m. not_from_true _ (entry_stands v fs s k (omega arith)))

-- Lists of faults

-- a least fault that was kept is not lost
kept_stays : (fs : List Fault) (f : Fault) → (g : Fault) × (least_with (Some f) fs ≡ Some g)
kept_stays [] f = (f, refl)
kept_stays (g ∷ fs) f = kept_stays fs (stands f g)

-- where the least of some faults is none, there is none
pub no_least : (fs : List Fault) → least fs ≡ None → fs ≡ []
no_least [] h = refl
no_least (f ∷ fs) h =
    let p = kept_stays fs f in
    let q = p.1 in
    let z : ◌≡◌ {A = ℕ} 0 1 = cc in absurd (omega arith)

-- two lists that are empty together are both empty
pub none_of_two : {X : Type 0} (xs ys : List X) → xs ++ ys ≡ [] → (xs ≡ []) × (ys ≡ [])
none_of_two [] ys h = (refl, h)
none_of_two (x ∷ xs) ys h = let z : ◌≡◌ {A = ℕ} 0 1 = cc in absurd (omega arith)

-- and two empty lists are empty together
pub both_none : {X : Type 0} (xs ys : List X) → xs ≡ [] → ys ≡ [] → xs ++ ys ≡ []
both_none xs ys p q = λ i. p i ++ q i

-- where a test finds no fault, it fails
pub not_if : (b : Bool) (f : Fault) → fault_if b f ≡ [] → b ≡ false
not_if true f h = let z : ◌≡◌ {A = ℕ} 0 1 = cc in absurd (omega arith)
not_if false f h = refl

-- and none where it fails
pub no_fault_if : (b : Bool) (f : Fault) → b ≡ false → fault_if b f ≡ []
no_fault_if b f h = ap (λ c. fault_if c f) h

-- what is collected is empty only if every part is
pub none_collected : {X : Type 0} (f : ℕ → List X) (n i : ℕ) → collected f n i ≡ [] → (k : ℕ) → i ≤ k → k < i + n → f k ≡ []
none_collected f zero i h k l m = absurd (omega arith)
none_collected f (suc n) i h k l m =
    let p = none_of_two (f i) (collected f n (i + 1)) h in
    ⊎_elim
    (λ (q : i < k). none_collected f n (i + 1) p.1 k (omega arith) (omega arith))
    (λ (q : k ≤ i). let d : i ≡ k = omega arith in subst (λ x. f x ≡ []) d p.0)
    (cases_lt i k)

-- and if every part is
pub collected_none : {X : Type 0} (f : ℕ → List X) (n i : ℕ) → ((k : ℕ) → i ≤ k → k < i + n → f k ≡ []) → collected f n i ≡ []
collected_none f zero i h = refl
collected_none f (suc n) i h =
    both_none (f i) (collected f n (i + 1)) (h i (omega arith) (omega arith)) (collected_none f n (i + 1) (λ k l m. h k (omega arith) (omega arith)))

-- a run without a fault is read
no_run_fault : (at : ℕ → ℕ → Refusal → Fault) (k : ℕ) (r : Result Entity Refused) → run_fault at k r ≡ [] → (e : Entity) × (r ≡ Ok e)
no_run_fault at k (Ok e) h = (e, refl)
no_run_fault at k (Err x) h = let z : ◌≡◌ {A = ℕ} 0 1 = cc in absurd (omega arith)

-- a uid without a fault passes its test
no_uid_fault : (b : Bool) (f : Fault) → cond b [] (f ∷ []) ≡ [] → b ≡ true
no_uid_fault true f h = refl
no_uid_fault false f h = let z : ◌≡◌ {A = ℕ} 0 1 = cc in absurd (omega arith)

-- a run that is read is that of its entity, which it names first
pub run_names : (run : List Node) (e : Entity) → read_entity run ≡ Ok e → head_uid run ≡ e.uid
run_names run e h = let p = entities_read.only run e h in ap head_uid (sym p.1)

-- nodes whose entries, counts and runs have no fault
pub record Whole (nodes : List Node) (fs : List ℕ) : Type 0 where
  pub entries : broken_entry (length nodes) fs ≡ None
  pub few : length fs ≤ 1024
  pub many : length nodes ≤ 65536
  pub reads : (k : ℕ) → k < length fs → (e : Entity) × (read_entity (run_at nodes fs k) ≡ Ok e)
  pub ascends : (k : ℕ) → k + 1 < length fs → uid_below (head_uid (run_at nodes fs k)) (head_uid (run_at nodes fs (k + 1))) ≡ true

-- and of which none lies in front of the first run
pub record Filled (nodes : List Node) (fs : List ℕ) : Type 0 where
  pub whole : Whole nodes fs
  pub bare : length fs ≡ 0 → length nodes ≡ 0

-- where the entries are sound and the counts within the limits, the faults of the runs decide, however they are told
pub runs_whole : (at : ℕ → ℕ → Refusal → Fault) (nodes : List Node) (fs : List ℕ) → broken_entry (length nodes) fs ≡ None → length fs ≤ 1024 → length nodes ≤ 65536 → run_faults at nodes fs ≡ [] → Whole nodes fs
runs_whole at nodes fs entries few many h =
    let each : (k : ℕ) → k < length fs → (run_fault at k (read_entity (run_at nodes fs k)) ≡ []) × (uid_fault at nodes fs k ≡ []) =
    λ k l. none_of_two (run_fault at k (read_entity (run_at nodes fs k))) (uid_fault at nodes fs k) (none_collected (faults_at at nodes fs) (length fs) 0 h k (omega arith) (omega arith)) in
    record {
      entries = entries;
      few = few;
      many = many;
      reads = λ k l. no_run_fault at k (read_entity (run_at nodes fs k)) (each k l).0;
      ascends = λ k l.
          let t = no_uid_fault (eqb (k + 1) 0 || uid_below (head_uid (run_at nodes fs (k + 1 - 1))) (head_uid (run_at nodes fs (k + 1)))) _ (each (k + 1) l).1 in
          let e : k + 1 - 1 ≡ k = omega arith in
          ⊎_elim
          (λ (z : eqb (k + 1) 0 ≡ true). absurd (omega (arith, eqb-true _ _ z)))
          (λ (z : uid_below (head_uid (run_at nodes fs (k + 1 - 1))) (head_uid (run_at nodes fs (k + 1))) ≡ true). subst (λ v. uid_below (head_uid (run_at nodes fs v)) (head_uid (run_at nodes fs (k + 1))) ≡ true) e z)
          (or_cases _ _ t);
    }

-- the uid of a run of whole nodes has no fault
uid_stands : (at : ℕ → ℕ → Refusal → Fault) (nodes : List Node) (fs : List ℕ) → Whole nodes fs → (k : ℕ) → k < length fs → uid_fault at nodes fs k ≡ []
uid_stands at nodes fs w zero l = refl
uid_stands at nodes fs w (suc k) l =
    let e : suc k - 1 ≡ k = omega arith in
    let d : k + 1 ≡ suc k = omega arith in
    let a : uid_below (head_uid (run_at nodes fs k)) (head_uid (run_at nodes fs (suc k))) ≡ true = subst (λ v. uid_below (head_uid (run_at nodes fs k)) (head_uid (run_at nodes fs v)) ≡ true) d (w.ascends k (omega arith)) in
    cond-true _ _ _ (or_right (eqb (suc k) 0) _ (subst (λ v. uid_below (head_uid (run_at nodes fs v)) (head_uid (run_at nodes fs (suc k))) ≡ true) (sym e) a))

-- the runs of whole nodes have no fault, however it would be told
pub whole_runs : (at : ℕ → ℕ → Refusal → Fault) (nodes : List Node) (fs : List ℕ) → Whole nodes fs → run_faults at nodes fs ≡ []
whole_runs at nodes fs w =
    collected_none (faults_at at nodes fs) (length fs) 0 (λ k l m.
    let q : k < length fs = omega arith in
    both_none (run_fault at k (read_entity (run_at nodes fs k))) (uid_fault at nodes fs k) (ap (run_fault at k) (w.reads k q).1) (uid_stands at nodes fs w k q))

-- Tables of nodes

-- where no fault is found, no entry is broken and nothing else is
entry_none : (o : Option ℕ) (rest : Option Fault) → unless_entry o rest ≡ None → (o ≡ None) × (rest ≡ None)
entry_none None rest h = (refl, h)
entry_none (Some k) rest h = let z : ◌≡◌ {A = ℕ} 0 1 = cc in absurd (omega arith)

-- a table is whole where no fault is found
pub table_filled : (nodes : List Node) (fs : List ℕ) → table_fault nodes fs ≡ None → Filled nodes fs
table_filled nodes fs h =
    let at = λ (k p : ℕ) (r : Refusal). of_entity r k p in
    let a = entry_none (broken_entry (length nodes) fs) _ h in
    let b = none_of_two (table_faults nodes fs) (run_faults at nodes fs) (no_least _ a.1) in
    let c = none_of_two (fault_if (eqb (length fs) 0 && ltb 0 (length nodes)) _) _ b.0 in
    let d = none_of_two (fault_if (ltb 1024 (length fs)) _) _ c.1 in
    record {
      whole = runs_whole at nodes fs a.0 (ltb-false 1024 (length fs) (not_if _ _ d.0)) (ltb-false 65536 (length nodes) (not_if _ _ d.1)) b.1;
      bare = λ e. ⊎_elim
          (λ (z : eqb (length fs) 0 ≡ false). absurd (eqb-false _ _ z e))
          (λ (z : ltb 0 (length nodes) ≡ false). let l = ltb-false 0 (length nodes) z in omega arith)
          (and_cases _ _ (not_if _ _ c.0));
    }

pub table_whole : (nodes : List Node) (fs : List ℕ) → table_fault nodes fs ≡ None → Whole nodes fs
table_whole nodes fs h = (table_filled nodes fs h).whole

-- no fault is found in a whole table
pub filled_table : (nodes : List Node) (fs : List ℕ) → Filled nodes fs → table_fault nodes fs ≡ None
filled_table nodes fs f =
    let w = f.whole in
    let at = λ (k p : ℕ) (r : Refusal). of_entity r k p in
    let bare : (eqb (length fs) 0 && ltb 0 (length nodes)) ≡ false =
    ⊎_elim
    (λ (z : 0 < length fs). and_left _ _ (ne_eqb (length fs) 0 (λ e. omega arith)))
    (λ (z : length fs ≤ 0). let n = f.bare (omega arith) in and_right _ _ (le-ltb 0 (length nodes) (omega arith)))
    (cases_lt 0 (length fs)) in
    let parts : table_faults nodes fs ≡ [] =
    both_none _ _ (no_fault_if _ (of_entity Malformed 0 1) bare)
    (both_none _ _ (no_fault_if _ (of_entity Limit 1024 1) (le-ltb _ _ w.few)) (no_fault_if _ (at_node Limit fs 65536) (le-ltb _ _ w.many))) in
    (λ i. unless_entry (w.entries i) (least (parts i ++ whole_runs at nodes fs w i)))

-- The entities of whole nodes

-- what was read, if something was
abbrev ok_part : Result Entity Refused → Option Entity
ok_part (Ok e) = Some e
ok_part (Err x) = None

-- a list of what was read, where everything was
module _ (read : ℕ → Result Entity Refused) where
  -- what was read at n numbers from i on
  abbrev listed : ℕ → ℕ → List Entity
  listed n i = collected (λ k. entity_if_read (read k)) n i

  -- something was read at each of them
  abbrev AllRead : ℕ → ℕ → Type 0
  AllRead n i = (k : ℕ) → i ≤ k → k < i + n → (e : Entity) × (read k ≡ Ok e)

  -- the first of them, and the others
  pub listed_more : (n i : ℕ) (e : Entity) → read i ≡ Ok e → listed (suc n) i ≡ e ∷ listed n (i + 1)
  listed_more n i e h = ap (λ r. entity_if_read r ++ listed n (i + 1)) h

  -- how many they are
  listed_length : (n i : ℕ) → AllRead n i → length (listed n i) ≡ n
  listed_length zero i h = refl
  listed_length (suc n) i h =
      let p = h i (omega arith) (omega arith) in
      ap length (listed_more n i p.0 p.1) ∙ ap suc (listed_length n (i + 1) (λ k l m. h k (omega arith) (omega arith)))

  -- each is within the limits
  listed_formed : (n i : ℕ) → AllRead n i → ((k : ℕ) (e : Entity) → read k ≡ Ok e → FormedEntity e) → AllFormed (listed n i)
  listed_formed zero i h f = tt
  listed_formed (suc n) i h f =
      let p = h i (omega arith) (omega arith) in
      subst AllFormed (sym (listed_more n i p.0 p.1)) (f i p.0 p.1, listed_formed n (i + 1) (λ k l m. h k (omega arith) (omega arith)) f)

  -- the one at a place
  listed_at : (n i k : ℕ) → AllRead n i → k < n → entity_at (listed n i) k ≡ ok_part (read (i + k))
  listed_at zero i k h l = absurd (omega arith)
  listed_at (suc n) i zero h l =
      let p = h i (omega arith) (omega arith) in
      let e : i + 0 ≡ i = omega arith in
      ap (λ es. entity_at es 0) (listed_more n i p.0 p.1) ∙ (ap ok_part (sym p.1) ∙ ap (λ j. ok_part (read j)) (sym e))
  listed_at (suc n) i (suc k) h l =
      let p = h i (omega arith) (omega arith) in
      let e : i + 1 + k ≡ i + suc k = omega arith in
      ap (λ es. entity_at es (suc k)) (listed_more n i p.0 p.1)
      ∙ (at_suc p.0 (listed n (i + 1)) k ∙ (listed_at n (i + 1) k (λ j a b. h j (omega arith) (omega arith)) (omega arith) ∙ ap (λ j. ok_part (read j)) e))

  -- the uid of each is below that of the next
  abbrev EachAbove : ℕ → ℕ → Type 0
  EachAbove n i = (k : ℕ) (d e : Entity) → i ≤ k → k + 1 < i + n → read k ≡ Ok d → read (k + 1) ≡ Ok e → uid_below d.uid e.uid ≡ true

  -- their uids ascend
  listed_ascends : (n i : ℕ) → AllRead n i → EachAbove n i → UidsAscend (listed n i)
  listed_ascends zero i h a = tt
  listed_ascends (suc zero) i h a =
      let p = h i (omega arith) (omega arith) in
      subst UidsAscend (sym (listed_more 0 i p.0 p.1)) tt
  listed_ascends (suc (suc n)) i h a =
      let p = h i (omega arith) (omega arith) in
      let q = h (i + 1) (omega arith) (omega arith) in
      let two = listed_more n (i + 1) q.0 q.1 in
      let rest = listed_ascends (suc n) (i + 1) (λ k l m. h k (omega arith) (omega arith)) (λ k d e l m. a k d e (omega arith) (omega arith)) in
      subst UidsAscend (sym (listed_more (suc n) i p.0 p.1 ∙ ap (λ es. p.0 ∷ es) two))
      (a i p.0 q.0 (omega arith) (omega arith) p.1 q.1, subst UidsAscend two rest)

-- the entities of whole nodes are a lawful list
module _ (nodes : List Node) (fs : List ℕ) (w : Whole nodes fs) where
  -- what the run k reads as
  abbrev reading : ℕ → Result Entity Refused
  reading k = read_entity (run_at nodes fs k)

  -- every run is read
  all_read : AllRead reading (length fs) 0
  all_read k l m = w.reads k (omega arith)

  -- there are as many entities as entries
  pub entities_length : length (entities_of nodes fs) ≡ length fs
  entities_length = listed_length reading (length fs) 0 all_read

  -- and they are a list that a store may mean
  pub entities_lawful : Lawful (entities_of nodes fs)
  entities_lawful = record {
    few = let n = entities_length in let f = w.few in omega arith;
    formed = listed_formed reading (length fs) 0 all_read (λ k e h. (entities_read.only (run_at nodes fs k) e h).0);
    ascending = listed_ascends reading (length fs) 0 all_read (λ k d e l m p q.
        let below = w.ascends k (omega arith) in
        subst (λ u. uid_below d.uid u ≡ true) (run_names (run_at nodes fs (k + 1)) e q)
        (subst (λ u. uid_below u (head_uid (run_at nodes fs (k + 1))) ≡ true) (run_names (run_at nodes fs k) d p) below));
  }

  -- the entity at a place: its uid, and its run
  pub entity_there : (k : ℕ) → k < length fs → (e : Entity) × ((entity_at (entities_of nodes fs) k ≡ Some e) × ((e.uid ≡ head_uid (run_at nodes fs k)) × (entity_run e ≡ run_at nodes fs k)))
  entity_there k l =
      let p = w.reads k l in
      let n : 0 + k ≡ k = omega arith in (
        p.0,
        (
          listed_at reading (length fs) 0 k all_read l ∙ (ap (λ j. ok_part (reading j)) n ∙ ap ok_part p.1),
          (sym (run_names (run_at nodes fs k) p.0 p.1), (entities_read.only (run_at nodes fs k) p.0 p.1).1),
        ),
      )

  -- beyond the last there is none
  pub none_there : (k : ℕ) → length fs ≤ k → entity_at (entities_of nodes fs) k ≡ None
  none_there k l = beyond_last (entities_of nodes fs) k (let n = entities_length in omega arith)

  -- the uid at a place
  pub uid_there : (k : ℕ) (u : Uid) → k < length fs → u ≡ head_uid (run_at nodes fs k) → Ok u ≡ uid_answer (entities_of nodes fs) k
  uid_there k u l e =
      let p = entity_there k l in
      ap Ok (e ∙ sym p.1.1.0) ∙ ap uid_told (sym p.1.0)

  -- the refusal beyond the last
  pub uid_nowhere : (k : ℕ) → length fs ≤ k → Err no_such_place ≡ uid_answer (entities_of nodes fs) k
  uid_nowhere k l = ap uid_told (sym (none_there k l))

  -- the run at a place, put into a buffer
  pub load_there : (k : ℕ) (buffer : List Node) → k < length fs → load_answer (entities_of nodes fs) k buffer ≡ loaded (run_at nodes fs k) buffer
  load_there k buffer l =
      let p = entity_there k l in
      ap (λ o. load_told o buffer) p.1.0 ∙ ap (λ run. loaded run buffer) p.1.1.1

  -- the refusal beyond the last, with the buffer as it was
  pub load_nowhere : (k : ℕ) (buffer : List Node) → length fs ≤ k → load_answer (entities_of nodes fs) k buffer ≡ (Err no_such_place, buffer)
  load_nowhere k buffer l = ap (λ o. load_told o buffer) (none_there k l)
