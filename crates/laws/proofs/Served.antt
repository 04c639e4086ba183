-- The relation of histories is a function of the make, the store's list and the calls.
use Rattle.std.proofs.Common.{◌≡◌, ℕ, Bool, true, false, cond, eqb, ltb, List, [], ◌∷◌, Some, None, Ok, Err, Option, Result, sym, refl, ap, ◌∙◌, subst, arith}
use Rattle.model.specs.declared.node.Node.{Node}
use Rattle.model.specs.declared.fault.Fault.{Fault}
use Rattle.model.specs.declared.fault.Refusal.TheVariants.{Limit, IllTypedWalk}
use Rattle.model.specs.declared.fault.Layer.TheVariants.{Walk as walk_layer}
use Rattle.model.specs.Faults.{refusal_number, of_entity, placed, whole_call}
use Rattle.model.specs.Options.{or_else, mapped, unless}
use Rattle.model.specs.Slots.{Uid}
use Rattle.model.specs.Reading.{Refused}
use Rattle.model.specs.Terms.{TermTy, Term}
use Rattle.model.specs.Entities.{Entity, Request, read_entity, read_request, head_uid}
use Rattle.model.specs.Schemas.{Schema, RequestType}
use Rattle.model.specs.Environments.{SymEnv, from_concrete_env}
use Rattle.model.specs.Builds.{built, terms_of, with_request, read_fault, when, limit}
use Rattle.model.specs.Walks.{Root, Step, Found, foretold, walk_in, walk_fault, ill_typed, large_step}
use Rattle.model.specs.Live.{Setting, afresh, parts, Call, put, remove, walk, Answer, accepted, by_fault, walk_answer, put_read, unless_refused, put_fault, put_fault_of, one_too_many, present, remove_fault, without_uid, answer, after}
use Rattle.model.specs.Histories.{Serves, puts, put_refused, removes, remove_refused, walks, misses, walk_refused, Goes, ends, goes, Making, setting, Outcome, make_refused, lived, History, refused_make, made}
use Rattle.laws.specs.HistoryLaws.{HistoriesDetermined}
use Rattle.laws.proofs.Searches.{or_else_none, mapped_none}

-- a call that is served has the answer and leaves the list that are defined
only : (g : Setting) (es ds : List Entity) (c : Call) (a : Answer) → Serves g es c a ds → (a ≡ answer g es c) × (ds ≡ after g es c)
only g _ _ _ _ (puts {es} {run} {e} h r) = (sym (ap by_fault h), sym (ap (λ o. unless_refused o (put_read (read_entity run) es) es) h ∙ ap (λ x. put_read x es) r))
only g _ _ _ _ (put_refused {es} {run} h) = (sym (ap by_fault h), sym (ap (λ o. unless_refused o (put_read (read_entity run) es) es) h))
only g _ _ _ _ (removes {es} {u} h) = (sym (ap by_fault h), sym (ap (λ o. unless_refused o (without_uid u es) es) h))
only g _ _ _ _ (remove_refused {es} {u} h) = (sym (ap by_fault h), sym (ap (λ o. unless_refused o (without_uid u es) es) h))
only g _ _ _ _ (walks h f w) = (cc, refl)
only g _ _ _ _ (misses h f w) = (cc, refl)
only g _ _ _ _ (walk_refused h) = (cc, refl)

-- a run that cannot be read is refused in either case
refused_anyway : (b c : Bool) (f l : Fault) → cond b (Some f) (or_else (when c l) (Some f)) ≡ None → ⊥
refused_anyway true c f l h = let z : ◌≡◌ {A = ℕ} 0 1 = cc in omega arith
refused_anyway false true f l h = let z : ◌≡◌ {A = ℕ} 0 1 = cc in omega arith
refused_anyway false false f l h = let z : ◌≡◌ {A = ℕ} 0 1 = cc in omega arith

-- a put that is not refused has read its entity
put_reads : (g : Setting) (es : List Entity) (u : Uid) (x : Result Entity Refused) → put_fault_of g es u x ≡ None → (e : Entity) × (x ≡ Ok e)
put_reads g es u (Ok e) h = (e, refl)
put_reads g es u (Err x) h = absurd (refused_anyway (eqb (refusal_number x.0) 1) (one_too_many g.schema es u) (of_entity x.0 0 x.1) limit h)

-- a walk that is not refused has its type
typed : (a : Result TermTy ℕ) → ill_typed a ≡ None → (b : TermTy) × (a ≡ Ok b)
typed (Ok a) h = (a, refl)
typed (Err k) h = let z : ◌≡◌ {A = ℕ} 0 1 = cc in absurd (omega arith)

walk_typed : (s : Schema) (q : RequestType) (root : Root) (steps : List Step) (types terms : ℕ) → walk_fault s q types terms root steps ≡ None → (a : TermTy) × (foretold s q root steps ≡ Ok a)
walk_typed s q root steps types terms h =
    let p = or_else_none (when (cond (ltb types 4096) true (ltb terms 4096)) (whole_call Limit walk_layer)) _ h in
    let r = or_else_none (mapped (λ k. placed Limit walk_layer k) (large_step steps 1)) _ p.1 in
    typed (foretold s q root steps) (mapped_none (λ k. placed IllTypedWalk walk_layer k) _ r.1)

-- every call is served, with the answer and the list that are defined
serves_put : (g : Setting) (es : List Entity) (run : List Node) (o : Option Fault) → put_fault g es run ≡ o → Serves g es (put run) (by_fault o) (unless_refused o (put_read (read_entity run) es) es)
serves_put g es run None h =
    let p = put_reads g es (head_uid run) (read_entity run) h in
    subst (λ ds. Serves g es (put run) accepted ds) (sym (ap (λ x. put_read x es) p.1)) (puts h p.1)
serves_put g es run (Some f) h = put_refused h

serves_remove : (g : Setting) (es : List Entity) (u : Uid) (o : Option Fault) → remove_fault g es u ≡ o → Serves g es (remove u) (by_fault o) (unless_refused o (without_uid u es) es)
serves_remove g es u None h = removes h
serves_remove g es u (Some f) h = remove_refused h

module _ (g : Setting) (es : List Entity) (root : Root) (steps : List Step) (types terms : ℕ) where
  serves_walk : (o : Option Fault) (a : Result TermTy ℕ) (w : Found Term) → walk_fault g.schema g.request_type types terms root steps ≡ o → foretold g.schema g.request_type root steps ≡ a → walk_in g.schema g.request_type g.request es root steps ≡ w → Serves g es (walk root steps types terms) (walk_answer o a w) es
  serves_walk None (Ok a) (Ok t) h f w = walks h f w
  serves_walk None (Ok a) (Err k) h f w = misses h f w
  serves_walk None (Err k) w' h f w =
      let p = walk_typed g.schema g.request_type root steps types terms h in
      let q = p.1 in
      let z : ◌≡◌ {A = ℕ} 0 1 = cc in absurd (omega arith)
  serves_walk (Some x) a w' h f w = walk_refused h

serves : (g : Setting) (es : List Entity) (c : Call) → Serves g es c (answer g es c) (after g es c)
serves g es (put run) = serves_put g es run (put_fault g es run) refl
serves g es (remove u) = serves_remove g es u (remove_fault g es u) refl
serves g es (walk root steps types terms) = serves_walk g es root steps types terms _ _ _ refl refl refl

-- every list of calls is served, and in one way
all_served : (g : Setting) (es : List Entity) (cs : List Call) → (x : List Answer × List Entity) × Goes g es cs x.0 x.1
all_served g es [] = (([], es), ends)
all_served g es (c ∷ cs) =
    let p = all_served g (after g es c) cs in
    ((answer g es c ∷ p.0.0, p.0.1), goes (serves g es c) p.1)

served_once : (g : Setting) (es : List Entity) (cs : List Call) (as' bs : List Answer) (ds fs : List Entity) → Goes g es cs as' ds → Goes g es cs bs fs → (as' ≡ bs) × (ds ≡ fs)
served_once g es [] _ _ _ _ ends ends = (refl, refl)
served_once g es (c ∷ cs) _ _ ds fs (goes {ds = d1} {a = a1} {as' = l1} s1 r1) (goes {ds = d2} {a = a2} {as' = l2} s2 r2) =
    let p = only g es d1 c a1 s1 in
    let q = only g es d2 c a2 s2 in
    let e : d1 ≡ d2 = p.1 ∙ sym q.1 in
    let a : a1 ≡ a2 = p.0 ∙ sym q.0 in
    let r = served_once g d2 cs l1 l2 ds fs (subst (λ d. Goes g d cs l1 ds) e r1) r2 in
    let l : l1 ≡ l2 = r.0 in
    (cc, r.1)

-- the list that calls leave is the present list
leaves_present : (g : Setting) (es : List Entity) (cs : List Call) (as' : List Answer) (ds : List Entity) → Goes g es cs as' ds → ds ≡ present g es cs
leaves_present g es [] _ _ ends = refl
leaves_present g es (c ∷ cs) _ ds (goes {ds = d} {a = a} {as' = l} s r) =
    leaves_present g d cs l ds r ∙ ap (λ x. present g x cs) (only g es d c a s).1

-- a make that is accepted has read its request
built_reads : {X : Type 0} (x : Result Request Refused) (f : Request → Result X Fault) (e : X) → with_request x f ≡ Ok e → (r : Request) × (x ≡ Ok r)
built_reads (Ok r) f e h = (r, refl)
built_reads (Err y) f e h = let z : ◌≡◌ {A = ℕ} 0 1 = cc in absurd (omega arith)

module _ (m : Making) (es : List Entity) (cs : List Call) where
  abbrev make_of : Result SymEnv Fault
  make_of = built m.sizes m.buffer true m.schema m.request_type m.request_run es

  outcome : (b : Result SymEnv Fault) → make_of ≡ b → (o : Outcome) × History m es cs o
  outcome (Err f) h = (make_refused f, refused_make h)
  outcome (Ok e) h =
      let p = built_reads (read_request m.request_run) (λ r. unless (read_fault m.sizes m.buffer true m.schema m.request_type r es) (from_concrete_env m.schema m.request_type r es)) e h in
      let q = all_served (setting m p.0) es cs in
      (lived q.0.0 q.0.1 (afresh (setting m p.0) q.0.1) (terms_of (parts (setting m p.0) q.0.1)), made h p.1 q.1)

  same_life : (r1 r2 : Request) (l1 l2 : List Answer) (d1 d2 : List Entity) → r1 ≡ r2 → Goes (setting m r1) es cs l1 d1 → Goes (setting m r2) es cs l2 d2 → lived l1 d1 (afresh (setting m r1) d1) (terms_of (parts (setting m r1) d1)) ≡ lived l2 d2 (afresh (setting m r2) d2) (terms_of (parts (setting m r2) d2))
  same_life r1 r2 l1 l2 d1 d2 e g1 g2 =
      let p = served_once (setting m r2) es cs l1 l2 d1 d2 (subst (λ r. Goes (setting m r) es cs l1 d1) e g1) g2 in
      let a : l1 ≡ l2 = p.0 in
      let b : d1 ≡ d2 = p.1 in
      cc

  one_outcome : (o p : Outcome) → History m es cs o → History m es cs p → o ≡ p
  one_outcome _ _ (refused_make h1) (refused_make h2) = cc
  one_outcome _ _ (refused_make h1) (made h2 r2 g2) = let z : ◌≡◌ {A = ℕ} 0 1 = cc in absurd (omega arith)
  one_outcome _ _ (made h1 r1 g1) (refused_make h2) = let z : ◌≡◌ {A = ℕ} 0 1 = cc in absurd (omega arith)
  one_outcome _ _ (made {r = q1} h1 r1 g1) (made {r = q2} h2 r2 g2) = let e : q1 ≡ q2 = cc in same_life _ _ _ _ _ _ e g1 g2

pub histories_determined : HistoriesDetermined
histories_determined = record { serves = serves; only = only; leaves = leaves_present; some = λ m es cs. outcome m es cs _ refl; one = one_outcome }
