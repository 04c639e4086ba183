-- Writing the entities of a list one after another.
use Rattle.std.proofs.Common.{◌≡◌, ℕ, zero, suc, ◌+◌, ◌<◌, ◌≤◌, List, [], ◌∷◌, ◌++◌, length, take, drop, Some, Ok, Err, sym, ap, ◌∙◌, subst, append-nil, arith, length-append, length-drop}
use Rattle.std.proofs.lemmas.List.{take_at}
use Rattle.std.proofs.lemmas.Bool.{cond-false, le-ltb}
use Rattle.model.specs.declared.node.Node.{Node}
use Rattle.model.specs.declared.fault.Fault.{Fault}
use Rattle.model.specs.Entities.{Entity, FormedEntity, entity_run}
use Rattle.model.specs.Stores.{Lawful, AllFormed, AllFitParts, entity_at, load_told, load_answer}
use Rattle.model.specs.Images.{entity_runs, first_nodes, low_bytes, node_bytes, joined}
use Rattle.laws.proofs.WholeRuns.{at_suc, there}
use Rattle.laws.proofs.TableRuns.{runs_append, firsts_append}
use Rattle.laws.proofs.ImageRuns.{fit_runs, runs_fit, fit_append}
use Rattle.image.specs.declared.draft.Draft.{Draft}
use Rattle.image.specs.Drafts.{Drafted, Added}
use Rattle.image.proofs.BytesOut.{joined_append}

-- the entities before a place, the one at it, and those behind
split : (es : List Entity) (k : ℕ) (e : Entity) → entity_at es k ≡ Some e → (es ≡ take k es ++ (e ∷ drop (suc k) es)) × (take (suc k) es ≡ take k es ++ (e ∷ []))
split [] k e h = let z : ◌≡◌ {A = ℕ} 0 1 = cc in absurd (omega arith)
split (d ∷ ds) zero e h = let s : d ≡ e = cc in (ap (λ v. v ∷ ds) s, ap (λ v. v ∷ []) s)
split (d ∷ ds) (suc k) e h = let p = split ds k e (sym (at_suc d ds k) ∙ h) in (ap (λ v. d ∷ v) p.0, ap (λ v. d ∷ v) p.1)

-- a formed entity at each place
formed_at : (es : List Entity) (k : ℕ) (e : Entity) → AllFormed es → entity_at es k ≡ Some e → FormedEntity e
formed_at [] k e f h = let z : ◌≡◌ {A = ℕ} 0 1 = cc in absurd (omega arith)
formed_at (d ∷ ds) zero e f h = let s : d ≡ e = cc in subst FormedEntity s f.0
formed_at (d ∷ ds) (suc k) e f h = formed_at ds k e f.1 (sym (at_suc d ds k) ∙ h)

-- what a store of this list loads into a buffer of 4,096 nodes
module _ (es : List Entity) (law : Lawful es) (k : ℕ) (h : k < length es) (buffer : List Node) (long : length buffer ≡ 4096) where
  pub at_place : Entity
  at_place = (there es k h).0

  pub at_place_is : entity_at es k ≡ Some at_place
  unfolding at_place
  at_place_is = (there es k h).1

  short : length (entity_run at_place) ≤ 4096
  short = (formed_at es k at_place law.formed at_place_is).short

  load_is : load_answer es k buffer ≡ (Ok (length (entity_run at_place)), entity_run at_place ++ drop (length (entity_run at_place)) buffer)
  load_is = let s = short in ap (λ o. load_told o buffer) at_place_is ∙ cond-false _ _ _ (le-ltb (length buffer) (length (entity_run at_place)) (omega arith))

  -- the load is not refused
  pub never_refused : (f : Fault) → Err f ≡ (load_answer es k buffer).0 → ⊥
  never_refused f e = let a = ap (λ x. x.0) load_is in let z : ◌≡◌ {A = ℕ} 0 1 = cc in omega arith

  -- its answer is the length of the run, and the run stands at the front
  pub loads : (n : ℕ) (after : List Node) → Ok n ≡ (load_answer es k buffer).0 → after ≡ (load_answer es k buffer).1 → (n ≤ 4096) × (take n after ≡ entity_run at_place) × (length after ≡ 4096)
  loads n after e w =
      let s = short in
      let a = ap (λ x. x.0) load_is in
      let m : n ≡ length (entity_run at_place) = cc in
      let b : after ≡ entity_run at_place ++ drop (length (entity_run at_place)) buffer = w ∙ ap (λ x. x.1) load_is in
      let l = length-append (entity_run at_place) (drop (length (entity_run at_place)) buffer) in
      let d = length-drop (length (entity_run at_place)) buffer in
      (omega arith, ap (take n) b ∙ take_at (entity_run at_place) (drop (length (entity_run at_place)) buffer) n (sym m), omega (arith, ap length b))

-- one more entity is written
module _ (es : List Entity) (k : ℕ) (e : Entity) (is : entity_at es k ≡ Some e) where
  more : take (k + 1) es ≡ take k es ++ (e ∷ [])
  more = let n : k + 1 ≡ suc k = omega arith in ap (λ m. take m es) n ∙ (split es k e is).1

  pub runs_more : entity_runs (take (k + 1) es) ≡ entity_runs (take k es) ++ entity_run e
  runs_more = ap entity_runs more ∙ (runs_append (take k es) (e ∷ []) ∙ ap (λ v. entity_runs (take k es) ++ v) (append-nil (entity_run e)))

  firsts_more : first_nodes 0 (take (k + 1) es) ≡ first_nodes 0 (take k es) ++ (length (entity_runs (take k es)) ∷ [])
  firsts_more =
      let n : 0 + length (entity_runs (take k es)) ≡ length (entity_runs (take k es)) = omega arith in
      ap (first_nodes 0) more ∙ (firsts_append 0 (take k es) (e ∷ []) ∙ ap (λ m. first_nodes 0 (take k es) ++ (m ∷ [])) n)

  pub drafted_more : (d f : Draft) (run : List Node) → run ≡ entity_run e → Drafted (take k es) d → Added run d f → Drafted (take (k + 1) es) f
  drafted_more d f run r p a =
      let nodes = entity_runs (take k es) in
      record {
        listed = a.listed
            ∙ (ap (λ v. v ++ low_bytes 4 d.count) p.listed
            ∙ (ap (λ v. joined (low_bytes 4) (first_nodes 0 (take k es)) ++ v) (ap (low_bytes 4) p.counted ∙ sym (append-nil (low_bytes 4 (length nodes))))
            ∙ (sym (joined_append (low_bytes 4) (first_nodes 0 (take k es)) (length nodes ∷ [])) ∙ ap (joined (low_bytes 4)) (sym firsts_more))));
        noded = a.noded
            ∙ (ap (λ v. v ++ joined node_bytes run) p.noded
            ∙ (ap (λ v. joined node_bytes nodes ++ joined node_bytes v) r
            ∙ (sym (joined_append node_bytes nodes (entity_run e)) ∙ ap (joined node_bytes) (sym runs_more))));
        counted = let l = length-append nodes (entity_run e) in let c = p.counted in let q = a.counted in let s = ap length runs_more in let t = ap length r in omega arith;
        fitting = fit_runs (take (k + 1) es) (subst AllFitParts (sym runs_more) (fit_append nodes (entity_run e) (runs_fit (take k es) p.fitting) (subst AllFitParts r a.fitting)));
      }

  -- the entities are cut here
  cut : es ≡ take k es ++ (e ∷ drop (suc k) es)
  cut = (split es k e is).0

  pub runs_cut : length (entity_runs es) ≡ length (entity_runs (take k es)) + (length (entity_run e) + length (entity_runs (drop (suc k) es)))
  runs_cut =
      let a = ap length (ap entity_runs cut ∙ runs_append (take k es) (e ∷ drop (suc k) es)) in
      let b = length-append (entity_runs (take k es)) (entity_run e ++ entity_runs (drop (suc k) es)) in
      let c = length-append (entity_run e) (entity_runs (drop (suc k) es)) in omega arith
