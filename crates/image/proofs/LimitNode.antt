-- Where the node 65,537 of all entities of a list lies.
use Rattle.std.proofs.Common.{◌≡◌, ℕ, zero, suc, ◌+◌, ◌-◌, ◌<◌, ◌≤◌, leb, List, [], ◌∷◌, length, take, Some, Err, sym, ap, ◌∙◌, ⊎_elim, arith, length-append}
use Rattle.std.proofs.lemmas.Bool.{cond-true, cond-false, le-leb, lt-leb, lt-ltb, cases_lt}
use Rattle.model.specs.declared.node.Node.{Node}
use Rattle.model.specs.declared.fault.Refusal.TheVariants.{Limit}
use Rattle.model.specs.Faults.{of_entity}
use Rattle.model.specs.Entities.{Entity, entity_run}
use Rattle.model.specs.Stores.{entity_at, first_at, run_holding}
use Rattle.model.specs.Images.{entity_runs, first_nodes}
use Rattle.laws.proofs.TableRuns.{first_nodes_length}
use Rattle.image.specs.declared.draft.Draft.{Draft}
use Rattle.image.specs.declared.error.ImageError.{ImageError}
use Rattle.image.specs.declared.error.ImageError.TheVariants.{Fault, NoMemory}
use Rattle.image.specs.Drafts.{Adds, Unwritten, write_fault}
use Rattle.image.proofs.Drafting.{runs_cut, runs_more}

-- the run at a place begins behind the runs before it
first_is : (p : ℕ) (es : List Entity) (k : ℕ) → k < length es → first_at (first_nodes p es) k ≡ p + length (entity_runs (take k es))
first_is p [] k l = absurd (omega arith)
first_is p (e ∷ es) zero l = omega arith
first_is p (e ∷ es) (suc k) l =
    let n = length-append (entity_run e) (entity_runs (take k es)) in
    first_is (p + length (entity_run e)) es k (omega arith) ∙ omega arith

-- more entities have no fewer nodes
grows : (es : List Entity) (k i : ℕ) → k ≤ i → length (entity_runs (take k es)) ≤ length (entity_runs (take i es))
grows es zero i l = omega arith
grows es (suc k) zero l = absurd (omega arith)
grows [] (suc k) (suc i) l = omega arith
grows (e ∷ es) (suc k) (suc i) l =
    let a = length-append (entity_run e) (entity_runs (take k es)) in
    let b = length-append (entity_run e) (entity_runs (take i es)) in
    let r = grows es k i (omega arith) in omega arith

-- a node lies in the last run that begins no later
held : (j : ℕ) (fs : List ℕ) (k last : ℕ) → k ≤ last → first_at fs k ≤ j → ((i : ℕ) → k < i → i ≤ last → j < first_at fs i) → run_holding j fs last ≡ k
held j fs k zero l a h = omega arith
held j fs k (suc last) l a h =
    ⊎_elim
    (λ (q : k < suc last). cond-false (leb (first_at fs (suc last)) j) (suc last) _ (lt-leb _ _ (h (suc last) q (omega arith))) ∙ held j fs k last (omega arith) a (λ i m n. h i m (omega arith)))
    (λ (q : suc last ≤ k). let e : k ≡ suc last = omega arith in cond-true (leb (first_at fs (suc last)) j) (suc last) _ (le-leb _ _ (rw e at a)) ∙ sym e)
    (cases_lt k (suc last))

-- the entity at a place passes the limit
module _ (es : List Entity) (k : ℕ) (e : Entity) (is : entity_at es k ≡ Some e) (l : k < length es) (before : length (entity_runs (take k es)) ≤ 65536) (beyond : 65536 < length (entity_runs (take k es)) + length (entity_run e)) where
  -- the node 65,537 lies in its run
  holds : run_holding 65536 (first_nodes 0 es) (length (first_nodes 0 es) - 1) ≡ k
  holds =
      let n = first_nodes_length 0 es in
      held 65536 (first_nodes 0 es) k (length (first_nodes 0 es) - 1) (omega arith) (let f = first_is 0 es k l in omega arith)
      (λ i m o.
      let f = first_is 0 es i (omega arith) in
      let r = ap length (runs_more es k e is) in
      let a = length-append (entity_runs (take k es)) (entity_run e) in
      let g = grows es (k + 1) i (omega arith) in omega arith)

  -- so that is what writing the list refuses
  pub limit_node : write_fault es ≡ Some (of_entity Limit k (65536 - length (entity_runs (take k es)) + 1))
  limit_node =
      let c = runs_cut es k e is in
      let f : first_at (first_nodes 0 es) k ≡ length (entity_runs (take k es)) = let z = first_is 0 es k l in omega arith in
      cond-true _ _ _ (lt-ltb 65536 (length (entity_runs es)) (omega arith))
      ∙ ((λ i. Some (of_entity Limit (holds i) (65536 - first_at (first_nodes 0 es) (holds i) + 1)))
      ∙ ap (λ n. Some (of_entity Limit k (65536 - n + 1))) f)

-- an entity that is not added refuses the list
pub not_added : (es : List Entity) (k : ℕ) (e : Entity) (is : entity_at es k ≡ Some e) (l : k < length es) (run : List Node) (d f : Draft) (x : ImageError)
    → run ≡ entity_run e → d.count ≡ length (entity_runs (take k es)) → Adds k run d f (Err x) → Unwritten x es
not_added es k e is l run d f (Fault y) r c a =
    let n = ap length r in
    let w = d.few in
    limit_node es k e is l (omega arith) (omega (arith, a.0)) ∙ (ap (λ m. Some (of_entity Limit k (65536 - m + 1))) (sym c) ∙ ap Some (sym a.1))
not_added es k e is l run d f NoMemory r c a = tt
