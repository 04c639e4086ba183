-- A check by a reading that reads the runs of what is formed, and no other, is exact.
use Rattle.std.proofs.Common.{◌≡◌, ℕ, List, IfErr, Ok, Err, Result, sym, refl, ap, ◌∙◌, subst, arith}
use Rattle.model.specs.declared.node.Node.{Node}
use Rattle.model.specs.declared.slot.Slot.{Slot}
use Rattle.model.specs.Trees.{run_of}
use Rattle.model.specs.Layouts.{Layout}
use Rattle.model.specs.Reading.{Refused, read_run}
use Rattle.model.specs.Formed.{Formed}
use Rattle.model.specs.Entities.{entity_run, request_run, read_entity, read_request, FormedEntity, FormedRequest}
use Rattle.laws.proofs.ReadsOnly.{trees_read}
use Rattle.laws.proofs.EntityRuns.{entities_read}
use Rattle.laws.proofs.RequestRuns.{requests_read}
use Rattle.run.specs.Verdicts.{Verdict, verdict, Exact}

-- a verdict is good where something was read
read_of : {X : Type 0} (o : Result X Refused) → verdict o ≡ Ok tt → (x : X) × (o ≡ Ok x)
read_of (Ok x) e = (x, refl)
read_of (Err d) e = let z : ◌≡◌ {A = ℕ} 0 1 = cc in absurd (omega arith)

module _ {X : Type 0} (Good : X → Type 0) (written : X → List Node) (reads : List Node → Result X Refused)
    (each : (x : X) → Good x → reads (written x) ≡ Ok x) (only : (run : List Node) (x : X) → reads run ≡ Ok x → Good x × (written x ≡ run)) where
  exact : (run : List Node) (r : Verdict) → r ≡ verdict (reads run) → Exact Good written run r
  exact run r e = record {
    only = λ good. let f = read_of (reads run) (sym e ∙ good) in let g = only run f.0 f.1 in (f.0, g.0, g.1);
    every = λ x good is. e ∙ ap (λ w. verdict (reads w)) (sym is) ∙ ap verdict (each x good);
  }

pub tree_exact : (l : Layout) (s : Slot) (run : List Node) (r : Verdict) → r ≡ verdict (read_run l s run) → Exact (Formed l s) run_of run r
tree_exact l s = exact (Formed l s) run_of (read_run l s) (trees_read.every l s) (trees_read.only l s)

pub entity_exact : (run : List Node) (r : Verdict) → r ≡ verdict (read_entity run) → Exact FormedEntity entity_run run r
entity_exact = exact FormedEntity entity_run read_entity entities_read.every entities_read.only

pub request_exact : (run : List Node) (r : Verdict) → r ≡ verdict (read_request run) → Exact FormedRequest request_run run r
request_exact = exact FormedRequest request_run read_request requests_read.every requests_read.only

-- what holds of every refusal of a reading holds of the verdict's
pub refused_of : {X : Type 0} (o : Result X Refused) (r : Verdict) → r ≡ verdict o → (P : Refused → Type 0) → ((x : Refused) → o ≡ Err x → P x) → IfErr r P
refused_of (Ok x) r e P h = subst (λ v. IfErr v P) (sym e) tt
refused_of (Err x) r e P h = subst (λ v. IfErr v P) (sym e) (h x refl)
