use Rattle.std.proofs.Common.{◌≡◌, ℕ, List, ◌≤◌, ◌++◌, Some, None, Option, sym, ap, ◌∙◌, subst, arith}
use Rattle.model.specs.declared.fault.Fault.{Fault}
use Rattle.model.specs.declared.node.Node.{Node}
use Rattle.model.specs.Faults.{least, least_with}
use Rattle.model.specs.Stores.{run_faults}
use Rattle.model.specs.Images.{node_count, nodes_there, ends, counts, fault_of, image_nodes, place_entries, node_faults, unless_broken, image_fault}
use Rattle.store.specs.Entries.{told, AllBelow}
use Rattle.store.proofs.Keeping.{keeps_both}
use Rattle.image.specs.declared.frame.Header.{Header}
use Rattle.image.specs.declared.layout.WholeList.{WholeList}
use Rattle.image.specs.Headers.{announced, by_offset}
use Rattle.image.specs.Opens.{ListWhole}
use Rattle.image.proofs.Telling.{told_alike}
use Rattle.image.proofs.ListFacts.{entries_below, no_list}
use Rattle.image.proofs.layout.WholeList.check.Goals as goal

-- the faults behind a whole place list, by the header, and the nodes and entries that it announces
abbrev faults : List ℕ → Header → List Node → List ℕ → List Fault
faults bs h ns fs =
    fault_of (nodes_there bs h.entities h.nodes)
    ++ (fault_of (ends bs h.entities h.nodes) ++ (fault_of (counts h.entities h.nodes) ++ run_faults (told (by_offset h.entities) fs) ns fs))

-- the faults of three checks and of the runs, one after another
kept : (a b d rest : List Fault) (k z : Option Fault) → z ≡ least_with (least_with (least_with None a) b) d → k ≡ least_with z rest → k ≡ least (a ++ (b ++ (d ++ rest)))
kept a b d rest k z p q = cc (keeps_both d rest (least_with (least_with None a) b), keeps_both b (d ++ rest) (least_with None a), keeps_both a (b ++ (d ++ rest)) None)

-- they are those of the definition
of_bytes : (bs : List ℕ) (h : Header) (ns : List Node) (fs : List ℕ) (k : Option Fault) → ListWhole bs → h ≡ announced bs → ns ≡ image_nodes bs → fs ≡ place_entries bs → k ≡ least (faults bs h ns fs) → image_fault bs ≡ k
of_bytes bs h ns fs k w h_is n_is f_is e =
    ap (λ o. unless_broken o (least (node_faults bs))) w
    ∙ sym (e
    ∙ ap (λ g. least (faults bs g ns fs)) h_is
    ∙ ap (λ v. least (faults bs (announced bs) v fs)) n_is
    ∙ ap (λ v. least (faults bs (announced bs) (image_nodes bs) v)) f_is
    ∙ ap (λ v. least (fault_of (nodes_there bs (announced bs).entities (announced bs).nodes) ++ (fault_of (ends bs (announced bs).entities (announced bs).nodes) ++ (fault_of (counts (announced bs).entities (announced bs).nodes) ++ v)))) (told_alike bs))

-- the faults that were found are those of the bytes
module _ (list : WholeList) (ns : List Node) (fs : List ℕ) (z k : Option Fault) where
  abbrev bs : List ℕ
  bs = list.layout.bytes.now

  abbrev h : Header
  h = list.layout.header

  found : ns ≡ image_nodes bs → fs ≡ place_entries bs → h.nodes ≤ 4294967296
      → z ≡ least_with (least_with (least_with None (fault_of (nodes_there bs h.entities h.nodes))) (fault_of (ends bs h.entities h.nodes))) (fault_of (counts h.entities h.nodes))
      → (AllBelow 4294967296 fs → k ≡ least_with z (run_faults (told (by_offset h.entities) fs) ns fs)) → image_fault bs ≡ k
  found n_is f_is small p s =
      let n : node_count bs ≤ 4294967296 = let e = ap (λ (g : Header). g.nodes) list.layout.announced in omega arith in
      let below = subst (AllBelow 4294967296) (sym f_is) (entries_below bs 4294967296 list.whole n) in
      of_bytes bs h ns fs k list.whole list.layout.announced n_is f_is (kept (fault_of (nodes_there bs h.entities h.nodes)) (fault_of (ends bs h.entities h.nodes)) (fault_of (counts h.entities h.nodes)) (run_faults (told (by_offset h.entities) fs) ns fs) k z p (s below))

pub returns-in-None-clause-ok : goal.returns-in-None-clause-ok
returns-in-None-clause-ok c =
    found c.args.self _ _ _ None (c.as_slice.ensures.value ∙ c.in_ok-nodes.ensures) (c.as_slice-2.ensures.value ∙ c.in_ok-firsts.ensures) (omega arith) c.least_fault-least.ensures c.in-None.ensures

pub returns-clause-err : goal.returns-clause-err
returns-clause-err c =
    let is = found c.args.self _ _ _ (Some c.in-Some.fault) (c.as_slice.ensures.value ∙ c.in_ok-nodes.ensures) (c.as_slice-2.ensures.value ∙ c.in_ok-firsts.ensures) (omega arith) c.least_fault-least.ensures c.in-Some.ensures in
    (is, no_list c.args.self.layout.bytes.now c.in-Some.fault is)
