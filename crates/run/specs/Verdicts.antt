-- What a check of a whole run answers.
use Rattle.std.specs.Prelude.{◌≡◌, false, List, None, Ok, Err, Result}
use Rattle.model.specs.declared.node.Node.{Node}
use Rattle.model.specs.declared.slot.Slot.{Slot}
use Rattle.model.specs.declared.slot.Slot.TheVariants.{Plain, Named, ARecord, AUid, Ancestor}
use Rattle.model.specs.Trees.{Tree, root}
use Rattle.model.specs.Values.{magnitude}
use Rattle.model.specs.Reading.{Rest, Read, Refused, ended, read_node, read_trees}
use Rattle.model.specs.Entities.{heads}
use Rattle.run.specs.Reads.{seen, rest_only}

-- the answer of a check
abbrev pub Verdict : Type 0
Verdict = Result (Unit {0}) Refused

-- whether a run is read, and not what is read
abbrev pub verdict : {X : Type 0} → Result X Refused → Verdict
verdict (Ok x) = Ok tt
verdict (Err e) = Err e

-- a check takes the runs of what is formed, and no other run
pub record Exact {X : Type 0} (Formed : X → Type 0) (written : X → List Node) (run : List Node) (r : Verdict) : Type 0 where
  pub only : r ≡ Ok tt → (x : X) × Formed x × (written x ≡ run)
  pub every : (x : X) → Formed x → written x ≡ run → r ≡ Ok tt

-- The verdict by the parts of a run in turn: of each only that it is read, and what is left behind it.

-- a part, and then the verdict behind it
abbrev pub part : {X : Type 0} → Read X → (X → Rest → Verdict) → Verdict
part (Ok x) g = g x.0 x.1
part (Err e) g = Err e

-- behind the last part
abbrev pub at_end : Rest → Verdict
at_end r = ended r.nodes r tt

-- three uids, and then the context; `child` reads a tree
abbrev pub request_parts : (child : Slot → Rest → Read Tree) → Rest → Verdict
request_parts child r₀ =
    part (rest_only (read_trees child 3 AUid r₀)) (λ u r.
    part (seen root (child ARecord r)) (λ n r'. at_end r'))

-- the head, the attributes, and as many ancestors and tags as the head announces
abbrev pub entity_parts : (child : Slot → Rest → Read Tree) → Rest → Verdict
entity_parts child r₀ =
    part (read_node heads false Plain r₀) (λ h r.
    part (seen root (child ARecord r)) (λ n r'.
    part (rest_only (read_trees child h.field (Ancestor None) r')) (λ u r''.
    part (rest_only (read_trees child (magnitude h.number) (Named None) r'')) (λ v r'''. at_end r'''))))
