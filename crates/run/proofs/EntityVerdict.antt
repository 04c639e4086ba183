-- The verdict on an entity is that on its parts.
use Rattle.std.proofs.Common.{◌≡◌, ◌≤◌, false, List, None, IfErr, Ok, sym, ◌∙◌}
use Rattle.model.specs.declared.node.Node.{Node}
use Rattle.model.specs.declared.slot.Slot.{Slot}
use Rattle.model.specs.declared.slot.Slot.TheVariants.{Plain, Named, ARecord, Ancestor}
use Rattle.model.specs.Trees.{Tree, root}
use Rattle.model.specs.Values.{magnitude}
use Rattle.model.specs.Reading.{Rest, Read, and_then, whole, read_node, read_trees, start}
use Rattle.model.specs.Entities.{Entity, heads, entity_of, read_value, read_entity}
use Rattle.run.specs.Reads.{seen, rest_only}
use Rattle.run.specs.Verdicts.{Verdict, verdict, part, at_end, entity_parts}
use Rattle.run.proofs.Exactness.{refused_of}
use Rattle.laws.proofs.Places.{near}
use Rattle.run.proofs.VerdictSteps.{end_is, part_is, seen_is}

-- over any reading of a tree, the verdict from each part on
module _ (child : Slot → Rest → Read Tree) where
  abbrev tags : Node → Rest → Verdict
  tags h r = part (rest_only (read_trees child (magnitude h.number) (Named None) r)) (λ u r'. at_end r')

  abbrev ancestors : Node → Rest → Verdict
  ancestors h r = part (rest_only (read_trees child h.field (Ancestor None) r)) (λ u r'. tags h r')

  abbrev attributes : Node → Rest → Verdict
  attributes h r = part (seen root (child ARecord r)) (λ n r'. ancestors h r')

  abbrev an_entity : Rest → Read Entity
  an_entity r₀ =
      and_then (read_node heads false Plain r₀) (λ h r. and_then (child ARecord r) (λ bs r'.
      and_then (read_trees child h.field (Ancestor None) r') (λ us r''.
      and_then (read_trees child (magnitude h.number) (Named None) r'') (λ ts r'''. Ok (entity_of h bs us ts, r''')))))

  parts_are : (r : Rest) → verdict (whole (an_entity r)) ≡ entity_parts child r
  parts_are r₀ =
      part_is (read_node heads false Plain r₀) _ attributes (λ h r.
      seen_is root (child ARecord r) _ (ancestors h) (λ bs r'.
      seen_is (λ t. tt) (read_trees child h.field (Ancestor None) r') _ (tags h) (λ us r''.
      seen_is (λ t. tt) (read_trees child (magnitude h.number) (Named None) r'') _ at_end (λ ts r'''. end_is r''' (entity_of h bs us ts)))))

pub entity_is : (run : List Node) → verdict (read_entity run) ≡ entity_parts read_value (start run)
entity_is run = parts_are read_value (start run)

-- a refusal names no node beyond the one at which reading stops
pub entity_near : (run : List Node) (r : Verdict) → r ≡ entity_parts read_value (start run) → IfErr r (λ x. x.1 ≤ 4097)
entity_near run r e = refused_of (read_entity run) r (e ∙ sym (entity_is run)) (λ x. x.1 ≤ 4097) (λ x h. (near run x.0 x.1 h).1)
