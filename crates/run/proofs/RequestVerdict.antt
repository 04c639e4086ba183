-- The verdict on a request is that on its parts.
use Rattle.std.proofs.Common.{◌≡◌, ℕ, zero, suc, List, Ok, Err, sym, refl, ap, ◌∙◌}
use Rattle.model.specs.declared.node.Node.{Node}
use Rattle.model.specs.declared.slot.Slot.{Slot}
use Rattle.model.specs.declared.slot.Slot.TheVariants.{AUid, ARecord}
use Rattle.model.specs.Trees.{Tree, more, root}
use Rattle.model.specs.Reading.{Rest, Read, and_then, whole, read_trees, start}
use Rattle.model.specs.Entities.{Request, request_of, read_value, read_request}
use Rattle.run.specs.Reads.{seen, rest_only}
use Rattle.run.specs.Verdicts.{Verdict, verdict, part, at_end, request_parts}
use Rattle.run.proofs.TreesInTurn.{more_kept}
use Rattle.run.proofs.VerdictSteps.{end_is, seen_is}

-- over any reading of a tree
module _ (child : Slot → Rest → Read Tree) where
  -- some uids one by one
  abbrev uids : ℕ → (Rest → Verdict) → Rest → Verdict
  uids zero g r = g r
  uids (suc k) g r = part (rest_only (child AUid r)) (λ u r'. uids k g r')

  -- the slot of a uid is the same behind another
  one_more : (k : ℕ) (o : Read Tree) (g : Rest → Verdict) → part (rest_only o) (λ u r. part (rest_only (read_trees child k AUid r)) (λ v r'. g r')) ≡ part (rest_only (and_then o (λ t r. and_then (read_trees child k AUid r) (λ ts r'. Ok (more t ts, r'))))) (λ u r. g r)
  one_more k (Ok x) g = ap (λ w. part w (λ u r. g r)) (sym (more_kept x.0 (read_trees child k AUid x.1)))
  one_more k (Err e) g = refl

  in_turn : (k : ℕ) (g : Rest → Verdict) (r : Rest) → uids k g r ≡ part (rest_only (read_trees child k AUid r)) (λ u r'. g r')
  in_turn zero g r = refl
  in_turn (suc k) g r = (λ i. part (rest_only (child AUid r)) (λ u r'. in_turn k g r' i)) ∙ one_more k (child AUid r) g

  abbrev context : Rest → Verdict
  context r = part (seen root (child ARecord r)) (λ n r'. at_end r')

  abbrev a_request : Rest → Read Request
  a_request r₀ =
      and_then (child AUid r₀) (λ p r. and_then (child AUid r) (λ a r'. and_then (child AUid r') (λ s r''.
      and_then (child ARecord r'') (λ c r'''. Ok (request_of p a s c, r''')))))

  parts_are : (r : Rest) → verdict (whole (a_request r)) ≡ request_parts child r
  parts_are r₀ =
      seen_is (λ t. tt) (child AUid r₀) _ (uids 2 context) (λ p r.
      seen_is (λ t. tt) (child AUid r) _ (uids 1 context) (λ a r'.
      seen_is (λ t. tt) (child AUid r') _ context (λ s r''.
      seen_is root (child ARecord r'') _ at_end (λ c r'''. end_is r''' (request_of p a s c)))))
      ∙ in_turn 3 context r₀

pub request_is : (run : List Node) → verdict (read_request run) ≡ request_parts read_value (start run)
request_is run = parts_are read_value (start run)
