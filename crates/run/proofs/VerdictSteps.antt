-- The verdict on a whole run, one part of it after another: what is read does not matter, only what is left.
use Rattle.std.proofs.Common.{◌≡◌, ℕ, List, [], ◌∷◌, Some, None, Ok, Err, Option, sym, refl}
use Rattle.model.specs.declared.node.Node.{Node}
use Rattle.model.specs.declared.slot.Slot.{Slot}
use Rattle.model.specs.Trees.{Tree, root}
use Rattle.model.specs.Layouts.{Layout}
use Rattle.model.specs.Reading.{Rest, Read, and_then, unless_passed, ended, whole, read_tree, read_run, start}
use Rattle.run.specs.Reads.{seen}
use Rattle.run.specs.Verdicts.{Verdict, verdict, part, at_end}

unless_is : {X : Type 0} (o : Option ℕ) (x : X) → verdict (unless_passed o x) ≡ unless_passed o tt
unless_is None x = refl
unless_is (Some p) x = refl

ended_is : {X : Type 0} (ns : List Node) (r : Rest) (x : X) → verdict (ended ns r x) ≡ ended ns r tt
ended_is [] r x = unless_is r.passed x
ended_is (n ∷ ns) r x = refl

-- behind the last part
pub end_is : {X : Type 0} (r : Rest) (x : X) → verdict (whole (Ok (x, r))) ≡ at_end r
end_is r x = ended_is r.nodes r x

-- a part by itself, a tree of which the root is kept, and one of which nothing is
pub part_is : {X Y : Type 0} (o : Read X) (f : X → Rest → Read Y) (g : X → Rest → Verdict) → ((x : X) (r : Rest) → verdict (whole (f x r)) ≡ g x r) → verdict (whole (and_then o f)) ≡ part o g
part_is (Ok x) f g h = h x.0 x.1
part_is (Err e) f g h = refl

pub seen_is : {X Y Z : Type 0} (k : X → Z) (o : Read X) (f : X → Rest → Read Y) (g : Rest → Verdict) → ((x : X) (r : Rest) → verdict (whole (f x r)) ≡ g r) → verdict (whole (and_then o f)) ≡ part (seen k o) (λ z r. g r)
seen_is k (Ok x) f g h = h x.0 x.1
seen_is k (Err e) f g h = refl

-- a run that is one tree
one_tree : (o : Read Tree) → part (seen root o) (λ n r. at_end r) ≡ verdict (whole o)
one_tree (Ok x) = sym (end_is x.1 x.0)
one_tree (Err e) = refl

pub tree_is : (l : Layout) (s : Slot) (run : List Node) → verdict (read_run l s run) ≡ part (seen root (read_tree l 16 s (start run))) (λ n r. at_end r)
tree_is l s run = sym (one_tree (read_tree l 16 s (start run)))
