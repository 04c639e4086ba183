-- Trees that a layout takes, and that keep the limits.
use Rattle.std.specs.Prelude.{◌≡◌, ◌≤◌, Bool, true, ◌&&◌, ◌==◌}
use Rattle.model.specs.Trees.{Tree, tree, Trees, none, more, root, count, size, nesting}
use Rattle.model.specs.declared.slot.Slot.{Slot}
use Rattle.model.specs.Slots.{next}
use Rattle.model.specs.Layouts.{Layout}

-- every node is one that its slot takes, and has as many children as it announces
abbrev mutual
  pub fits : Layout → Slot → Tree → Bool
  fits l s (tree n ts) = l.takes s n && (count ts == l.arity n && all_fit l (l.inside n) ts)

  pub all_fit : Layout → Slot → Trees → Bool
  all_fit l s none = true
  all_fit l s (more t ts) = fits l s t && all_fit l (next s (root t)) ts

-- every node keeps the limits on names and counts
abbrev mutual
  pub keeps : Layout → Slot → Tree → Bool
  keeps l s (tree n ts) = l.keeps s n && all_keep l (l.inside n) ts

  pub all_keep : Layout → Slot → Trees → Bool
  all_keep l s none = true
  all_keep l s (more t ts) = keeps l s t && all_keep l (next s (root t)) ts

-- a tree of a layout, within all limits
pub record Formed (l : Layout) (s : Slot) (t : Tree) : Type 0 where
  pub fitting : fits l s t ≡ true
  pub kept : keeps l s t ≡ true
  pub shallow : nesting t ≤ 16
  pub short : size t ≤ 4096
