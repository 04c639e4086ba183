-- Where the values of a run lie.
use Rattle.std.specs.Prelude.{ℕ, zero, suc, ◌+◌, cond, List, [], ◌∷◌, length, drop, pos, Some, None, Option, ◌==◌, nat_lt, slice_index_or}
use Rattle.model.specs.declared.node.Node.{Node}
use Rattle.model.specs.Nodes.{plain}
use Rattle.model.specs.Layouts.{value_arity}
use Rattle.model.specs.Values.{Value}

-- the place behind the next n values of a list that begins at p
abbrev pub passes : ℕ → List Node → ℕ → Option ℕ
passes zero xs p = Some p
passes (suc n) [] p = None
passes (suc n) (x ∷ xs) p = passes (n + value_arity x) xs (p + 1)

-- the node at a place, and a node of zeros beyond the end
abbrev pub node_at : List Node → ℕ → Node
node_at run p = slice_index_or run p (plain 0 0 0 (pos 0))

-- what follows a place, if there is one
abbrev pub from_end : Option ℕ → (ℕ → Option ℕ) → Option ℕ
from_end None f = None
from_end (Some p) f = f p

-- the first of n values in turn that has this name, the first of them at p
abbrev pub named_of : List Node → ℕ → ℕ → ℕ → Option ℕ
named_of run name zero p = None
named_of run name (suc n) p =
    cond (nat_lt p (length run))
    (cond ((node_at run p).field == name) (Some p) (from_end (passes 1 (drop p run) p) (named_of run name n)))
    None

-- the field of this name of the record at p
abbrev pub field_place : List Node → ℕ → ℕ → Option ℕ
field_place run name p =
    cond (nat_lt p (length run)) (cond ((node_at run p).kind == 6) (named_of run name (node_at run p).a (p + 1)) None) None

-- the place alone, of a place with what lies there
abbrev pub place_of : Option (ℕ × Value) → Option ℕ
place_of None = None
place_of (Some x) = Some x.0
