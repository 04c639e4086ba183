-- Nodes by their parts.
use Rattle.std.specs.Prelude.{ℕ, ◌^◌, ◌<◌, List, ◌++◌, length, drop, ℤ, FitsSigned}
use Rattle.std.specs.Int.{w64}
use Rattle.model.specs.declared.node.Node.{Node}

-- a node that is neither a record field nor a tag
abbrev pub plain : ℕ → ℕ → ℕ → ℤ → Node
plain kind a b number = record { kind = kind; field = 0; a = a; b = b; number = number }

-- the same node as a record field or a tag of the name `field`
abbrev pub under : ℕ → Node → Node
under field n = record { kind = n.kind; field = field; a = n.a; b = n.b; number = n.number }

-- the parts of a node fit their sizes
pub record FitsParts (n : Node) : Type 0 where
  pub kind_fits : n.kind < 2 ^ 32
  pub field_fits : n.field < 2 ^ 32
  pub a_fits : n.a < 2 ^ 32
  pub b_fits : n.b < 2 ^ 32
  pub number_fits : FitsSigned w64 n.number

-- a buffer with a run at its front, and the rest as it was
abbrev pub fronted : List Node → List Node → List Node
fronted run buffer = run ++ drop (length run) buffer
