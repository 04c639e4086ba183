-- The bytes of nodes with a list of first nodes.
use Rattle.std.specs.Prelude.{ℕ, List, ◌++◌, length}
use Rattle.model.specs.declared.node.Node.{Node}
use Rattle.model.specs.Images.{node_offset, low_bytes, node_bytes, joined}

-- the header, the place list and the nodes
abbrev pub written : List Node → List ℕ → List ℕ
written nodes fs =
    low_bytes 4 (length fs) ++ (low_bytes 4 (length nodes) ++ (low_bytes 4 16 ++ (low_bytes 4 (node_offset (length fs) 0)
    ++ (joined (low_bytes 4) fs ++ joined node_bytes nodes))))
