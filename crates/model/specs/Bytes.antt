-- Numbers and nodes in a list of bytes, little-endian.
use Rattle.std.specs.Prelude.{ℕ, ◌+◌, ◌*◌, Bool, cond, List, length, ℤ, Some, None, Option, nat_le, slice_index}
use Rattle.std.specs.Int.{w64}
use Rattle.std.proofs.Common.{to_z}
use Rattle.model.specs.declared.node.Node.{Node}

-- whether n bytes stand at p
abbrev pub within : List ℕ → ℕ → ℕ → Bool
within bs p n = nat_le (p + n) (length bs)

-- the unsigned number of the four bytes at p
abbrev pub u32_at : List ℕ → ℕ → ℕ
u32_at bs p = slice_index bs p + slice_index bs (p + 1) * 256 + slice_index bs (p + 2) * 65536 + slice_index bs (p + 3) * 16777216

-- the unsigned number of the eight bytes at p
abbrev pub u64_at : List ℕ → ℕ → ℕ
u64_at bs p =
    slice_index bs p + slice_index bs (p + 1) * 256 + slice_index bs (p + 2) * 65536 + slice_index bs (p + 3) * 16777216
    + slice_index bs (p + 4) * 4294967296 + slice_index bs (p + 5) * 1099511627776 + slice_index bs (p + 6) * 281474976710656 + slice_index bs (p + 7) * 72057594037927936

-- the same 64 bits as a signed number in two's complement
abbrev pub i64_at : List ℕ → ℕ → ℤ
i64_at bs p = to_z w64 (u64_at bs p)

-- the node whose 24 bytes stand at p
abbrev pub node_at : List ℕ → ℕ → Node
node_at bs p = record {
  kind = u32_at bs p;
  field = u32_at bs (p + 4);
  a = u32_at bs (p + 8);
  b = u32_at bs (p + 12);
  number = i64_at bs (p + 16);
}

-- what is read where n bytes at p hold it: nothing where they are not all there
abbrev pub read : {X : Type 0} → List ℕ → ℕ → ℕ → X → Option X
read bs p n x = cond (within bs p n) (Some x) None
