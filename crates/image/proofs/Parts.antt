-- Numbers in a part of some bytes.
use Rattle.std.proofs.Common.{◌≡◌, ℕ, ◌+◌, ◌<◌, ◌≤◌, List, take, drop, ap, ◌∙◌, to_z, arith}
use Rattle.std.proofs.lemmas.List.{get_or-drop, get_or-take}
use Rattle.std.specs.Prelude.{slice_index}
use Rattle.std.specs.Int.{w64}
use Rattle.model.specs.Bytes.{u32_at, u64_at, i64_at}

module _ (bs : List ℕ) (n p : ℕ) where
  byte_of_part : (k q : ℕ) → k < n → p + k ≡ q → slice_index (take n (drop p bs)) k ≡ slice_index bs q
  byte_of_part k q h e = get_or-take n (drop p bs) k 0 h ∙ (get_or-drop p bs k 0 ∙ ap (slice_index bs) e)

  pub u32_of_part : (k : ℕ) → k + 4 ≤ n → u32_at (take n (drop p bs)) k ≡ u32_at bs (p + k)
  u32_of_part k h =
      let a = byte_of_part k (p + k) (omega arith) (omega arith) in
      let b = byte_of_part (k + 1) (p + k + 1) (omega arith) (omega arith) in
      let c = byte_of_part (k + 2) (p + k + 2) (omega arith) (omega arith) in
      let d = byte_of_part (k + 3) (p + k + 3) (omega arith) (omega arith) in omega arith

  u64_of_part : (k : ℕ) → k + 8 ≤ n → u64_at (take n (drop p bs)) k ≡ u64_at bs (p + k)
  u64_of_part k h =
      let a = byte_of_part k (p + k) (omega arith) (omega arith) in
      let b = byte_of_part (k + 1) (p + k + 1) (omega arith) (omega arith) in
      let c = byte_of_part (k + 2) (p + k + 2) (omega arith) (omega arith) in
      let d = byte_of_part (k + 3) (p + k + 3) (omega arith) (omega arith) in
      let e = byte_of_part (k + 4) (p + k + 4) (omega arith) (omega arith) in
      let f = byte_of_part (k + 5) (p + k + 5) (omega arith) (omega arith) in
      let g = byte_of_part (k + 6) (p + k + 6) (omega arith) (omega arith) in
      let i = byte_of_part (k + 7) (p + k + 7) (omega arith) (omega arith) in omega arith

  pub i64_of_part : (k : ℕ) → k + 8 ≤ n → i64_at (take n (drop p bs)) k ≡ i64_at bs (p + k)
  i64_of_part k h = ap (to_z w64) (u64_of_part k h)
