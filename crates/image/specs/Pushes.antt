-- Bytes that are appended to others.
use Rattle.std.specs.Prelude.{◌≡◌, ℕ, List, ◌++◌, Ok, Err, Result}
use Rattle.model.specs.Images.{entry_offset, node_offset, low_bytes}

-- where it went well, the bytes stand behind those before; where memory was wanting, nothing is said
abbrev pub Pushed : {X E : Type 0} → Result X E → List ℕ → List ℕ → List ℕ → Type 0
Pushed (Ok u) before bytes after = after ≡ before ++ bytes
Pushed (Err e) before bytes after = Unit {0}

-- the four fields of a header
abbrev pub header_bytes : ℕ → ℕ → List ℕ
header_bytes entities nodes =
    low_bytes 4 entities ++ (low_bytes 4 nodes ++ (low_bytes 4 (entry_offset 0) ++ low_bytes 4 (node_offset entities 0)))
