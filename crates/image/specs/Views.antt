-- A node of an image as the reader hands it out.
use Rattle.std.specs.Prelude.{ℕ, List}
use Rattle.image.specs.declared.view.View.{View}
use Rattle.image.specs.declared.view.View.TheVariants.{Bool, Long, String, Uid, Set, Record, Extension, Entity}
use Rattle.model.specs.Images as images

-- a view by its kind, bytes and offset
abbrev pub viewed : ℕ → List ℕ → ℕ → images.View
viewed kind bytes offset = record { kind = kind; bytes = bytes; offset = offset }

-- each case stands for a kind, with its bytes and its offset
abbrev pub shown : View → images.View
shown (Bool n) = viewed 1 n.bytes.now n.offset
shown (Long n) = viewed 2 n.bytes.now n.offset
shown (String n) = viewed 3 n.bytes.now n.offset
shown (Uid n) = viewed 4 n.bytes.now n.offset
shown (Set n) = viewed 5 n.bytes.now n.offset
shown (Record n) = viewed 6 n.bytes.now n.offset
shown (Extension n) = viewed 7 n.bytes.now n.offset
shown (Entity n) = viewed 9 n.bytes.now n.offset
