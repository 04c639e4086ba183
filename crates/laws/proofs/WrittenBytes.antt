-- What is written as the bytes of an image is read back: the counts, the entries and the nodes, and the checks pass.
use Rattle.std.proofs.Common.{◌≡◌, ℕ, zero, suc, ◌+◌, ◌-◌, ◌*◌, ◌/◌, ◌%◌, ◌^◌, ◌<◌, ◌≤◌, true, cond, not, eqb, ltb, List, [], ◌∷◌, ◌++◌, map, length, get_or, drop, ℤ, pos, None, sym, refl, ap, ◌∙◌, subst, ⊎_elim, append_assoc, pow-suc, arith, w64, SFits, to_z, of_z}
use lib.Seq.{drop-append-add}
use mir.ValLaws.{to_z-of_z, of_z_fits}
use Rattle.std.specs.List.{range_with_len}
use Rattle.std.proofs.lemmas.List.FromFn.{fill_by_all}
use Rattle.std.proofs.lemmas.List.{get_or-drop, drop-drop, length-append, append-nil}
use Rattle.std.proofs.lemmas.Bool.{le-leb, lt-ltb, eq-eqb, and_from, and_parts, cases_lt, not-false}
use Rattle.model.specs.declared.node.Node.{Node}
use Rattle.model.specs.Bytes.{within, u32_at, u64_at, i64_at, node_at}
use Rattle.model.specs.Nodes.{FitsParts}
use Rattle.model.specs.Stores.{first_at, entry_sound, broken_entry, AllFitParts}
use Rattle.model.specs.Checks.{good}
use Rattle.model.specs.Images.{entity_count, node_count, entry_offset, first_node, node_offset, header, entry, place_list, node_there, nodes_there, ends, counts, image_node, whole_nodes, image_nodes, place_entries, low_bytes, node_bytes, joined}
use Rattle.laws.proofs.Written.{written}
use Rattle.laws.proofs.ChecksPass.{require_passes, then_passes, each_passes}
use Rattle.laws.proofs.WholeRuns.{none_passes}
use Rattle.laws.proofs.ReadBytes.{number_of}

-- a number is made by its bytes
number_low : (n v : ℕ) → v < 256 ^ n → number_of (low_bytes n v) ≡ v
number_low zero v h = omega arith
number_low (suc n) v h =
    let h' : v < 256 ^ n * 256 = rw pow-suc at h in
    let l : v / 256 < 256 ^ n = omega arith in
    let e = number_low n (v / 256) l in
    ap (λ x. v % 256 + 256 * x) e ∙ omega arith

-- xs stands in bs at p
record Holds (bs : List ℕ) (p : ℕ) (xs : List ℕ) : Type 0 where
  rest : List ℕ
  is : drop p bs ≡ xs ++ rest

-- at an offset in what stands there
deeper : {bs ys : List ℕ} (p q r : ℕ) (xs more : List ℕ) → drop p bs ≡ ys → drop q ys ≡ xs ++ more → p + q ≡ r → Holds bs r xs
deeper {bs} p q r xs more h k e = record { rest = more; is = ap (λ v. drop v bs) (sym e) ∙ sym (drop-drop q p bs) ∙ ap (drop q) h ∙ k }

-- a byte of what stands there
byte_of : {bs xs : List ℕ} {p : ℕ} (h : Holds bs p xs) (i q : ℕ) → p + i ≡ q → get_or bs q 0 ≡ get_or (xs ++ h.rest) i 0
byte_of {bs} {xs} {p} h i q e = ap (λ v. get_or bs v 0) (sym e) ∙ sym (get_or-drop p bs i 0) ∙ ap (λ v. get_or v i 0) h.is

-- a u32 by its four bytes
u32_of : (bs : List ℕ) (p a b c d : ℕ) → get_or bs p 0 ≡ a → get_or bs (p + 1) 0 ≡ b → get_or bs (p + 2) 0 ≡ c → get_or bs (p + 3) 0 ≡ d → u32_at bs p ≡ number_of (a ∷ b ∷ c ∷ d ∷ [])
u32_of bs p a b c d h i j k = omega arith

-- a u64 by its eight bytes
u64_of : (bs : List ℕ) (p a b c d e f g h : ℕ) → get_or bs p 0 ≡ a → get_or bs (p + 1) 0 ≡ b → get_or bs (p + 2) 0 ≡ c → get_or bs (p + 3) 0 ≡ d
    → get_or bs (p + 4) 0 ≡ e → get_or bs (p + 5) 0 ≡ f → get_or bs (p + 6) 0 ≡ g → get_or bs (p + 7) 0 ≡ h → u64_at bs p ≡ number_of (a ∷ b ∷ c ∷ d ∷ e ∷ f ∷ g ∷ h ∷ [])
u64_of bs p a b c d e f g h i j k l m n o q = omega arith

-- a number that stands there is read
u32_back : (bs : List ℕ) (p v : ℕ) → Holds bs p (low_bytes 4 v) → v < 2 ^ 32 → u32_at bs p ≡ v
u32_back bs p v h l =
    u32_of bs p _ _ _ _ (byte_of h 0 p (omega arith)) (byte_of h 1 (p + 1) refl) (byte_of h 2 (p + 2) refl) (byte_of h 3 (p + 3) refl) ∙ number_low 4 v l

-- a signed number that stands there is read
i64_back : (bs : List ℕ) (p : ℕ) (z : ℤ) → Holds bs p (low_bytes 8 (of_z w64 z)) → SFits w64 z → i64_at bs p ≡ z
i64_back bs p z h f =
    let e = u64_of bs p _ _ _ _ _ _ _ _ (byte_of h 0 p (omega arith)) (byte_of h 1 (p + 1) refl) (byte_of h 2 (p + 2) refl) (byte_of h 3 (p + 3) refl) (byte_of h 4 (p + 4) refl) (byte_of h 5 (p + 5) refl) (byte_of h 6 (p + 6) refl) (byte_of h 7 (p + 7) refl) in
    ap (to_z w64) (e ∙ number_low 8 (of_z w64 z) (of_z_fits w64 z f).fits) ∙ to_z-of_z w64 z f

-- a node of its parts
abbrev node_of : ℕ → ℕ → ℕ → ℕ → ℤ → Node
node_of k f x y n = record { kind = k; field = f; a = x; b = y; number = n }

-- a node of zeros
abbrev blank : Node
blank = node_of 0 0 0 0 (pos 0)

-- a node that stands there is read
node_back_at : (bs : List ℕ) (p : ℕ) (x : Node) → Holds bs p (node_bytes x) → FitsParts x → node_at bs p ≡ x
node_back_at bs p x h f =
    let k0 = u32_back bs p x.kind (deeper p 0 p _ _ h.is refl (omega arith)) f.kind_fits in
    let k1 = u32_back bs (p + 4) x.field (deeper p 4 (p + 4) _ _ h.is refl refl) f.field_fits in
    let k2 = u32_back bs (p + 8) x.a (deeper p 8 (p + 8) _ _ h.is refl refl) f.a_fits in
    let k3 = u32_back bs (p + 12) x.b (deeper p 12 (p + 12) _ _ h.is refl refl) f.b_fits in
    let k4 = i64_back bs (p + 16) x.number (deeper p 16 (p + 16) _ _ h.is refl refl) f.number_fits in
    ap (λ v. node_of v (u32_at bs (p + 4)) (u32_at bs (p + 8)) (u32_at bs (p + 12)) (i64_at bs (p + 16))) k0
    ∙ ap (λ v. node_of x.kind v (u32_at bs (p + 8)) (u32_at bs (p + 12)) (i64_at bs (p + 16))) k1
    ∙ ap (λ v. node_of x.kind x.field v (u32_at bs (p + 12)) (i64_at bs (p + 16))) k2
    ∙ ap (λ v. node_of x.kind x.field x.a v (i64_at bs (p + 16))) k3
    ∙ ap (λ v. node_of x.kind x.field x.a x.b v) k4

-- pieces of one width: their length, the one at k, and what comes after all
module _ {X : Type 0} (g : X → List ℕ) (w : ℕ) (wide : (x : X) → length (g x) ≡ w) where
  -- n pieces have n times the length of one
  joined_length : (xs : List X) → length (joined g xs) ≡ length xs * w
  joined_length [] = omega arith
  joined_length (x ∷ xs) =
      let z : suc (length xs) * w ≡ w + length xs * w = omega arith in
      length-append (g x) (joined g xs) ∙ ap (λ v. v + length (joined g xs)) (wide x) ∙ ap (λ v. w + v) (joined_length xs) ∙ sym z

  module _ (d : X) (tail : List ℕ) where
    -- behind the first piece
    skip_one : (x : X) (xs : List X) (n : ℕ) → drop (w + n) (joined g (x ∷ xs) ++ tail) ≡ drop n (joined g xs ++ tail)
    skip_one x xs n =
        ap (λ v. drop (w + n) v) (append_assoc (g x) (joined g xs) tail) ∙ ap (λ v. drop (v + n) (g x ++ (joined g xs ++ tail))) (sym (wide x)) ∙ drop-append-add (g x) (joined g xs ++ tail) n

    -- the piece k stands at k times the width
    joined_at : (xs : List X) (k : ℕ) → k < length xs → Holds (joined g xs ++ tail) (k * w) (g (get_or xs k d))
    joined_at [] k l = absurd (omega arith)
    joined_at (x ∷ xs) zero l =
        let z : 0 * w ≡ 0 = omega arith in
        record { rest = joined g xs ++ tail; is = ap (λ v. drop v (joined g (x ∷ xs) ++ tail)) z ∙ append_assoc (g x) (joined g xs) tail }
    joined_at (x ∷ xs) (suc k) l =
        let h = joined_at xs k (omega arith) in
        let z : suc k * w ≡ w + k * w = omega arith in
        record { rest = h.rest; is = ap (λ v. drop v (joined g (x ∷ xs) ++ tail)) z ∙ skip_one x xs (k * w) ∙ h.is }

    -- behind all pieces
    joined_past : (xs : List X) → drop (length xs * w) (joined g xs ++ tail) ≡ tail
    joined_past [] = let z : 0 * w ≡ 0 = omega arith in ap (λ v. drop v tail) z
    joined_past (x ∷ xs) =
        let z : suc (length xs) * w ≡ w + length xs * w = omega arith in
        ap (λ v. drop v (joined g (x ∷ xs) ++ tail)) z ∙ skip_one x xs (length xs * w) ∙ joined_past xs

-- each node of a list that fits fits
fit_at : (ns : List Node) (j : ℕ) (z : Node) → AllFitParts ns → j < length ns → FitsParts (get_or ns j z)
fit_at [] j z h l = absurd (omega arith)
fit_at (n ∷ ns) zero z h l = h.0
fit_at (n ∷ ns) (suc j) z h l = fit_at ns j z h.1 (omega arith)

-- every number of a list is a byte
record Bytes (xs : List ℕ) : Type 0 where
  below : (i : ℕ) → get_or xs i 0 < 256

-- no numbers
none_bytes : Bytes []
none_bytes = record { below = λ i. omega arith }

-- one byte and then bytes, by place
more_below : (x : ℕ) (xs : List ℕ) → x < 256 → Bytes xs → (i : ℕ) → get_or (x ∷ xs) i 0 < 256
more_below x xs l h zero = l
more_below x xs l h (suc i) = h.below i

-- one byte and then bytes
more_bytes : {x : ℕ} {xs : List ℕ} → x < 256 → Bytes xs → Bytes (x ∷ xs)
more_bytes {x} {xs} l h = record { below = more_below x xs l h }

-- bytes and then bytes, by the first list
both_bytes : (xs ys : List ℕ) → Bytes xs → Bytes ys → Bytes (xs ++ ys)
both_bytes [] ys h k = k
both_bytes (x ∷ xs) ys h k = more_bytes (h.below 0) (both_bytes xs ys (record { below = λ i. h.below (suc i) }) k)

-- bytes and then bytes
append_bytes : {xs ys : List ℕ} → Bytes xs → Bytes ys → Bytes (xs ++ ys)
append_bytes {xs} {ys} h k = both_bytes xs ys h k

-- a number is written as bytes
low_are_bytes : (n v : ℕ) → Bytes (low_bytes n v)
low_are_bytes zero v = none_bytes
low_are_bytes (suc n) v = more_bytes (omega arith) (low_are_bytes n (v / 256))

-- joined bytes are bytes
joined_are_bytes : {X : Type 0} (g : X → List ℕ) → ((x : X) → Bytes (g x)) → (xs : List X) → Bytes (joined g xs)
joined_are_bytes g h [] = none_bytes
joined_are_bytes g h (x ∷ xs) = append_bytes (h x) (joined_are_bytes g h xs)

-- a node is written as bytes
node_are_bytes : (n : Node) → Bytes (node_bytes n)
node_are_bytes n =
    append_bytes (low_are_bytes 4 n.kind) (append_bytes (low_are_bytes 4 n.field) (append_bytes (low_are_bytes 4 n.a) (append_bytes (low_are_bytes 4 n.b) (low_are_bytes 8 (of_z w64 n.number)))))

-- nodes with first nodes are written as bytes
written_are_bytes : (nodes : List Node) (fs : List ℕ) → Bytes (written nodes fs)
written_are_bytes nodes fs =
    append_bytes (low_are_bytes 4 (length fs)) (append_bytes (low_are_bytes 4 (length nodes)) (append_bytes (low_are_bytes 4 16) (append_bytes (low_are_bytes 4 (node_offset (length fs) 0))
    (append_bytes (joined_are_bytes (low_bytes 4) (low_are_bytes 4) fs) (joined_are_bytes node_bytes node_are_bytes nodes)))))

-- nodes and first nodes that can be written
pub record Writable (nodes : List Node) (fs : List ℕ) : Type 0 where
  pub few : length fs ≤ 1024
  pub many : length nodes ≤ 65536
  pub fit : AllFitParts nodes
  pub small : (k : ℕ) → k < length fs → get_or fs k 0 < 2 ^ 32

module _ (nodes : List Node) (fs bs : List ℕ) (is : bs ≡ written nodes fs) where
  -- every byte that is written is below 256
  pub bytes_below : (i : ℕ) → get_or bs i 0 < 256
  bytes_below i = subst (λ v. get_or v i 0 < 256) (sym is) ((written_are_bytes nodes fs).below i)

  -- how many bytes are written
  pub length_back : length bs ≡ node_offset (length fs) (length nodes)
  length_back =
      let p : length (joined (low_bytes 4) fs) ≡ length fs * 4 = joined_length (low_bytes 4) 4 (λ x. refl) fs in
      let q : length (joined node_bytes nodes) ≡ length nodes * 24 = joined_length node_bytes 24 (λ x. refl) nodes in
      let r = length-append (joined (low_bytes 4) fs) (joined node_bytes nodes) in
      let s = ap length is in
      omega arith

  module _ (w : Writable nodes fs) where
    -- the header announces the entries that were written
    pub entities_back : entity_count bs ≡ length fs
    entities_back = let l = w.few in u32_back bs 0 (length fs) (deeper 0 0 0 _ _ is refl refl) (omega arith)

    -- the header announces the nodes that were written
    pub count_back : node_count bs ≡ length nodes
    count_back = let l = w.many in u32_back bs 4 (length nodes) (deeper 0 4 4 _ _ is refl refl) (omega arith)

    -- the header says where the place list stands
    list_back : u32_at bs 8 ≡ 16
    list_back = u32_back bs 8 16 (deeper 0 8 8 _ _ is refl refl) (omega arith)

    -- the header says where the nodes stand
    start_back : u32_at bs 12 ≡ node_offset (entity_count bs) 0
    start_back =
        let l = w.few in
        u32_back bs 12 (node_offset (length fs) 0) (deeper 0 12 12 _ _ is refl refl) (omega arith) ∙ ap (λ v. node_offset v 0) (sym entities_back)

    -- the header is sound
    pub header_back : header bs ≡ good
    header_back =
        let n = length_back in
        let a : within bs 0 4 ≡ true = le-leb 4 (length bs) (omega arith) in
        let b : within bs 4 4 ≡ true = le-leb 8 (length bs) (omega arith) in
        let c : within bs 8 4 ≡ true = le-leb 12 (length bs) (omega arith) in
        let d : within bs 12 4 ≡ true = le-leb 16 (length bs) (omega arith) in
        then_passes _ _ (require_passes _ _ a)
        (then_passes _ _ (require_passes _ _ b)
        (then_passes _ _ (require_passes _ _ (and_from _ _ c (eq-eqb _ _ list_back)))
        (then_passes _ _ (require_passes _ _ (and_from _ _ d (eq-eqb _ _ start_back))) refl)))

    -- each entry is there, and is the one that was written
    pub entry_back : (k : ℕ) → k < length fs → (within bs (entry_offset k) 4 ≡ true) × (first_node bs k ≡ get_or fs k 0)
    entry_back k l =
        let n = length_back in
        let h = joined_at (low_bytes 4) 4 (λ x. refl) 0 (joined node_bytes nodes) fs k l in (
          le-leb (16 + k * 4 + 4) (length bs) (omega arith),
          u32_back bs (entry_offset k) (get_or fs k 0) (deeper 16 (k * 4) (16 + k * 4) _ h.rest (ap (drop 16) is) h.is refl) (w.small k l),
        )

    -- the entries are those that were written
    pub entries_back : place_entries bs ≡ fs
    entries_back =
        ap (λ v. map (first_node bs) (range_with_len 0 v)) entities_back
        ∙ sym (fill_by_all (first_node bs) fs (length fs) 0 refl (λ k l. sym (entry_back k l).1))

    -- each node is there, and is the one that was written
    pub node_back : (j : ℕ) (z : Node) → j < length nodes → (within bs (node_offset (length fs) j) 24 ≡ true) × (image_node bs j ≡ get_or nodes j z)
    node_back j z l =
        let n = length_back in
        let h = joined_at node_bytes 24 (λ x. refl) z [] nodes j l in
        let t : drop (16 + length fs * 4) bs ≡ joined node_bytes nodes ++ [] =
        sym (drop-drop (length fs * 4) 16 bs) ∙ ap (λ v. drop (length fs * 4) (drop 16 v)) is ∙ joined_past (low_bytes 4) 4 (λ x. refl) 0 (joined node_bytes nodes) fs ∙ sym (append-nil (joined node_bytes nodes)) in (
          le-leb (node_offset (length fs) j + 24) (length bs) (omega arith),
          ap (λ v. node_at bs (node_offset v j)) entities_back
              ∙ node_back_at bs (node_offset (length fs) j) (get_or nodes j z) (deeper (16 + length fs * 4) (j * 24) (node_offset (length fs) j) (node_bytes (get_or nodes j z)) h.rest t h.is refl) (fit_at nodes j z w.fit l),
        )

    -- every node that was written is wholly there
    pub whole_back : whole_nodes bs ≡ length nodes
    whole_back =
        let n = length_back in
        let e = entities_back in
        let c = count_back in
        let d : (length bs - node_offset (entity_count bs) 0) / 24 ≡ length nodes = omega arith in
        omega arith

    -- the nodes are those that were written
    pub nodes_back : image_nodes bs ≡ nodes
    nodes_back =
        ap (λ v. map (image_node bs) (range_with_len 0 v)) whole_back
        ∙ sym (fill_by_all (image_node bs) nodes (length nodes) blank refl (λ j l. sym (node_back j blank l).1))

    -- every node is there
    pub nodes_there_back : (length fs ≡ 0 → length nodes ≡ 0) → nodes_there bs (entity_count bs) (node_count bs) ≡ good
    nodes_there_back h =
        let e = entities_back in
        let c = count_back in
        each_passes (node_there bs (entity_count bs)) (node_count bs) 0
        (λ j lo hi.
        let l : j < length nodes = omega arith in
        let some : 0 < entity_count bs = ⊎_elim (λ (m : 0 < length fs). omega arith) (λ (m : length fs ≤ 0). absurd (omega (arith, h (omega arith)))) (cases_lt 0 (length fs)) in
        let t : within bs (node_offset (entity_count bs) j) 24 ≡ true = ap (λ v. within bs (node_offset v j) 24) e ∙ (node_back j blank l).0 in
        require_passes _ _ (and_from _ _ (lt-ltb 0 (entity_count bs) some) t))

    -- nothing follows the last node
    pub ends_back : ends bs (entity_count bs) (node_count bs) ≡ good
    ends_back =
        let n = length_back in
        let e = entities_back in
        let c = count_back in
        require_passes _ _ (le-leb (length bs) (node_offset (entity_count bs) (node_count bs)) (omega arith))

    -- the counts are within their limits
    pub counts_back : counts (entity_count bs) (node_count bs) ≡ good
    counts_back =
        let e = entities_back in
        let c = count_back in
        let few = w.few in
        let many = w.many in
        then_passes _ _ (require_passes _ _ (le-leb (entity_count bs) 1024 (omega arith))) (then_passes _ _ (require_passes _ _ (le-leb (node_count bs) 65536 (omega arith))) refl)

    -- the place list is sound, where every entry was
    pub place_list_back : broken_entry (length nodes) fs ≡ None → place_list bs (entity_count bs) (node_count bs) ≡ good
    place_list_back h =
        let e = entities_back in
        each_passes (entry bs (node_count bs)) (entity_count bs) 0
        (λ k lo hi.
        let l : k < length fs = omega arith in
        let s : entry_sound (length nodes) fs k ≡ true = not-false _ (none_passes (λ i. not (entry_sound (length nodes) fs i)) (length fs) 0 h k (omega arith) (omega arith)) in
        let p = and_parts _ _ s in
        let f = (entry_back k l).1 in
        let g = (entry_back (k - 1) (omega arith)).1 in
        let r : cond (eqb k 0) (eqb (first_node bs k) 0) (ltb (first_node bs (k - 1)) (first_node bs k)) ≡ true =
        ap (λ v. cond (eqb k 0) (eqb v 0) (ltb (first_node bs (k - 1)) v)) f
        ∙ ap (λ v. cond (eqb k 0) (eqb (first_at fs k) 0) (ltb v (first_at fs k))) g
        ∙ p.0 in
        let b : ltb (first_node bs k) (node_count bs) ≡ true = ap (λ v. ltb v (node_count bs)) f ∙ ap (ltb (first_at fs k)) count_back ∙ p.1 in
        then_passes _ _ (require_passes _ _ (entry_back k l).0) (then_passes _ _ (require_passes _ _ r) (then_passes _ _ (require_passes _ _ b) refl)))
