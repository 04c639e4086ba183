-- What is read from the bytes of an image is what was written: the nodes and the entries of a whole image are written as its bytes.
use Rattle.std.proofs.Common.{◌≡◌, ℕ, zero, suc, ◌+◌, ◌-◌, ◌*◌, ◌/◌, ◌%◌, ◌^◌, ◌<◌, ◌≤◌, true, cond, not, ◌&&◌, eqb, ltb, List, [], ◌∷◌, ◌++◌, map, length, get_or, drop, None, sym, refl, ap, ◌∙◌, subst, ⊎_elim, append_assoc, arith, w64, Fits, of_z}
use mir.ValLaws.{of_z-to_z, to_z-Fits}
use Rattle.std.specs.List.{range_with_len}
use Rattle.std.proofs.lemmas.List.FromFn.{length-map-range_with_len, get_or-map-range_with_len}
use Rattle.std.proofs.lemmas.List.{drop_more, drop_all, append-nil}
use Rattle.std.proofs.lemmas.Bool.{leb-true, ltb-true, eqb-true, and_parts, and_from, cases_lt, not_from_true}
use Rattle.model.specs.declared.node.Node.{Node}
use Rattle.model.specs.Bytes.{within, u32_at, u64_at, i64_at, node_at}
use Rattle.model.specs.Nodes.{FitsParts}
use Rattle.model.specs.Stores.{first_at, entry_sound, broken_entry, AllFitParts}
use Rattle.model.specs.Checks.{good}
use Rattle.model.specs.Images.{entity_count, node_count, entry_offset, first_node, node_offset, header, entry, place_list, node_there, nodes_there, ends, image_node, whole_nodes, image_nodes, place_entries, low_bytes, node_bytes, joined}
use Rattle.laws.proofs.Written.{written}
use Rattle.laws.proofs.ChecksPass.{require_holds, then_parts, each_parts}
use Rattle.laws.proofs.WholeRuns.{none_found}

module _ (bs : List ℕ) where
  -- what a passed header says: its four fields are there, and two of them say where the list and the nodes stand
  pub record Headed : Type 0 where
    pub entities_within : within bs 0 4 ≡ true
    pub nodes_within : within bs 4 4 ≡ true
    pub list_within : within bs 8 4 ≡ true
    pub start_within : within bs 12 4 ≡ true
    pub long : 16 ≤ length bs
    pub list_at : u32_at bs 8 ≡ 16
    pub nodes_at : u32_at bs 12 ≡ node_offset (entity_count bs) 0

  -- a passed header says it
  pub header_facts : header bs ≡ good → Headed
  header_facts h =
      let a = then_parts _ _ h in
      let b = then_parts _ _ a.1 in
      let c = then_parts _ _ b.1 in
      let d = then_parts _ _ c.1 in
      let p = and_parts _ _ (require_holds (within bs 8 4 && eqb (u32_at bs 8) 16) _ c.0) in
      let q = and_parts _ _ (require_holds (within bs 12 4 && eqb (u32_at bs 12) (node_offset (entity_count bs) 0)) _ d.0) in
      record {
        entities_within = require_holds _ _ a.0;
        nodes_within = require_holds _ _ b.0;
        list_within = p.0;
        start_within = q.0;
        long = leb-true _ _ q.0;
        list_at = eqb-true _ _ p.1;
        nodes_at = eqb-true _ _ q.1;
      }

  -- the entries are there, one for each entity
  pub length_entries : length (place_entries bs) ≡ entity_count bs
  length_entries = length-map-range_with_len (first_node bs) 0 (entity_count bs)

  -- the entry k of the list is what stands at its offset
  pub entry_is : (k : ℕ) → k < entity_count bs → first_at (place_entries bs) k ≡ first_node bs k
  entry_is k l = get_or-map-range_with_len (first_node bs) 0 (entity_count bs) k k 0 l (omega arith)

  -- what a passed place list says of the entry k
  pub record EntryGood (k : ℕ) : Type 0 where
    pub there : within bs (entry_offset k) 4 ≡ true
    pub rises : cond (eqb k 0) (eqb (first_node bs k) 0) (ltb (first_node bs (k - 1)) (first_node bs k)) ≡ true
    pub below : ltb (first_node bs k) (node_count bs) ≡ true

  module _ (lists : place_list bs (entity_count bs) (node_count bs) ≡ good) where
    -- a passed place list says it of every entry
    pub entry_good : (k : ℕ) → k < entity_count bs → EntryGood k
    entry_good k l =
        let h = each_parts (entry bs (node_count bs)) (entity_count bs) 0 lists k (omega arith) (omega arith) in
        let a = then_parts _ _ h in
        let b = then_parts _ _ a.1 in
        let c = then_parts _ _ b.1 in
        record { there = require_holds _ _ a.0; rises = require_holds _ _ b.0; below = require_holds _ _ c.0 }

    -- every entry is there
    pub entry_within : (k : ℕ) → k < entity_count bs → within bs (entry_offset k) 4 ≡ true
    entry_within k l = (entry_good k l).there

    -- every entry is sound
    pub entries_sound : broken_entry (node_count bs) (place_entries bs) ≡ None
    entries_sound =
        let n = length_entries in
        none_found (λ k. not (entry_sound (node_count bs) (place_entries bs) k)) (length (place_entries bs)) 0
        (λ k lo hi.
        let l : k < entity_count bs = omega arith in
        let g = entry_good k l in
        let e = entry_is k l in
        let d = entry_is (k - 1) (omega arith) in
        let r : cond (eqb k 0) (eqb (first_at (place_entries bs) k) 0) (ltb (first_at (place_entries bs) (k - 1)) (first_at (place_entries bs) k)) ≡ true =
        ap (λ v. cond (eqb k 0) (eqb v 0) (ltb (first_at (place_entries bs) (k - 1)) v)) e
        ∙ ap (λ v. cond (eqb k 0) (eqb (first_node bs k) 0) (ltb v (first_node bs k))) d
        ∙ g.rises in
        let b : ltb (first_at (place_entries bs) k) (node_count bs) ≡ true = ap (λ v. ltb v (node_count bs)) e ∙ g.below in
        not_from_true _ (and_from _ _ r b))

  module _ (nodes : nodes_there bs (entity_count bs) (node_count bs) ≡ good) where
    -- there is an entity for every node, and the node is there
    node_good : (j : ℕ) → j < node_count bs → (ltb 0 (entity_count bs) ≡ true) × (within bs (node_offset (entity_count bs) j) 24 ≡ true)
    node_good j l = and_parts _ _ (require_holds _ _ (each_parts (node_there bs (entity_count bs)) (node_count bs) 0 nodes j (omega arith) (omega arith)))

    -- every node is there
    pub node_within : (j : ℕ) → j < node_count bs → within bs (node_offset (entity_count bs) j) 24 ≡ true
    node_within j l = (node_good j l).1

    -- no entity, no node
    pub no_nodes : entity_count bs ≡ 0 → node_count bs ≡ 0
    no_nodes z =
        ⊎_elim
        (λ (l : 0 < node_count bs). absurd (omega (arith, ltb-true _ _ (node_good 0 l).0)))
        (λ (l : node_count bs ≤ 0). omega arith)
        (cases_lt 0 (node_count bs))

    -- the nodes, if any, end within the bytes
    nodes_end : 0 < node_count bs → node_offset (entity_count bs) (node_count bs) ≤ length bs
    nodes_end l = let h = leb-true _ _ (node_within (node_count bs - 1) (omega arith)) in omega arith

    -- all nodes that are announced are wholly there
    pub nodes_whole : whole_nodes bs ≡ node_count bs
    nodes_whole =
        ⊎_elim
        (λ (l : 0 < node_count bs). let h = nodes_end l in omega arith)
        (λ (l : node_count bs ≤ 0). omega arith)
        (cases_lt 0 (node_count bs))

    -- there is a node for each that is announced
    pub length_nodes : length (image_nodes bs) ≡ node_count bs
    length_nodes = length-map-range_with_len (image_node bs) 0 (whole_nodes bs) ∙ nodes_whole

    -- the node j of the list is what stands at its offset
    pub node_is : (j : ℕ) (z : Node) → j < node_count bs → get_or (image_nodes bs) j z ≡ image_node bs j
    node_is j z l = let w = nodes_whole in get_or-map-range_with_len (image_node bs) 0 (whole_nodes bs) j j z (omega arith) (omega arith)

    module _ (lists : place_list bs (entity_count bs) (node_count bs) ≡ good) where
      -- every entry is sound among the nodes that are there
      pub none_broken : broken_entry (length (image_nodes bs)) (place_entries bs) ≡ None
      none_broken = ap (λ v. broken_entry v (place_entries bs)) length_nodes ∙ entries_sound lists

      -- where there is an entity, the bytes reach to the end of the nodes
      pub all_there : 0 < entity_count bs → node_offset (entity_count bs) (node_count bs) ≤ length bs
      all_there e =
          ⊎_elim
          (λ (l : 0 < node_count bs). nodes_end l)
          (λ (l : node_count bs ≤ 0). let h = leb-true _ _ (entry_within lists (entity_count bs - 1) (omega arith)) in omega arith)
          (cases_lt 0 (node_count bs))

      -- the bytes of a whole image end with the nodes
      pub all_length : header bs ≡ good → ends bs (entity_count bs) (node_count bs) ≡ good → length bs ≡ node_offset (entity_count bs) (node_count bs)
      all_length h e =
          let g = leb-true _ _ (require_holds _ _ e) in
          let s = (header_facts h).long in
          ⊎_elim
          (λ (l : 0 < entity_count bs). let a = all_there l in omega arith)
          (λ (l : entity_count bs ≤ 0). let z = no_nodes (omega arith) in omega arith)
          (cases_lt 0 (entity_count bs))

-- a number from its bytes, the lowest first
abbrev pub number_of : List ℕ → ℕ
number_of [] = 0
number_of (x ∷ xs) = x + 256 * number_of xs

-- each is a byte
abbrev AllBytes : List ℕ → Type 0
AllBytes [] = Unit {0}
AllBytes (x ∷ xs) = (x < 256) × AllBytes xs

-- the bytes of the number that some bytes make are those bytes
low_number : (xs : List ℕ) → AllBytes xs → low_bytes (length xs) (number_of xs) ≡ xs
low_number [] h = refl
low_number (x ∷ xs) h =
    let l = h.0 in
    let m : (x + 256 * number_of xs) % 256 ≡ x = omega arith in
    let d : (x + 256 * number_of xs) / 256 ≡ number_of xs = omega arith in
    ap (λ v. v ∷ low_bytes (length xs) ((x + 256 * number_of xs) / 256)) m ∙ ap (λ v. x ∷ v) (ap (low_bytes (length xs)) d ∙ low_number xs h.1)

-- xs stands in bs from p up to q
record Stands (bs : List ℕ) (p : ℕ) (xs : List ℕ) (q : ℕ) : Type 0 where
  stands : drop p bs ≡ xs ++ drop q bs

-- what stands one after another stands as one
join : {bs : List ℕ} {p q r : ℕ} {xs ys : List ℕ} → Stands bs p xs q → Stands bs q ys r → Stands bs p (xs ++ ys) r
join {bs} {p} {q} {r} {xs} {ys} h k = record { stands = h.stands ∙ ap (λ v. xs ++ v) k.stands ∙ sym (append_assoc xs ys (drop r bs)) }

-- an equal list stands there too
equal_stands : {bs : List ℕ} {p q : ℕ} {xs : List ℕ} (ys : List ℕ) → Stands bs p xs q → ys ≡ xs → Stands bs p ys q
equal_stands {bs} {p} {q} ys h e = subst (λ v. Stands bs p v q) (sym e) h

module _ (bs : List ℕ) (small : (i : ℕ) → get_or bs i 0 < 256) where
  -- a byte stands where it is read
  byte_stands : (p q : ℕ) → q ≤ length bs → p + 1 ≡ q → Stands bs p (get_or bs p 0 ∷ []) q
  byte_stands p q l e = record { stands = drop_more bs p 0 (omega arith) ∙ ap (λ v. get_or bs p 0 ∷ drop v bs) e }

  -- the bytes of a u32 stand where it is read
  u32_stands : (p q : ℕ) → p + 4 ≡ q → q ≤ length bs → Stands bs p (low_bytes 4 (u32_at bs p)) q
  u32_stands p q e l =
      let xs = get_or bs p 0 ∷ get_or bs (p + 1) 0 ∷ get_or bs (p + 2) 0 ∷ get_or bs (p + 3) 0 ∷ [] in
      let s : AllBytes xs = (small p, (small (p + 1), (small (p + 2), (small (p + 3), tt)))) in
      let w : u32_at bs p ≡ number_of xs = omega arith in
      equal_stands (low_bytes 4 (u32_at bs p))
      (join (byte_stands p (p + 1) (omega arith) refl) (join (byte_stands (p + 1) (p + 2) (omega arith) (omega arith)) (join (byte_stands (p + 2) (p + 3) (omega arith) (omega arith)) (byte_stands (p + 3) q l (omega arith)))))
      (ap (low_bytes 4) w ∙ low_number xs s)

  -- what is read of four bytes fits a u32
  u32_small : (p : ℕ) → u32_at bs p < 2 ^ 32
  u32_small p = omega (arith, small p, small (p + 1), small (p + 2), small (p + 3))

  -- what is read of eight bytes fits a u64
  u64_fits : (p : ℕ) → Fits w64 (u64_at bs p)
  u64_fits p = record { fits = omega (arith, small p, small (p + 1), small (p + 2), small (p + 3), small (p + 4), small (p + 5), small (p + 6), small (p + 7)) }

  -- the bytes of an i64 stand where it is read
  i64_stands : (p q : ℕ) → p + 8 ≡ q → q ≤ length bs → Stands bs p (low_bytes 8 (of_z w64 (i64_at bs p))) q
  i64_stands p q e l =
      let xs = get_or bs p 0 ∷ get_or bs (p + 1) 0 ∷ get_or bs (p + 2) 0 ∷ get_or bs (p + 3) 0 ∷ get_or bs (p + 4) 0 ∷ get_or bs (p + 5) 0 ∷ get_or bs (p + 6) 0 ∷ get_or bs (p + 7) 0 ∷ [] in
      let s : AllBytes xs = (small p, (small (p + 1), (small (p + 2), (small (p + 3), (small (p + 4), (small (p + 5), (small (p + 6), (small (p + 7), tt)))))))) in
      let w : u64_at bs p ≡ number_of xs = omega arith in
      equal_stands (low_bytes 8 (of_z w64 (i64_at bs p)))
      (join (byte_stands p (p + 1) (omega arith) refl) (join (byte_stands (p + 1) (p + 2) (omega arith) (omega arith)) (join (byte_stands (p + 2) (p + 3) (omega arith) (omega arith)) (join (byte_stands (p + 3) (p + 4) (omega arith) (omega arith))
      (join (byte_stands (p + 4) (p + 5) (omega arith) (omega arith)) (join (byte_stands (p + 5) (p + 6) (omega arith) (omega arith)) (join (byte_stands (p + 6) (p + 7) (omega arith) (omega arith)) (byte_stands (p + 7) q l (omega arith)))))))))
      (ap (low_bytes 8) (of_z-to_z w64 (u64_at bs p) (u64_fits p) ∙ w) ∙ low_number xs s)

  -- the bytes of a node stand where it is read
  node_stands : (p q : ℕ) → p + 24 ≡ q → q ≤ length bs → Stands bs p (node_bytes (node_at bs p)) q
  node_stands p q e l =
      join (u32_stands p (p + 4) refl (omega arith)) (join (u32_stands (p + 4) (p + 8) (omega arith) (omega arith)) (join (u32_stands (p + 8) (p + 12) (omega arith) (omega arith)) (join (u32_stands (p + 12) (p + 16) (omega arith) (omega arith)) (i64_stands (p + 16) q (omega arith) l))))

  -- the parts of a node that is read fit their sizes
  pub node_fits : (p : ℕ) → FitsParts (node_at bs p)
  node_fits p = record { kind_fits = u32_small p; field_fits = u32_small (p + 4); a_fits = u32_small (p + 8); b_fits = u32_small (p + 12); number_fits = to_z-Fits w64 (u64_at bs (p + 16)) (u64_fits (p + 16)) }

-- pieces of one width, one after another
pieces_stand : {X : Type 0} (bs : List ℕ) (g : X → List ℕ) (f : ℕ → X) (at w most : ℕ) → ((k : ℕ) → k < most → Stands bs (at + k * w) (g (f k)) (at + (k + 1) * w))
    → (n i : ℕ) → i + n ≡ most → Stands bs (at + i * w) (joined g (map f (range_with_len i n))) (at + most * w)
pieces_stand bs g f at w most h zero i e = let z : i ≡ most = omega arith in record { stands = ap (λ v. drop (at + v * w) bs) z }
pieces_stand bs g f at w most h (suc n) i e = join (h i (omega arith)) (pieces_stand bs g f at w most h n (i + 1) (omega arith))

-- where every node fits, a list of them does
all_fit : (f : ℕ → Node) → ((j : ℕ) → FitsParts (f j)) → (n i : ℕ) → AllFitParts (map f (range_with_len i n))
all_fit f h zero i = tt
all_fit f h (suc n) i = (h i, all_fit f h n (i + 1))

-- the nodes of an image fit the sizes of their parts
pub nodes_fit : (bs : List ℕ) → ((i : ℕ) → get_or bs i 0 < 256) → AllFitParts (image_nodes bs)
nodes_fit bs small = all_fit (image_node bs) (λ j. node_fits bs small (node_offset (entity_count bs) j)) (whole_nodes bs) 0

-- the nodes and the entries of a whole image are written as its bytes
pub read_written : (bs : List ℕ) → ((i : ℕ) → get_or bs i 0 < 256) → header bs ≡ good → place_list bs (entity_count bs) (node_count bs) ≡ good
    → nodes_there bs (entity_count bs) (node_count bs) ≡ good → ends bs (entity_count bs) (node_count bs) ≡ good → written (image_nodes bs) (place_entries bs) ≡ bs
read_written bs small h lists nodes end =
    let head = header_facts bs h in
    let long : length bs ≡ node_offset (entity_count bs) (node_count bs) = all_length bs nodes lists h end in
    let n : length (place_entries bs) ≡ entity_count bs = length_entries bs in
    let m : length (image_nodes bs) ≡ node_count bs = length_nodes bs nodes in
    let e0 : low_bytes 4 (length (place_entries bs)) ≡ low_bytes 4 (u32_at bs 0) = ap (low_bytes 4) n in
    let e1 : low_bytes 4 (length (image_nodes bs)) ≡ low_bytes 4 (u32_at bs 4) = ap (low_bytes 4) m in
    let e2 : low_bytes 4 16 ≡ low_bytes 4 (u32_at bs 8) = ap (low_bytes 4) (sym head.list_at) in
    let e3 : low_bytes 4 (node_offset (length (place_entries bs)) 0) ≡ low_bytes 4 (u32_at bs 12) = ap (λ x. low_bytes 4 (node_offset x 0)) n ∙ ap (low_bytes 4) (sym head.nodes_at) in
    let e5 : joined node_bytes (image_nodes bs) ≡ joined node_bytes (map (image_node bs) (range_with_len 0 (node_count bs))) = ap (λ x. joined node_bytes (map (image_node bs) (range_with_len 0 x))) (nodes_whole bs nodes) in
    let s4 : Stands bs 16 (joined (low_bytes 4) (place_entries bs)) (16 + entity_count bs * 4) =
    pieces_stand bs (low_bytes 4) (first_node bs) 16 4 (entity_count bs) (λ k l. u32_stands bs small (16 + k * 4) (16 + (k + 1) * 4) (omega arith) (omega arith)) (entity_count bs) 0 (omega arith) in
    let s5 : Stands bs (16 + entity_count bs * 4 + 0 * 24) (joined node_bytes (map (image_node bs) (range_with_len 0 (node_count bs)))) (node_offset (entity_count bs) (node_count bs)) =
    pieces_stand bs node_bytes (image_node bs) (16 + entity_count bs * 4) 24 (node_count bs) (λ k l. node_stands bs small (node_offset (entity_count bs) k) (node_offset (entity_count bs) (k + 1)) (omega arith) (omega arith)) (node_count bs) 0 (omega arith) in
    let z : 16 + entity_count bs * 4 + 0 * 24 ≡ 16 + entity_count bs * 4 = omega arith in
    let s6 = subst (λ x. Stands bs x (joined node_bytes (map (image_node bs) (range_with_len 0 (node_count bs)))) (node_offset (entity_count bs) (node_count bs))) z s5 in
    let all : Stands bs 0 (written (image_nodes bs) (place_entries bs)) (node_offset (entity_count bs) (node_count bs)) =
    join (equal_stands _ (u32_stands bs small 0 4 refl (omega arith)) e0) (join (equal_stands _ (u32_stands bs small 4 8 refl (omega arith)) e1)
    (join (equal_stands _ (u32_stands bs small 8 12 refl (omega arith)) e2) (join (equal_stands _ (u32_stands bs small 12 16 refl head.long) e3)
    (join s4 (equal_stands _ s6 e5))))) in
    let d : drop (node_offset (entity_count bs) (node_count bs)) bs ≡ [] = drop_all (node_offset (entity_count bs) (node_count bs)) bs (omega arith) in
    sym (all.stands ∙ ap (λ x. written (image_nodes bs) (place_entries bs) ++ x) d ∙ append-nil (written (image_nodes bs) (place_entries bs)))
