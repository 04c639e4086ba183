-- Where the runs of an image lie, and what it answers.
use Rattle.std.proofs.Common.{◌≡◌, ℕ, suc, ◌+◌, ◌-◌, ◌<◌, ◌≤◌, List, [], ◌∷◌, ◌++◌, map, length, get_or, take, drop, set, Ok, Err, sym, refl, ap, ◌∙◌, subst, ⊎_elim, append_assoc, arith}
use Rattle.std.specs.List.{range_with_len}
use Rattle.std.proofs.lemmas.Bool.{cases_lt, lt-ltb, le-ltb, cond-true, cond-false}
use Rattle.std.proofs.lemmas.List.FromFn.{length-map-range_with_len, map-range_with_len_more}
use Rattle.std.proofs.lemmas.List.{append-nil, drop_all, drop_more, set_at}
use Rattle.model.specs.declared.node.Node.{Node}
use Rattle.model.specs.declared.fault.Refusal.TheVariants.{Limit}
use Rattle.model.specs.declared.fault.Layer.TheVariants.{Entity as entity_layer}
use Rattle.model.specs.Faults.{whole_call}
use Rattle.model.specs.Entities.{head_uid}
use Rattle.model.specs.Stores.{first_at, end_at, run_at, no_such_place, uid_answer, loaded, load_answer}
use Rattle.model.specs.Bytes.{u32_at}
use Rattle.model.specs.Kinds.{Known}
use Rattle.model.specs.Images.{entity_count, node_count, first_node, node_offset, image_node, whole_nodes, image_nodes, place_entries, image_entities}
use Rattle.laws.proofs.Counts.{part_map_counting}
use Rattle.laws.proofs.WholeRuns.{Sound, sound, entities_length, uid_there, uid_nowhere, load_there, load_nowhere}
use Rattle.laws.proofs.ReadBytes.{length_entries, entry_is, entries_sound, nodes_whole, length_nodes, node_is, all_length}
use Rattle.laws.proofs.NodeKinds.{kinds}
use Rattle.image.proofs.Parts.{u32_of_part}
use Rattle.laws.proofs.ImageRuns.{Imaged, filled}
use Rattle.image.specs.Faultless.{Faultless, end_node, RunOf, imaged}

module _ (bs : List ℕ) (s : Faultless bs) where
  i : Imaged bs
  i = imaged bs s

  -- the header, the place list and the nodes are there, and nothing more
  pub full : length bs ≡ node_offset (entity_count bs) (node_count bs)
  full = all_length bs i.noded i.listed i.headed i.ended

  -- as many entities as the header announces
  pub count_is : entity_count bs ≡ length (image_entities bs)
  count_is = sym (entities_length (image_nodes bs) (place_entries bs) i.whole ∙ length_entries bs)

  -- entries rise, and lie below the number of nodes
  entries : Sound (node_count bs) (place_entries bs)
  entries = sound (node_count bs) (place_entries bs) (entries_sound bs i.listed)

  first_below : (k : ℕ) → k < entity_count bs → first_node bs k < node_count bs
  first_below k l =
      let n = length_entries bs in
      let e = entry_is bs k l in
      let b = entries.below k (omega arith) in omega arith

  first_rises : (k : ℕ) → k + 1 < entity_count bs → first_node bs k < first_node bs (k + 1)
  first_rises k l =
      let n = length_entries bs in
      let e = entry_is bs k (omega arith) in
      let f = entry_is bs (k + 1) l in
      let r = entries.rises k (omega arith) in omega arith

  -- the end of the run k: the first node of the next, or the end of the nodes
  end_next : (k : ℕ) → k + 1 < entity_count bs → end_node bs k ≡ first_node bs (k + 1)
  end_next k l = cond-true _ (first_node bs (k + 1)) (node_count bs) (lt-ltb (k + 1) (entity_count bs) l)

  end_last : (k : ℕ) → entity_count bs ≤ k + 1 → end_node bs k ≡ node_count bs
  end_last k l = cond-false _ (first_node bs (k + 1)) (node_count bs) (le-ltb (k + 1) (entity_count bs) l)

  first_before : (k : ℕ) → k < entity_count bs → first_node bs k < end_node bs k
  first_before k l =
      ⊎_elim
      (λ (m : k + 1 < entity_count bs). let e = end_next k m in let r = first_rises k m in omega arith)
      (λ (m : entity_count bs ≤ k + 1). let e = end_last k m in let b = first_below k l in omega arith)
      (cases_lt (k + 1) (entity_count bs))

  end_within : (k : ℕ) → k < entity_count bs → end_node bs k ≤ node_count bs
  end_within k l =
      ⊎_elim
      (λ (m : k + 1 < entity_count bs). let e = end_next k m in let b = first_below (k + 1) m in omega arith)
      (λ (m : entity_count bs ≤ k + 1). let e = end_last k m in omega arith)
      (cases_lt (k + 1) (entity_count bs))

  -- the run at a place that there is
  pub run_of : (k first end : ℕ) → k < entity_count bs → first ≡ first_node bs k → end ≡ end_node bs k → RunOf bs k first end
  run_of k first end l e f =
      let b = first_before k l in
      let w = end_within k l in
      record { there = l; from = e; to = f; some = omega arith; within = omega arith }

  -- the end of the run k, by the entries
  end_is : (k : ℕ) → k < entity_count bs → end_at (length (image_nodes bs)) (place_entries bs) k ≡ end_node bs k
  end_is k l =
      let n = length_entries bs in
      let v = length_nodes bs i.noded in
      ⊎_elim
      (λ (m : k + 1 < entity_count bs).
      cond-true _ (first_at (place_entries bs) (k + 1)) (length (image_nodes bs)) (lt-ltb (k + 1) (length (place_entries bs)) (omega arith))
      ∙ (entry_is bs (k + 1) m ∙ sym (end_next k m)))
      (λ (m : entity_count bs ≤ k + 1).
      cond-false _ (first_at (place_entries bs) (k + 1)) (length (image_nodes bs)) (le-ltb (k + 1) (length (place_entries bs)) (omega arith))
      ∙ (v ∙ sym (end_last k m)))
      (cases_lt (k + 1) (entity_count bs))

  -- the run k has the nodes from its first to its end
  run_is : (k : ℕ) → k < entity_count bs → run_at (image_nodes bs) (place_entries bs) k ≡ map (image_node bs) (range_with_len (first_node bs k) (end_node bs k - first_node bs k))
  run_is k l =
      let w = nodes_whole bs i.noded in
      let b = first_before k l in
      let t = end_within k l in
      ap (λ n. take (n - first_at (place_entries bs) k) (drop (first_at (place_entries bs) k) (image_nodes bs))) (end_is k l)
      ∙ (ap (λ f. take (end_node bs k - f) (drop f (image_nodes bs))) (entry_is bs k l)
      ∙ part_map_counting (image_node bs) (first_node bs k) (end_node bs k - first_node bs k) (whole_nodes bs) (omega arith))

  -- the uid of the run k is that of its first node
  uid_is : (k : ℕ) → k < entity_count bs → head_uid (run_at (image_nodes bs) (place_entries bs) k) ≡ ((image_node bs (first_node bs k)).a, (image_node bs (first_node bs k)).b)
  uid_is k l =
      let b = first_before k l in
      let n : end_node bs k - first_node bs k ≡ suc (end_node bs k - first_node bs k - 1) = omega arith in
      ap head_uid (run_is k l ∙ ap (λ m. map (image_node bs) (range_with_len (first_node bs k) m)) n)

  -- the node j is of a kind that there is
  pub kind_known : (j offset : ℕ) (bytes : List ℕ) → j < node_count bs → offset ≡ node_offset (entity_count bs) j → bytes ≡ take 24 (drop offset bs) → Known (u32_at bytes 0)
  kind_known j offset bytes l o b =
      let n = length_nodes bs i.noded in
      let k = kinds (image_nodes bs) (place_entries bs) (filled i) j (image_node bs 0) (omega arith) in
      let is : (get_or (image_nodes bs) j (image_node bs 0)).kind ≡ u32_at bs offset = ap (λ (v : Node). v.kind) (node_is bs i.noded j (image_node bs 0) l) ∙ ap (u32_at bs) (sym o) in
      let at : u32_at (take 24 (drop offset bs)) 0 ≡ u32_at bs offset = u32_of_part bs 24 offset 0 (omega arith) ∙ ap (u32_at bs) (omega arith) in
      subst Known (is ∙ sym (ap (λ v. u32_at v 0) b ∙ at)) k

  -- the answers of the image

  pub uid_told_is : (k first end : ℕ) (n : Node) → RunOf bs k first end → n ≡ image_node bs first → Ok (n.a, n.b) ≡ uid_answer (image_entities bs) k
  uid_told_is k first end n r e =
      let m = length_entries bs in
      let l = r.there in
      uid_there (image_nodes bs) (place_entries bs) i.whole k (n.a, n.b) (omega arith) (ap (λ (v : Node). (v.a, v.b)) (e ∙ ap (image_node bs) r.from) ∙ sym (uid_is k l))

  pub uid_missing : (k : ℕ) → entity_count bs ≤ k → Err no_such_place ≡ uid_answer (image_entities bs) k
  uid_missing k l = let m = length_entries bs in uid_nowhere (image_nodes bs) (place_entries bs) i.whole k (omega arith)

  pub load_missing : (k : ℕ) (buffer : List Node) → entity_count bs ≤ k → load_answer (image_entities bs) k buffer ≡ (Err no_such_place, buffer)
  load_missing k buffer l = let m = length_entries bs in load_nowhere (image_nodes bs) (place_entries bs) i.whole k buffer (omega arith)

  -- a run that is there, by its nodes
  module _ (k first end : ℕ) (buffer : List Node) (r : RunOf bs k first end) where
    nodes_of_run : List Node
    nodes_of_run = map (image_node bs) (range_with_len first (end - first))

    run_long : length nodes_of_run ≡ end - first
    unfolding nodes_of_run
    run_long = length-map-range_with_len (image_node bs) first (end - first)

    load_is : load_answer (image_entities bs) k buffer ≡ loaded nodes_of_run buffer
    unfolding nodes_of_run
    load_is =
        let m = length_entries bs in
        let l = r.there in
        load_there (image_nodes bs) (place_entries bs) i.whole k buffer (omega arith)
        ∙ ap (λ run. loaded run buffer) (run_is k l
        ∙ (ap (λ v. map (image_node bs) (range_with_len v (end_node bs k - v))) (sym r.from) ∙ ap (λ v. map (image_node bs) (range_with_len first (v - first))) (sym r.to)))

    pub load_short : length buffer < end - first → load_answer (image_entities bs) k buffer ≡ (Err (whole_call Limit entity_layer), buffer)
    load_short h = let n = run_long in load_is ∙ cond-true _ _ _ (lt-ltb (length buffer) (length nodes_of_run) (omega arith))

    pub load_full : end - first ≤ length buffer → load_answer (image_entities bs) k buffer ≡ (Ok (end - first), map (image_node bs) (range_with_len first (end - first)) ++ drop (end - first) buffer)
    unfolding nodes_of_run
    load_full h =
        let n = run_long in
        load_is
        ∙ (cond-false _ _ _ (le-ltb (length buffer) (length nodes_of_run) (omega arith))
        ∙ ap (λ v. (Ok v, map (image_node bs) (range_with_len first (end - first)) ++ drop v buffer)) n)

-- one more node at its place in the buffer
pub copy_more : (f : ℕ → Node) (a i : ℕ) (x d : Node) (b out : List Node) → i < length b → x ≡ f (a + i) → out ≡ map f (range_with_len a i) ++ drop i b
    → set out i x ≡ map f (range_with_len a (i + 1)) ++ drop (i + 1) b
copy_more f a i x d b out h e q =
    let t = drop_more b i d h in
    let n = length-map-range_with_len f a i in
    let m = map-range_with_len_more f a i (a + i) refl in
    ap (λ v. set v i x) (q ∙ ap (λ v. map f (range_with_len a i) ++ v) t)
    ∙ set_at (map f (range_with_len a i)) (get_or b i d) (drop (i + 1) b) x i n
    ∙ ap (λ v. map f (range_with_len a i) ++ v ∷ drop (i + 1) b) e
    ∙ sym (append_assoc (map f (range_with_len a i)) (f (a + i) ∷ []) (drop (i + 1) b))
    ∙ ap (λ v. v ++ drop (i + 1) b) (sym m)

-- every node at its place
pub copy_all : (f : ℕ → Node) (a n m : ℕ) (b out : List Node) → length b ≤ n → n ≡ m → out ≡ map f (range_with_len a n) ++ drop n b → out ≡ map f (range_with_len a m)
copy_all f a n m b out l e q =
    q ∙ (ap (λ v. map f (range_with_len a n) ++ v) (drop_all n b l) ∙ (append-nil (map f (range_with_len a n)) ∙ ap (λ k. map f (range_with_len a k)) e))
