-- Whole nodes are exactly the runs of a list that fits, in turn.
use Rattle.std.proofs.Common.{◌≡◌, ℕ, zero, suc, ◌+◌, ◌-◌, ◌<◌, ◌≤◌, true, cond, ltb, List, [], ◌∷◌, ◌++◌, length, get_or, take, drop, Ok, Result, sym, refl, ap, ◌∙◌, subst, ⊎_elim, append_assoc, arith}
use Rattle.std.proofs.lemmas.Bool.{cases_lt, lt-ltb, le-ltb, cond-true, cond-false}
use Rattle.std.proofs.lemmas.List.{length-append, length-take-le, length-drop, take-append-drop, drop-drop, drop_all, drop_more, get_or_at, get_or-append-add, take_at, drop_at, length_push}
use Rattle.model.specs.declared.node.Node.{Node}
use Rattle.model.specs.Slots.{uid_below}
use Rattle.model.specs.Reading.{Refused}
use Rattle.model.specs.Entities.{Entity, FormedEntity, entity_run, read_entity, head_uid}
use Rattle.model.specs.Stores.{AllFormed, UidsAscend, first_at, end_at, run_at, collected, entity_if_read, entities_of}
use Rattle.model.specs.Images.{entity_runs, first_nodes}
use Rattle.model.specs.Fitting.{Storable}
use Rattle.laws.specs.TableLaws.{TablesRead}
use Rattle.laws.proofs.EntityRuns.{entities_read}
use Rattle.laws.proofs.WholeRuns.{sound, sound_entries, Whole, Filled, listed_more, entities_lawful, table_filled, filled_table}

-- The runs of whole nodes adjoin, and cover all of them.
module _ (nodes : List Node) (fs : List ℕ) (f : Filled nodes fs) where
  w : Whole nodes fs
  w = f.whole

  -- where the run i begins, and where the last ends
  abbrev bound : ℕ → ℕ
  bound i = cond (ltb i (length fs)) (first_at fs i) (length nodes)

  -- what the runs give, from the run i on
  abbrev listed : ℕ → ℕ → List Entity
  listed m i = collected (λ k. entity_if_read (read_entity (run_at nodes fs k))) m i

  -- a bound is an entry, where there is one
  begins : (i : ℕ) → i < length fs → bound i ≡ first_at fs i
  begins i l = cond-true _ _ _ (lt-ltb i (length fs) l)

  -- and else the end of the nodes
  ends : (i : ℕ) → length fs ≤ i → bound i ≡ length nodes
  ends i l = cond-false _ _ _ (le-ltb i (length fs) l)

  -- a run is not empty, and lies within the nodes
  bounds : (i : ℕ) → i < length fs → (first_at fs i < bound (i + 1)) × (bound (i + 1) ≤ length nodes)
  bounds i l =
      let s = sound (length nodes) fs w.entries in
      let b = s.below i l in
      ⊎_elim
      (λ (q : i + 1 < length fs). let e = begins (i + 1) q in let r = s.rises i q in let b' = s.below (i + 1) q in (omega arith, omega arith))
      (λ (q : length fs ≤ i + 1). let e = ends (i + 1) q in (omega arith, omega arith))
      (cases_lt (i + 1) (length fs))

  -- the length of a run
  run_length : (i : ℕ) → i < length fs → first_at fs i + length (run_at nodes fs i) ≡ bound (i + 1)
  run_length i l =
      let b = bounds i l in
      let d = length-drop (first_at fs i) nodes in
      let n : length (run_at nodes fs i) ≡ bound (i + 1) - first_at fs i = length-take-le (bound (i + 1) - first_at fs i) (drop (first_at fs i) nodes) (omega arith) in
      omega arith

  -- a run and what follows it
  run_split : (i : ℕ) → i < length fs → run_at nodes fs i ++ drop (bound (i + 1)) nodes ≡ drop (first_at fs i) nodes
  run_split i l =
      let b = bounds i l in
      let f : ℕ = first_at fs i in
      let n : ℕ = bound (i + 1) - f in
      let e : f + n ≡ bound (i + 1) = omega arith in
      ap (λ ns. run_at nodes fs i ++ ns) (ap (λ j. drop j nodes) (sym e) ∙ sym (drop-drop n f nodes)) ∙ take-append-drop n (drop f nodes)

  -- the runs from i on are all nodes from there on
  runs_from : (m i : ℕ) → i + m ≡ length fs → entity_runs (listed m i) ≡ drop (bound i) nodes
  runs_from zero i h = sym (drop_all (bound i) nodes (let e = ends i (omega arith) in omega arith))
  runs_from (suc m) i h =
      let l : i < length fs = omega arith in
      let p = w.reads i l in
      ap entity_runs (listed_more (λ k. read_entity (run_at nodes fs k)) m i p.0 p.1)
      ∙ ((λ j. (entities_read.only (run_at nodes fs i) p.0 p.1).1 j ++ runs_from m (i + 1) (omega arith) j)
      ∙ (run_split i l ∙ ap (λ b. drop b nodes) (sym (begins i l))))

  -- and begin at the entries from i on
  firsts_from : (m i : ℕ) → i + m ≡ length fs → first_nodes (bound i) (listed m i) ≡ drop i fs
  firsts_from zero i h = sym (drop_all i fs (omega arith))
  firsts_from (suc m) i h =
      let l : i < length fs = omega arith in
      let p = w.reads i l in
      let b = begins i l in
      let n = run_length i l in
      let r = ap length (entities_read.only (run_at nodes fs i) p.0 p.1).1 in
      let e : bound i + length (entity_run p.0) ≡ bound (i + 1) = omega arith in
      ap (first_nodes (bound i)) (listed_more (λ k. read_entity (run_at nodes fs k)) m i p.0 p.1)
      ∙ ((λ j. b j ∷ first_nodes (e j) (listed m (i + 1)))
      ∙ (ap (λ x. first_at fs i ∷ x) (firsts_from m (i + 1) (omega arith)) ∙ sym (drop_more fs i 0 l)))

  -- the first run begins at 0
  begins_first : bound 0 ≡ 0
  begins_first =
      ⊎_elim
      (λ (q : 0 < length fs). begins 0 q ∙ (sound (length nodes) fs w.entries).starts q)
      (λ (q : length fs ≤ 0). ends 0 q ∙ f.bare (omega arith))
      (cases_lt 0 (length fs))

  -- the runs are all nodes, and begin at the entries
  pub covers : (entity_runs (entities_of nodes fs) ≡ nodes) × (first_nodes 0 (entities_of nodes fs) ≡ fs)
  covers = (
    runs_from (length fs) 0 (omega arith) ∙ ap (λ b. drop b nodes) begins_first,
    ap (λ b. first_nodes b (entities_of nodes fs)) (sym begins_first) ∙ firsts_from (length fs) 0 (omega arith),
  )

-- Lists of entities as nodes with first nodes

-- there are as many first nodes as entities
pub first_nodes_length : (p : ℕ) (es : List Entity) → length (first_nodes p es) ≡ length es
first_nodes_length p [] = refl
first_nodes_length p (e ∷ es) = ap suc (first_nodes_length (p + length (entity_run e)) es)

-- the runs of two lists in turn
pub runs_append : (es ds : List Entity) → entity_runs (es ++ ds) ≡ entity_runs es ++ entity_runs ds
runs_append [] ds = refl
runs_append (e ∷ es) ds = ap (λ ns. entity_run e ++ ns) (runs_append es ds) ∙ sym (append_assoc (entity_run e) (entity_runs es) (entity_runs ds))

-- and where they begin
pub firsts_append : (p : ℕ) (es ds : List Entity) → first_nodes p (es ++ ds) ≡ first_nodes p es ++ first_nodes (p + length (entity_runs es)) ds
firsts_append p [] ds = let e : p ≡ p + 0 = omega arith in ap (λ q. first_nodes q ds) e
firsts_append p (e ∷ es) ds =
    let n = length-append (entity_run e) (entity_runs es) in
    let q : p + length (entity_run e) + length (entity_runs es) ≡ p + length (entity_runs (e ∷ es)) = omega arith in
    ap (λ ns. p ∷ ns) (firsts_append (p + length (entity_run e)) es ds ∙ ap (λ r. first_nodes (p + length (entity_run e)) es ++ first_nodes r ds) q)

-- the entity e between those in front of it and those behind it
module _ (front : List Entity) (e : Entity) (back : List Entity) where
  -- all of them
  abbrev in_turn : List Entity
  in_turn = front ++ (e ∷ back)

  -- where its run begins
  abbrev origin : ℕ
  origin = length (entity_runs front)

  -- its run between theirs
  runs_cut : entity_runs in_turn ≡ entity_runs front ++ (entity_run e ++ entity_runs back)
  runs_cut = runs_append front (e ∷ back)

  -- its first node between theirs
  firsts_cut : first_nodes 0 in_turn ≡ first_nodes 0 front ++ (origin ∷ first_nodes (origin + length (entity_run e)) back)
  firsts_cut =
      let n : 0 + origin ≡ origin = omega arith in
      firsts_append 0 front (e ∷ back) ∙ ap (λ q. first_nodes 0 front ++ first_nodes q (e ∷ back)) n

  -- the entry at its place says where its run begins
  begins_there : first_at (first_nodes 0 in_turn) (length front) ≡ origin
  begins_there = ap (λ fs. first_at fs (length front)) firsts_cut ∙ get_or_at (first_nodes 0 front) origin _ 0 (length front) (first_nodes_length 0 front)

  -- how many nodes there are
  runs_long : length (entity_runs in_turn) ≡ origin + (length (entity_run e) + length (entity_runs back))
  runs_long = ap length runs_cut ∙ (length-append (entity_runs front) (entity_run e ++ entity_runs back) ∙ ap (λ n. origin + n) (length-append (entity_run e) (entity_runs back)))

-- where its run ends
ends_there : (front : List Entity) (e : Entity) (back : List Entity) → end_at (length (entity_runs (front ++ (e ∷ back)))) (first_nodes 0 (front ++ (e ∷ back))) (length front) ≡ length (entity_runs front) + length (entity_run e)
ends_there front e [] =
    let n = first_nodes_length 0 (front ++ (e ∷ [])) in
    let m = length-append front (e ∷ []) in
    let v = runs_long front e [] in
    cond-false _ _ _ (le-ltb (length front + 1) (length (first_nodes 0 (front ++ (e ∷ [])))) (omega arith)) ∙ omega arith
ends_there front e (d ∷ ds) =
    let fs : List ℕ = first_nodes 0 (front ++ (e ∷ (d ∷ ds))) in
    let q : ℕ = length (entity_runs front) in
    let n = first_nodes_length 0 (front ++ (e ∷ (d ∷ ds))) in
    let m = length-append front (e ∷ (d ∷ ds)) in
    let k : length front + 1 ≡ length (first_nodes 0 front) + 1 = ap (λ x. x + 1) (sym (first_nodes_length 0 front)) in
    cond-true _ _ _ (lt-ltb (length front + 1) (length fs) (omega arith))
    ∙ ((λ i. get_or (firsts_cut front e (d ∷ ds) i) (k i) 0)
    ∙ get_or-append-add (first_nodes 0 front) (q ∷ first_nodes (q + length (entity_run e)) (d ∷ ds)) 1 0)

-- the run at its place is its run
run_there : (front : List Entity) (e : Entity) (back : List Entity) → run_at (entity_runs (front ++ (e ∷ back))) (first_nodes 0 (front ++ (e ∷ back))) (length front) ≡ entity_run e
run_there front e back =
    let q : ℕ = length (entity_runs front) in
    let n : q + length (entity_run e) - q ≡ length (entity_run e) = omega arith in
    (λ i. take (ends_there front e back i - begins_there front e back i) (drop (begins_there front e back i) (runs_cut front e back i)))
    ∙ (ap (λ ns. take (q + length (entity_run e) - q) ns) (drop_at (entity_runs front) (entity_run e ++ entity_runs back) q refl)
    ∙ take_at (entity_run e) (entity_runs back) (q + length (entity_run e) - q) (sym n))

-- each entity of a list within the limits is
formed_there : (front : List Entity) (e : Entity) (back : List Entity) → AllFormed (front ++ (e ∷ back)) → FormedEntity e
formed_there [] e back h = h.0
formed_there (d ∷ front) e back h = formed_there front e back h.1

-- behind the first of ascending uids they ascend
ascends_behind : (e : Entity) (es : List Entity) → UidsAscend (e ∷ es) → UidsAscend es
ascends_behind e [] h = tt
ascends_behind e (d ∷ ds) h = h.1

-- of two entities side by side the first has the lesser uid
ascends_there : (front : List Entity) (d e : Entity) (back : List Entity) → UidsAscend (front ++ (d ∷ (e ∷ back))) → uid_below d.uid e.uid ≡ true
ascends_there [] d e back h = h.0
ascends_there (c ∷ front) d e back h = ascends_there front d e back (ascends_behind c _ h)

-- a list cut at a place
record Cut (es : List Entity) (k : ℕ) : Type 0 where
  front : List Entity
  at : Entity
  back : List Entity
  is : es ≡ front ++ (at ∷ back)
  long : length front ≡ k

-- each place below the length cuts it
cut : (es : List Entity) (k : ℕ) → k < length es → Cut es k
cut [] k l = absurd (omega arith)
cut (e ∷ es) zero l = record { front = []; at = e; back = es; is = refl; long = refl }
cut (e ∷ es) (suc k) l =
    let c = cut es k (omega arith) in
    record { front = e ∷ c.front; at = c.at; back = c.back; is = ap (λ x. e ∷ x) c.is; long = ap suc c.long }

-- the runs of a list, each at its place
module _ (es : List Entity) where
  -- the run at a place
  abbrev run_of_place : ℕ → List Node
  run_of_place k = run_at (entity_runs es) (first_nodes 0 es) k

  -- it is that of the entity there
  run_at_cut : {k : ℕ} (c : Cut es k) → run_of_place k ≡ entity_run c.at
  run_at_cut {k} c = (λ i. run_at (entity_runs (c.is i)) (first_nodes 0 (c.is i)) (sym c.long i)) ∙ run_there c.front c.at c.back

  -- it begins behind the runs in front
  first_at_cut : {k : ℕ} (c : Cut es k) → first_at (first_nodes 0 es) k ≡ length (entity_runs c.front)
  first_at_cut {k} c = (λ i. first_at (first_nodes 0 (c.is i)) (sym c.long i)) ∙ begins_there c.front c.at c.back

  -- how many nodes there are
  runs_long_cut : {k : ℕ} (c : Cut es k) → length (entity_runs es) ≡ length (entity_runs c.front) + (length (entity_run c.at) + length (entity_runs c.back))
  runs_long_cut {k} c = ap (λ x. length (entity_runs x)) c.is ∙ runs_long c.front c.at c.back

  -- the entity there is within the limits
  formed_cut : {k : ℕ} (c : Cut es k) → AllFormed es → FormedEntity c.at
  formed_cut {k} c h = formed_there c.front c.at c.back (subst AllFormed c.is h)

  -- and is read from its run
  reads_cut : {k : ℕ} (c : Cut es k) → AllFormed es → read_entity (run_of_place k) ≡ Ok c.at
  reads_cut {k} c h = ap read_entity (run_at_cut c) ∙ entities_read.every c.at (formed_cut c h)

-- a list cut at a place that is not the last
record Two (es : List Entity) (k : ℕ) : Type 0 where
  front : List Entity
  first : Entity
  second : Entity
  back : List Entity
  is : es ≡ front ++ (first ∷ (second ∷ back))
  long : length front ≡ k

-- each place before the last cuts it so
two : (es : List Entity) (k : ℕ) → k + 1 < length es → Two es k
two [] k l = absurd (omega arith)
two (d ∷ []) k l = absurd (omega arith)
two (d ∷ (e ∷ es)) zero l = record { front = []; first = d; second = e; back = es; is = refl; long = refl }
two (d ∷ (e ∷ es)) (suc k) l =
    let c = two (e ∷ es) k (omega arith) in
    record { front = d ∷ c.front; first = c.first; second = c.second; back = c.back; is = ap (λ x. d ∷ x) c.is; long = ap suc c.long }

-- the cut at the place
abbrev cut_first : {es : List Entity} {k : ℕ} → Two es k → Cut es k
cut_first t = record { front = t.front; at = t.first; back = t.second ∷ t.back; is = t.is; long = t.long }

-- the cut at the next
abbrev cut_second : {es : List Entity} {k : ℕ} → Two es k → Cut es (k + 1)
cut_second t = record {
  front = t.front ++ (t.first ∷ []);
  at = t.second;
  back = t.back;
  is = t.is ∙ sym (append_assoc t.front (t.first ∷ []) (t.second ∷ t.back));
  long = length_push t.front t.first ∙ ap (λ n. n + 1) t.long;
}

-- each first node is one of the nodes
pub first_nodes_below : (es : List Entity) → Storable es → (k : ℕ) → k < length es → first_at (first_nodes 0 es) k < length (entity_runs es)
first_nodes_below es s k l =
    let c = cut es k l in
    let f = first_at_cut es c in
    let n = runs_long_cut es c in
    let r : 1 ≤ length (entity_run c.at) = omega arith in
    omega arith

-- the first of them is 0
starts_there : (es : List Entity) → first_at (first_nodes 0 es) 0 ≡ 0
starts_there [] = refl
starts_there (e ∷ es) = refl

-- and each is below the next
pub rises_there : (es : List Entity) (k : ℕ) → k + 1 < length es → first_at (first_nodes 0 es) k < first_at (first_nodes 0 es) (k + 1)
rises_there es k l =
    let t = two es k l in
    let f = first_at_cut es (cut_first t) in
    let g = first_at_cut es (cut_second t) in
    let n = ap length (runs_append t.front (t.first ∷ [])) in
    let m = length-append (entity_runs t.front) (entity_run t.first ++ []) in
    let o = length-append (entity_run t.first) [] in
    let r : 1 ≤ length (entity_run t.first) = omega arith in
    omega arith

-- without entities there are no nodes
none_bare : (es : List Entity) → length es ≡ 0 → length (entity_runs es) ≡ 0
none_bare [] h = refl
none_bare (e ∷ es) h = absurd (omega arith)

-- the runs of a list that fits are whole
pub stands : (es : List Entity) → Storable es → Filled (entity_runs es) (first_nodes 0 es)
stands es s =
    let n = first_nodes_length 0 es in
    let formed = s.lawful.formed in
    let whole : Whole (entity_runs es) (first_nodes 0 es) = record {
      entries = sound_entries (length (entity_runs es)) (first_nodes 0 es) (record {
        starts = λ l. starts_there es;
        below = λ k l. first_nodes_below es s k (omega arith);
        rises = λ k l. rises_there es k (omega arith);
      });
      few = let f = s.lawful.few in omega arith;
      many = s.many;
      reads = λ k l. let c = cut es k (omega arith) in (c.at, reads_cut es c formed);
      ascends = λ k l.
          let t = two es k (omega arith) in
          (λ i. uid_below (head_uid (run_at_cut es (cut_first t) i)) (head_uid (run_at_cut es (cut_second t) i)))
          ∙ ascends_there t.front t.first t.second t.back (subst UidsAscend t.is s.lawful.ascending);
    } in
    record { whole = whole; bare = λ h. none_bare es (omega arith) }

-- what is read at the places of a list, in turn, is that list
listed_back : (read : ℕ → Result Entity Refused) (es front back : List Entity) → ((k : ℕ) (c : Cut es k) → read k ≡ Ok c.at) → es ≡ front ++ back → collected (λ k. entity_if_read (read k)) (length back) (length front) ≡ back
listed_back read es front [] h is = refl
listed_back read es front (e ∷ back) h is =
    listed_more read (length back) (length front) e (h (length front) (record { front = front; at = e; back = back; is = is; long = refl }))
    ∙ ap (λ x. e ∷ x) (ap (collected (λ k. entity_if_read (read k)) (length back)) (sym (length_push front e)) ∙ listed_back read es (front ++ (e ∷ [])) back h (is ∙ sym (append_assoc front (e ∷ []) back)))

-- the runs of a list that fits mean that list
pub read_back : (es : List Entity) → Storable es → entities_of (entity_runs es) (first_nodes 0 es) ≡ es
read_back es s =
    ap (λ n. collected (λ k. entity_if_read (read_entity (run_at (entity_runs es) (first_nodes 0 es) k))) n 0) (first_nodes_length 0 es)
    ∙ listed_back (λ k. read_entity (run_at (entity_runs es) (first_nodes 0 es) k)) es [] es (λ k c. reads_cut es c s.lawful.formed) refl

-- the entities of whole nodes fit
pub filled_storable : (nodes : List Node) (fs : List ℕ) → Filled nodes fs → Storable (entities_of nodes fs)
filled_storable nodes fs f = record {
  lawful = entities_lawful nodes fs f.whole;
  many = subst (λ ns. length ns ≤ 65536) (sym (covers nodes fs f).0) f.whole.many;
}

-- the theorem on tables
pub tables_read : TablesRead
tables_read = record {
  every = λ es s. (filled_table (entity_runs es) (first_nodes 0 es) (stands es s), read_back es s);
  only = λ nodes fs h. let f = table_filled nodes fs h in let c = covers nodes fs f in (filled_storable nodes fs f, c.0, c.1);
}
