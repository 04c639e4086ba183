-- What holds of bytes of which no fault is found: they are the image of a list that fits, and mean that list.
use Rattle.std.proofs.Common.{◌≡◌, ℕ, ◌<◌, ◌≤◌, List, [], ◌∷◌, ◌++◌, length, get_or, None, Ok, Err, Option, sym, refl, ap, ◌∙◌, subst, arith}
use Rattle.std.proofs.lemmas.Bool.{leb-true}
use Rattle.model.specs.declared.node.Node.{Node}
use Rattle.model.specs.declared.fault.Fault.{Fault}
use Rattle.model.specs.Checks.{Checked, good, then}
use Rattle.model.specs.Faults.{least}
use Rattle.model.specs.Entities.{Entity, entity_run}
use Rattle.model.specs.Stores.{AllFitParts, RunsFitParts, run_faults, entities_of}
use Rattle.model.specs.Images.{entity_count, node_count, header, place_list, nodes_there, ends, counts, image_nodes, place_entries, at_offset, fault_of, node_faults, unless_broken, image_fault, image_entities, image_of, entity_runs, first_nodes, node_offset, low_bytes, node_bytes, joined}
use Rattle.model.specs.Fitting.{Storable}
use Rattle.laws.proofs.Written.{written}
use Rattle.laws.specs.ImageLaws.{ImagesRead}
use Rattle.laws.proofs.ChecksPass.{require_holds, then_parts, then_passes}
use Rattle.laws.proofs.WholeRuns.{Whole, Filled, no_least, none_of_two, runs_whole, whole_runs}
use Rattle.laws.proofs.TableRuns.{covers, first_nodes_length, first_nodes_below, stands, read_back, filled_storable}
use Rattle.laws.proofs.ReadBytes.{length_entries, length_nodes, no_nodes, none_broken, nodes_fit, read_written}
use Rattle.laws.proofs.WrittenBytes.{bytes_below, Writable, header_back, entries_back, nodes_back, nodes_there_back, ends_back, counts_back, place_list_back}

-- bytes of which no fault is found
pub record Imaged (bs : List ℕ) : Type 0 where
  pub headed : header bs ≡ good
  pub listed : place_list bs (entity_count bs) (node_count bs) ≡ good
  pub noded : nodes_there bs (entity_count bs) (node_count bs) ≡ good
  pub ended : ends bs (entity_count bs) (node_count bs) ≡ good
  pub whole : Whole (image_nodes bs) (place_entries bs)
  pub bare : length (place_entries bs) ≡ 0 → length (image_nodes bs) ≡ 0

-- so none lies in front of the first run
pub filled : {bs : List ℕ} → Imaged bs → Filled (image_nodes bs) (place_entries bs)
filled i = record { whole = i.whole; bare = i.bare }

-- a check that found nothing passed, and one that passed found nothing
fault_none : (o : Checked) → fault_of o ≡ [] → o ≡ good
fault_none (Ok u) h = refl
fault_none (Err f) h = let z : ◌≡◌ {A = ℕ} 0 1 = cc in absurd (omega arith)

none_fault : (o : Checked) → o ≡ good → fault_of o ≡ []
none_fault o h = ap fault_of h

broken_none : (o : Checked) (rest : Option Fault) → unless_broken o rest ≡ None → (o ≡ good) × (rest ≡ None)
broken_none (Ok u) rest h = (refl, h)
broken_none (Err f) rest h = let z : ◌≡◌ {A = ℕ} 0 1 = cc in absurd (omega arith)

-- no fault is found
pub image_whole : (bs : List ℕ) → image_fault bs ≡ None → Imaged bs
image_whole bs h =
    let e = entity_count bs in
    let v = node_count bs in
    let a = broken_none (then (header bs) (place_list bs e v)) (least (node_faults bs)) h in
    let b = then_parts (header bs) (place_list bs e v) a.0 in
    let c = none_of_two (fault_of (nodes_there bs e v)) _ (no_least (node_faults bs) a.1) in
    let d = none_of_two (fault_of (ends bs e v)) _ c.1 in
    let f = none_of_two (fault_of (counts e v)) (run_faults (at_offset bs) (image_nodes bs) (place_entries bs)) d.1 in
    let g = then_parts _ _ (fault_none (counts e v) f.0) in
    let there = fault_none (nodes_there bs e v) c.0 in
    let few : e ≤ 1024 = leb-true _ _ (require_holds _ _ g.0) in
    let many : v ≤ 65536 = leb-true _ _ (require_holds _ _ (then_parts _ _ g.1).0) in
    let es = length_entries bs in
    let vs = length_nodes bs there in
    record {
      headed = b.0;
      listed = b.1;
      noded = there;
      ended = fault_none (ends bs e v) d.0;
      whole = runs_whole (at_offset bs) (image_nodes bs) (place_entries bs) (none_broken bs there b.1) (omega arith) (omega arith) f.1;
      bare = λ z. vs ∙ no_nodes bs there (sym es ∙ z);
    }

-- the nodes of some runs fit, and each run's do
pub fit_append : (xs ys : List Node) → AllFitParts xs → AllFitParts ys → AllFitParts (xs ++ ys)
fit_append [] ys p q = q
fit_append (x ∷ xs) ys p q = (p.0, fit_append xs ys p.1 q)

fit_parted : (xs ys : List Node) → AllFitParts (xs ++ ys) → AllFitParts xs × AllFitParts ys
fit_parted [] ys h = (tt, h)
fit_parted (x ∷ xs) ys h = let p = fit_parted xs ys h.1 in ((h.0, p.0), p.1)

pub runs_fit : (es : List Entity) → RunsFitParts es → AllFitParts (entity_runs es)
runs_fit [] h = tt
runs_fit (e ∷ es) h = fit_append (entity_run e) (entity_runs es) h.0 (runs_fit es h.1)

pub fit_runs : (es : List Entity) → AllFitParts (entity_runs es) → RunsFitParts es
fit_runs [] h = tt
fit_runs (e ∷ es) h = let p = fit_parted (entity_run e) (entity_runs es) h in (p.0, fit_runs es p.1)

-- the image of a list, by its nodes and first nodes
pub image_is : (es : List Entity) → image_of es ≡ written (entity_runs es) (first_nodes 0 es)
image_is es =
    ap
    (λ n. low_bytes 4 n ++ (low_bytes 4 (length (entity_runs es)) ++ (low_bytes 4 16 ++ (low_bytes 4 (node_offset n 0)
    ++ (joined (low_bytes 4) (first_nodes 0 es) ++ joined node_bytes (entity_runs es))))))
    (sym (first_nodes_length 0 es))

-- the image of a list that fits
module _ (es : List Entity) (s : Storable es) (fits : RunsFitParts es) where
  abbrev nodes : List Node
  nodes = entity_runs es

  abbrev firsts : List ℕ
  firsts = first_nodes 0 es

  whole_list : Filled nodes firsts
  whole_list = stands es s

  writable : Writable nodes firsts
  writable = record {
    few = let n = first_nodes_length 0 es in let f = s.lawful.few in omega arith;
    many = s.many;
    fit = runs_fit es fits;
    small = λ k l. let n = first_nodes_length 0 es in let b = first_nodes_below es s k (omega arith) in let m = s.many in omega arith;
  }

  -- the bytes, by a name, so that nothing computes
  module _ (bs : List ℕ) (is : bs ≡ written nodes firsts) where
    nodes_are : image_nodes bs ≡ nodes
    nodes_are = nodes_back nodes firsts bs is writable

    entries_are : place_entries bs ≡ firsts
    entries_are = entries_back nodes firsts bs is writable

    whole_image : Whole (image_nodes bs) (place_entries bs)
    whole_image = subst (λ v. Whole v (place_entries bs)) (sym nodes_are) (subst (λ v. Whole nodes v) (sym entries_are) whole_list.whole)

    no_faults : node_faults bs ≡ []
    no_faults =
        let e = entity_count bs in
        let v = node_count bs in
        ap (λ xs. xs ++ (fault_of (ends bs e v) ++ (fault_of (counts e v) ++ run_faults (at_offset bs) (image_nodes bs) (place_entries bs)))) (none_fault (nodes_there bs e v) (nodes_there_back nodes firsts bs is writable whole_list.bare))
        ∙ (ap (λ xs. xs ++ (fault_of (counts e v) ++ run_faults (at_offset bs) (image_nodes bs) (place_entries bs))) (none_fault (ends bs e v) (ends_back nodes firsts bs is writable))
        ∙ (ap (λ xs. xs ++ run_faults (at_offset bs) (image_nodes bs) (place_entries bs)) (none_fault (counts e v) (counts_back nodes firsts bs is writable))
        ∙ whole_runs (at_offset bs) (image_nodes bs) (place_entries bs) whole_image))

    accepted : image_fault bs ≡ None
    accepted =
        let e = entity_count bs in
        let v = node_count bs in
        ap (λ o. unless_broken o (least (node_faults bs))) (then_passes (header bs) (place_list bs e v) (header_back nodes firsts bs is writable) (place_list_back nodes firsts bs is writable whole_list.whole.entries))
        ∙ ap least no_faults

    meant : image_entities bs ≡ es
    meant = ap (λ v. entities_of v (place_entries bs)) nodes_are ∙ (ap (entities_of nodes) entries_are ∙ read_back es s)

-- bytes of which no fault is found are the image of their entities
pub image_back : (bs : List ℕ) → ((i : ℕ) → get_or bs i 0 < 256) → Imaged bs → image_of (image_entities bs) ≡ bs
image_back bs small i =
    let c = covers (image_nodes bs) (place_entries bs) (filled i) in
    image_is (image_entities bs) ∙ (ap (λ v. written v (first_nodes 0 (image_entities bs))) c.0 ∙ (ap (written (image_nodes bs)) c.1 ∙ read_written bs small i.headed i.listed i.noded i.ended))

pub images_read : ImagesRead
images_read = record {
  bytes = λ es. bytes_below (entity_runs es) (first_nodes 0 es) (image_of es) (image_is es);
  every = λ es s f. (accepted es s f (image_of es) (image_is es), meant es s f (image_of es) (image_is es));
  only = λ bs small h.
      let i = image_whole bs h in
      let c = covers (image_nodes bs) (place_entries bs) (filled i) in (
        filled_storable (image_nodes bs) (place_entries bs) (filled i),
        fit_runs (image_entities bs) (subst AllFitParts (sym c.0) (nodes_fit bs small)),
        image_back bs small i,
      );
}
