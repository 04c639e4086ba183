-- An entity is read from its run, and what is read has that run.
use Rattle.std.proofs.Common.{◌≡◌, ℕ, ◌+◌, ◌≤◌, true, false, eqb, leb, List, [], ◌∷◌, ◌++◌, map, length, pos, None, Ok, sym, refl, ap, ◌∙◌, subst, arith}
use Rattle.std.proofs.lemmas.Bool.{eqb-true, leb-true, le-leb, lt-ltb, and_parts, and_from}
use Rattle.std.proofs.lemmas.List.{append-nil, length-append}
use Rattle.model.specs.declared.node.Node.{Node}
use Rattle.model.specs.Trees as trees
use Rattle.model.specs.Trees.{Tree, Trees, run_of, runs_of, size, sizes, nesting, nestings}
use Rattle.model.specs.declared.slot.Slot.TheVariants.{Plain, Named, ARecord, Ancestor}
use Rattle.model.specs.Layouts.{values, is_name}
use Rattle.model.specs.Reading.{Rest, Read, and_then, start, read_node, read_trees}
use Rattle.model.specs.Formed.{fits, keeps, all_fit, all_keep}
use Rattle.model.specs.Values.{count, uid_node, trees_of, magnitude}
use Rattle.model.specs.Entities.{Entity, head, heads, entity_run, entity_of, uid_trees, attributes_tree, read_value, read_entity, FormedEntity}
use Rattle.laws.specs.RunLaws.{EntitiesRead}
use Rattle.laws.proofs.Parts.{same_node, magnitude_is}
use Rattle.laws.proofs.ValueTrees.{values_back, values_forth, count_is}
use Rattle.laws.proofs.SlotTrees.{record_forth, ancestors_forth, uids_run, uids_count, uids_flat, uids_back}
use Rattle.laws.proofs.ReadsEach.{at, whole_on, node_reads, tree_reads, trees_read}
use Rattle.laws.proofs.ReadsOnly.{NodeRead, TreeRead, TreesTaken, took_then, took_whole, ok_is, then_gives, whole_ok, node_taken, tree_taken, trees_taken, size_is, sizes_is}

-- what is read after the ancestors, after the attributes and after the head
abbrev tags_after : Node → Tree → Trees → Rest → Read Entity
tags_after h a u r = and_then (read_trees read_value (magnitude h.number) (Named None) r) (λ t r'. Ok (entity_of h a u t, r'))

abbrev ancestors_after : Node → Tree → Rest → Read Entity
ancestors_after h a r = and_then (read_trees read_value h.field (Ancestor None) r) (tags_after h a)

abbrev attributes_after : Node → Rest → Read Entity
attributes_after h r = and_then (read_value ARecord r) (ancestors_after h)

-- each entity within the limits is read
entity_reads : (e : Entity) → FormedEntity e → read_entity (entity_run e) ≡ Ok e
entity_reads e f =
    let h : Node = head e in
    let a : Tree = attributes_tree e in
    let u : Trees = uid_trees e.ancestors in
    let t : Trees = trees_of e.tags in
    let p : ℕ = 2 + size a in
    let us : map uid_node e.ancestors ≡ runs_of u = uids_run e.ancestors in
    let short : 1 + (length (run_of a) + (length (runs_of u) + length (runs_of t))) ≤ 4096 = omega (arith, f.short, length-append (run_of a) (map uid_node e.ancestors ++ runs_of t), length-append (map uid_node e.ancestors) (runs_of t), ap length us) in
    let kept : heads.keeps Plain h ≡ true = and_from _ _ f.named_type (and_from _ _ f.named_id (and_from _ _ (le-leb _ _ f.few_ancestors) (le-leb _ _ f.few_tags))) in
    whole_on attributes_after (node_reads heads Plain h (run_of a ++ (map uid_node e.ancestors ++ runs_of t)) 1 (lt-ltb _ _ (omega arith)) kept (omega arith))
    (whole_on (ancestors_after h) (tree_reads a values 16 ARecord (map uid_node e.ancestors ++ runs_of t) 2 f.attributes f.kept_attributes f.shallow_attributes (omega (arith, size_is a)))
    (whole_on (tags_after h a) ((λ i. read_trees read_value (uids_count e.ancestors i) (Ancestor None) (at (us i ++ runs_of t) p)) ∙ trees_read u values 16 (Ancestor None) (runs_of t) p f.ancestors f.kept_ancestors (omega (arith, uids_flat e.ancestors)) (omega (arith, size_is a, sizes_is u)))
    (whole_on (λ t r. Ok (entity_of h a u t, r)) ((λ i. read_trees read_value ((sym (ap count (values_back e.tags)) ∙ count_is t) i) (Named None) (at (sym (append-nil (runs_of t)) i) (p + sizes u))) ∙ trees_read t values 16 (Named None) [] (p + sizes u) f.tags f.kept_tags f.shallow_tags (omega (arith, size_is a, sizes_is u, sizes_is t)))
    (λ i. Ok (record { uid = e.uid; attributes = values_back e.attributes i; ancestors = uids_back e.ancestors i; tags = values_back e.tags i })))))

-- what was read in turn, to the end of a run, is an entity within the limits
module _ (run : List Node) (h : Node) (a : Tree) (u t : Trees) (r₁ r₂ r₃ r₄ : Rest) (th : NodeRead heads false Plain (start run) (h, r₁)) (ta : TreeRead values 16 ARecord r₁ (a, r₂)) (tu : TreesTaken values 16 h.field (Ancestor None) r₂ (u, r₃)) (tg : TreesTaken values 16 (magnitude h.number) (Named None) r₃ (t, r₄)) where
  entity_is : r₄.nodes ≡ [] → r₄.passed ≡ None → FormedEntity (entity_of h a u t) × (entity_run (entity_of h a u t) ≡ run)
  entity_is end clean =
      let e : Entity = entity_of h a u t in
      let w = took_whole (took_then th.took (took_then ta.took (took_then tu.took tg.took))) end clean in
      let k = and_parts (heads.keeps Plain h) _ w.kept in
      let k' = and_parts (keeps values ARecord a) _ k.1 in
      let k'' = and_parts (all_keep values (Ancestor None) u) _ k'.1 in
      let n = and_parts (is_name h.a) _ k.0 in
      let n' = and_parts (is_name h.b) _ n.1 in
      let n'' = and_parts (leb h.field 64) _ n'.1 in
      let g = and_parts (eqb h.kind 9) _ th.takes in
      let fa = record_forth a ta.fit in
      let fu = ancestors_forth u None tu.fit in
      let ft = values_forth (Named None) t tg.fit in
      let many : length e.ancestors ≡ h.field = uids_count e.ancestors ∙ ap trees.count fu ∙ tu.many in
      let tagged : count e.tags ≡ magnitude h.number = count_is t ∙ tg.many in
      let fh : head e ≡ h = same_node (head e) h (sym (eqb-true _ _ g.0)) many refl refl (ap pos tagged ∙ sym (magnitude_is _ h.number g.1)) in
      let written : entity_run e ≡ (h ∷ []) ++ (run_of a ++ (runs_of u ++ runs_of t)) = λ i. fh i ∷ (run_of (fa i) ++ ((uids_run e.ancestors ∙ ap runs_of fu) i ++ runs_of (ft i))) in (
        record {
          named_type = n.0;
          named_id = n'.0;
          attributes = ap (fits values ARecord) fa ∙ ta.fit;
          kept_attributes = ap (keeps values ARecord) fa ∙ k'.0;
          shallow_attributes = subst (λ x. nesting x ≤ 16) (sym fa) ta.shallow;
          few_ancestors = omega (arith, many, leb-true _ _ n''.0);
          ancestors = ap (all_fit values (Ancestor None)) fu ∙ tu.fit;
          kept_ancestors = ap (all_keep values (Ancestor None)) fu ∙ k''.0;
          few_tags = omega (arith, tagged, leb-true _ _ n''.1);
          tags = ap (all_fit values (Named None)) ft ∙ tg.fit;
          kept_tags = ap (all_keep values (Named None)) ft ∙ k''.1;
          shallow_tags = subst (λ x. nestings x ≤ 16) (sym ft) tg.shallow;
          short = subst (λ x. length x ≤ 4096) (sym written) w.short;
        },
        written ∙ w.is,
      )

-- what is read as an entity is within the limits, and has its run
entity_taken : (run : List Node) (e : Entity) → read_entity run ≡ Ok e → FormedEntity e × (entity_run e ≡ run)
entity_taken run e is =
    let P : Entity × Rest → Type 0 = λ z. z.1.nodes ≡ [] → z.1.passed ≡ None → FormedEntity z.0 × (entity_run z.0 ≡ run) in
    let o = whole_ok (and_then (read_node heads false Plain (start run)) attributes_after) e is in
    let several = trees_taken values 16 read_value (tree_taken values 16) in
    then_gives P (read_node heads false Plain (start run)) attributes_after (λ h r₁ eh.
    then_gives P (read_value ARecord r₁) (ancestors_after h) (λ a r₂ ea.
    then_gives P (read_trees read_value h.field (Ancestor None) r₂) (tags_after h a) (λ u r₃ eu.
    then_gives P (read_trees read_value (magnitude h.number) (Named None) r₃) (λ t r. Ok (entity_of h a u t, r)) (λ t r₄ et z ez.
    subst P (ok_is ez) (entity_is run h a u t r₁ r₂ r₃ r₄ (node_taken heads false Plain _ _ eh) (tree_taken values 16 ARecord _ _ ea) (several _ (Ancestor None) _ _ eu) (several _ (Named None) _ _ et))))))
    (e, o.rest) o.is o.nothing_left o.clean

-- the theorem on entities
pub entities_read : EntitiesRead
entities_read = record { every = entity_reads; only = entity_taken }
