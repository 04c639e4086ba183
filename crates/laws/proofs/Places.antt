-- A refusal of reading stands at one of the first 4,097 nodes, since reading stops there.
use Rattle.std.proofs.Common.{◌≡◌, ℕ, zero, suc, ◌≤◌, Bool, true, false, ◌||◌, leb, List, [], ◌∷◌, Some, None, Ok, Err, Option, Result, subst, arith}
use Rattle.std.proofs.lemmas.Bool.{cond_both, leb-false, or_parts}
use Rattle.model.specs.declared.node.Node.{Node}
use Rattle.model.specs.declared.fault.Refusal.{Refusal}
use Rattle.model.specs.declared.slot.Slot.{Slot}
use Rattle.model.specs.declared.slot.Slot.TheVariants.{Plain, Named, ARecord, Ancestor}
use Rattle.model.specs.Trees.{Tree, root}
use Rattle.model.specs.Slots.{next}
use Rattle.model.specs.Layouts.{Layout, values}
use Rattle.model.specs.Reading.{Rest, Read, Refused, and_then, earlier, note, judged, read_node, read_tree, read_trees, start, unless_passed, ended, whole}
use Rattle.model.specs.Values.{magnitude}
use Rattle.model.specs.Entities.{heads, read_value, read_entity}

-- one of the first 4,097 places
abbrev Near : ℕ → Type 0
Near p = (1 ≤ p) × (p ≤ 4097)

-- the same of a place that was noted, if one was
abbrev Noted : Option ℕ → Type 0
Noted None = Unit {0}
Noted (Some p) = Near p

-- what is left of a run begins at such a place, and only such a place was noted
abbrev Held : Rest → Type 0
Held r = Near r.place × Noted r.passed

-- a reading refuses at such a place, and leaves such a rest
abbrev Fine : {X : Type 0} → Read X → Type 0
Fine (Ok x) = Held x.1
Fine (Err e) = Near e.1

-- one reading after another
then_fine : {X Y : Type 0} (o : Read X) (f : X → Rest → Read Y) → Fine o → ((x : X) (r : Rest) → Held r → Fine (f x r)) → Fine (and_then o f)
then_fine (Ok x) f h g = g x.0 x.1 h
then_fine (Err e) f h g = h

-- the first of two places
earlier_near : (o : Option ℕ) (p : ℕ) → Noted o → Near p → Near (earlier o p)
earlier_near None p n h = h
earlier_near (Some q) p n h = n

-- a note
note_near : (o : Option ℕ) (kept : Bool) (p : ℕ) → Noted o → Near p → Noted (note o kept p)
note_near o true p n h = n
note_near o false p n h = earlier_near o p n h

-- the first of the nodes that are left
judged_fine : (l : Layout) (deep : Bool) (s : Slot) (r : Rest) (ns : List Node) → Held r → Fine (judged l deep s r ns)
judged_fine l deep s r [] h = h.0
judged_fine l deep s r (n ∷ ns) h =
    cond_both (l.takes s n) _ _ Fine
    (λ e. cond_both (deep || leb 4097 r.place) _ _ Fine
    (λ d. earlier_near r.passed r.place h.1 h.0)
    (λ d. ((omega arith, omega (arith, leb-false 4097 r.place (or_parts deep (leb 4097 r.place) d).1)), note_near r.passed (l.keeps s n) r.place h.1 h.0)))
    (λ e. h.0)

-- the next node
node_fine : (l : Layout) (deep : Bool) (s : Slot) (r : Rest) → Held r → Fine (read_node l deep s r)
node_fine l deep s r h = judged_fine l deep s r r.nodes h

-- trees in turn, where each is read so
trees_fine : (child : Slot → Rest → Read Tree) → ((s : Slot) (r : Rest) → Held r → Fine (child s r)) → (k : ℕ) (s : Slot) (r : Rest) → Held r → Fine (read_trees child k s r)
trees_fine child each zero s r h = h
trees_fine child each (suc k) s r h =
    then_fine (child s r) _ (each s r h) (λ t r' h'.
    then_fine (read_trees child k (next s (root t)) r') _ (trees_fine child each k (next s (root t)) r' h') (λ ts r'' h''. h''))

-- one tree
tree_fine : (l : Layout) (room : ℕ) (s : Slot) (r : Rest) → Held r → Fine (read_tree l room s r)
tree_fine l zero s r h = then_fine (read_node l true s r) _ (node_fine l true s r h) (λ n r' h'. h')
tree_fine l (suc room) s r h =
    then_fine (read_node l false s r) _ (node_fine l false s r h) (λ n r' h'.
    then_fine (read_trees (read_tree l room) (l.arity n) (l.inside n) r') _ (trees_fine (read_tree l room) (tree_fine l room) (l.arity n) (l.inside n) r' h') (λ ts r'' h''. h''))

-- a whole run is refused at such a place only
abbrev FineWhole : {X : Type 0} → Result X Refused → Type 0
FineWhole (Ok x) = Unit {0}
FineWhole (Err e) = Near e.1

-- at a limit that was noted
passed_fine : {X : Type 0} (o : Option ℕ) (x : X) → Noted o → FineWhole (unless_passed o x)
passed_fine None x h = tt
passed_fine (Some p) x h = h

-- or at a node that is left over
ended_fine : {X : Type 0} (ns : List Node) (r : Rest) (x : X) → Held r → FineWhole (ended ns r x)
ended_fine [] r x h = passed_fine r.passed x h.1
ended_fine (n ∷ ns) r x h = h.0

-- or where reading stopped
whole_fine : {X : Type 0} (o : Read X) → Fine o → FineWhole (whole o)
whole_fine (Ok x) h = ended_fine x.1.nodes x.1 x.0 h
whole_fine (Err e) h = h

-- an entity
entity_fine : (run : List Node) → FineWhole (read_entity run)
entity_fine run =
    let several = trees_fine read_value (tree_fine values 16) in
    whole_fine _ (
    then_fine (read_node heads false Plain (start run)) _ (node_fine heads false Plain (start run) ((omega arith, omega arith), tt)) (λ h r hr.
    then_fine (read_value ARecord r) _ (tree_fine values 16 ARecord r hr) (λ a r' hr'.
    then_fine (read_trees read_value h.field (Ancestor None) r') _ (several h.field (Ancestor None) r' hr') (λ u r'' hr''.
    then_fine (read_trees read_value (magnitude h.number) (Named None) r'') _ (several (magnitude h.number) (Named None) r'' hr'') (λ t r''' hr'''. hr''')))))

-- a refusal of reading an entity stands at one of the first 4,097 places
pub near : (run : List Node) (r : Refusal) (p : ℕ) → read_entity run ≡ Err (r, p) → (1 ≤ p) × (p ≤ 4097)
near run r p e = subst FineWhole e (entity_fine run)
