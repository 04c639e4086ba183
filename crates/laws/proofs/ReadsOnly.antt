-- What is read is a tree within the limits, and its run is what was read.
use Rattle.std.proofs.Common.{◌≡◌, ℕ, zero, suc, ◌+◌, ◌≤◌, Bool, true, false, cond, ◌&&◌, ◌||◌, leb, List, [], ◌∷◌, ◌++◌, length, Some, None, Ok, Err, Option, sym, refl, ap, ◌∙◌, subst, append_assoc, arith}
use Rattle.std.proofs.lemmas.Bool.{true≢false, eq-eqb, leb-false, and_from, or_parts}
use Rattle.std.proofs.lemmas.List.{append-nil, length-append}
use Rattle.model.specs.declared.node.Node.{Node}
use Rattle.model.specs.Trees.{Tree, tree, Trees, none, more, root, run_of, runs_of, count, size, sizes, nesting, nestings}
use Rattle.model.specs.declared.slot.Slot.{Slot}
use Rattle.model.specs.Slots.{next}
use Rattle.model.specs.Layouts.{Layout}
use Rattle.model.specs.Reading.{Rest, Read, Refused, and_then, note, judged, read_node, read_tree, read_trees, read_run, start, unless_passed, ended, whole}
use Rattle.model.specs.Formed.{Formed, fits, all_fit, keeps, all_keep}
use Rattle.laws.specs.RunLaws.{TreesRead}
use Rattle.laws.proofs.ReadsEach.{run_reads}

-- a reading that succeeds does so in both of its parts
pub then_gives : {X Y : Type 0} (P : Y × Rest → Type 0) (o : Read X) (f : X → Rest → Read Y) → ((x : X) (r : Rest) → o ≡ Ok (x, r) → (z : Y × Rest) → f x r ≡ Ok z → P z) → (z : Y × Rest) → and_then o f ≡ Ok z → P z
then_gives P (Ok x) f g z e = g x.0 x.1 refl z e
then_gives P (Err y) f g z e = let h : ◌≡◌ {A = ℕ} 0 1 = cc in absurd (omega arith)

-- what was read is what is said to be
pub ok_is : {X : Type 0} {y z : X × Rest} → ◌≡◌ {A = Read X} (Ok y) (Ok z) → y ≡ z
ok_is e = cc

-- a test whose other way is a refusal
ok_if : {X : Type 0} (b : Bool) (o : Read X) (e : Refused) {z : X × Rest} → cond b o (Err e) ≡ Ok z → (b ≡ true) × (o ≡ Ok z)
ok_if true o e h = (refl, h)
ok_if false o e h = let z : ◌≡◌ {A = ℕ} 0 1 = cc in absurd (omega arith)

-- and one whose first way is
ok_unless : {X : Type 0} (b : Bool) (o : Read X) (e : Refused) {z : X × Rest} → cond b (Err e) o ≡ Ok z → (b ≡ false) × (o ≡ Ok z)
ok_unless true o e h = let z : ◌≡◌ {A = ℕ} 0 1 = cc in absurd (omega arith)
ok_unless false o e h = (refl, h)

-- nothing is noted only where nothing was and the limits are kept
note_none : (o : Option ℕ) (kept : Bool) (p : ℕ) → note o kept p ≡ None → (o ≡ None) × (kept ≡ true)
note_none o true p e = (e, refl)
note_none o false p e = let z : ◌≡◌ {A = ℕ} 0 1 = cc in absurd (omega arith)

-- from r to r' these nodes were read, and `kept` says whether they keep the limits
pub record Took (run : List Node) (kept : Bool) (r r' : Rest) : Type 0 where
  pub nodes : r.nodes ≡ run ++ r'.nodes
  pub place : r'.place ≡ r.place + length run
  pub near : r.place ≤ 4097 → r'.place ≤ 4097
  pub clean : r'.passed ≡ None → (r.passed ≡ None) × (kept ≡ true)

-- nothing was read
took_none : (r : Rest) → Took [] true r r
took_none r = record { nodes = refl; place = omega arith; near = λ h. h; clean = λ h. (h, refl) }

-- one reading after another
pub took_then : {a b : List Node} {k m : Bool} {r r' r'' : Rest} → Took a k r r' → Took b m r' r'' → Took (a ++ b) (k && m) r r''
took_then {a} {b} {k} {m} {r} {r'} {r''} t u = record {
  nodes = t.nodes ∙ ap (λ x. a ++ x) u.nodes ∙ sym (append_assoc a b r''.nodes);
  place = omega (arith, t.place, u.place, length-append a b);
  near = λ h. u.near (t.near h);
  clean = λ h. let v = u.clean h in let w = t.clean v.0 in (w.0, and_from k m w.1 v.1);
}

-- a node that was read
pub record NodeRead (l : Layout) (deep : Bool) (s : Slot) (r : Rest) (z : Node × Rest) : Type 0 where
  pub shallow : deep ≡ false
  pub takes : l.takes s z.0 ≡ true
  pub took : Took (z.0 ∷ []) (l.keeps s z.0) r z.1

-- the first of the nodes that are left was judged
node_judged : (l : Layout) (deep : Bool) (s : Slot) (r : Rest) (ns : List Node) (z : Node × Rest) → r.nodes ≡ ns → judged l deep s r ns ≡ Ok z → NodeRead l deep s r z
node_judged l deep s r [] z is e = let h : ◌≡◌ {A = ℕ} 0 1 = cc in absurd (omega arith)
node_judged l deep s r (n ∷ ns) z is e =
    let t = ok_if (l.takes s n) _ _ e in
    let d = ok_unless (deep || leb 4097 r.place) _ _ t.1 in
    let p = or_parts deep (leb 4097 r.place) d.0 in
    subst (NodeRead l deep s r) (ok_is d.1) (record {
      shallow = p.0;
      takes = t.0;
      took = record { nodes = is; place = refl; near = λ h. omega (arith, leb-false 4097 r.place p.1); clean = note_none r.passed (l.keeps s n) r.place };
    })

-- a node that was read, from what is left
pub node_taken : (l : Layout) (deep : Bool) (s : Slot) (r : Rest) (z : Node × Rest) → read_node l deep s r ≡ Ok z → NodeRead l deep s r z
node_taken l deep s r z = node_judged l deep s r r.nodes z refl

-- a tree that was read
pub record TreeRead (l : Layout) (room : ℕ) (s : Slot) (r : Rest) (z : Tree × Rest) : Type 0 where
  pub fit : fits l s z.0 ≡ true
  pub shallow : nesting z.0 ≤ room
  pub took : Took (run_of z.0) (keeps l s z.0) r z.1

-- several that were read
pub record TreesTaken (l : Layout) (room k : ℕ) (s : Slot) (r : Rest) (z : Trees × Rest) : Type 0 where
  pub many : count z.0 ≡ k
  pub fit : all_fit l s z.0 ≡ true
  pub shallow : nestings z.0 ≤ room
  pub took : Took (runs_of z.0) (all_keep l s z.0) r z.1

-- several trees, where each is read so
pub trees_taken : (l : Layout) (room : ℕ) (child : Slot → Rest → Read Tree) → ((s : Slot) (r : Rest) (z : Tree × Rest) → child s r ≡ Ok z → TreeRead l room s r z) → (k : ℕ) (s : Slot) (r : Rest) (z : Trees × Rest) → read_trees child k s r ≡ Ok z → TreesTaken l room k s r z
trees_taken l room child each zero s r = λ z e.
    subst (TreesTaken l room 0 s r) (ok_is e) (record { many = refl; fit = refl; shallow = omega arith; took = took_none r })
trees_taken l room child each (suc k) s r =
    then_gives (TreesTaken l room (suc k) s r) (child s r) _ (λ t r' et.
    then_gives (TreesTaken l room (suc k) s r) (read_trees child k (next s (root t)) r') _ (λ ts r'' ets z e.
    let first = each s r (t, r') et in
    let rest = trees_taken l room child each k (next s (root t)) r' (ts, r'') ets in
    subst (TreesTaken l room (suc k) s r) (ok_is e) (record {
      many = ap suc rest.many;
      fit = and_from _ _ first.fit rest.fit;
      shallow = omega (arith, first.shallow, rest.shallow);
      took = took_then first.took rest.took;
    })))

-- one tree
pub tree_taken : (l : Layout) (room : ℕ) (s : Slot) (r : Rest) (z : Tree × Rest) → read_tree l room s r ≡ Ok z → TreeRead l room s r z
tree_taken l zero s r =
    then_gives (TreeRead l 0 s r) (read_node l true s r) _ (λ n r' en z e. absurd (true≢false (node_taken l true s r (n, r') en).shallow))
tree_taken l (suc room) s r =
    then_gives (TreeRead l (suc room) s r) (read_node l false s r) _ (λ n r' en.
    then_gives (TreeRead l (suc room) s r) (read_trees (read_tree l room) (l.arity n) (l.inside n) r') _ (λ ts r'' ets z e.
    let head = node_taken l false s r (n, r') en in
    let rest = trees_taken l room (read_tree l room) (tree_taken l room) (l.arity n) (l.inside n) r' (ts, r'') ets in
    subst (TreeRead l (suc room) s r) (ok_is e) (record {
      fit = and_from _ _ head.takes (and_from _ _ (eq-eqb _ _ rest.many) rest.fit);
      shallow = omega (arith, rest.shallow);
      took = took_then head.took rest.took;
    })))

-- a run that was read to its end, with no limit passed
pub record Ended {X : Type 0} (o : Read X) (x : X) : Type 0 where
  pub rest : Rest
  pub is : o ≡ Ok (x, rest)
  pub nothing_left : rest.nodes ≡ []
  pub clean : rest.passed ≡ None

-- no limit was passed
clean_ok : {X : Type 0} (o : Option ℕ) (y x : X) → unless_passed o y ≡ Ok x → (o ≡ None) × (y ≡ x)
clean_ok None y x e = (refl, (cc))
clean_ok (Some p) y x e = let z : ◌≡◌ {A = ℕ} 0 1 = cc in absurd (omega arith)

-- and no node was left over
ended_ok : {X : Type 0} (ns : List Node) (r : Rest) (y x : X) → r.nodes ≡ ns → ended ns r y ≡ Ok x → Ended (Ok (y, r)) x
ended_ok [] r y x is e =
    let c = clean_ok r.passed y x e in
    record { rest = r; is = ap (λ v. Ok (v, r)) c.1; nothing_left = is; clean = c.0 }
ended_ok (n ∷ ns) r y x is e = let z : ◌≡◌ {A = ℕ} 0 1 = cc in absurd (omega arith)

-- what is read as a whole run was read to its end
pub whole_ok : {X : Type 0} (o : Read X) (x : X) → whole o ≡ Ok x → Ended o x
whole_ok (Ok z) x e = ended_ok z.1.nodes z.1 z.0 x refl e
whole_ok (Err y) x e = let z : ◌≡◌ {A = ℕ} 0 1 = cc in absurd (omega arith)

-- what was read from the first node on, to the end, is the whole run, within the limits
pub record Whole (run : List Node) (keeping : Bool) (given : List Node) : Type 0 where
  pub is : run ≡ given
  pub kept : keeping ≡ true
  pub short : length run ≤ 4096

-- from what was taken in turn to the whole
pub took_whole : {run given : List Node} {kept : Bool} {r : Rest} → Took run kept (start given) r → r.nodes ≡ [] → r.passed ≡ None → Whole run kept given
took_whole {run} {given} {kept} {r} t end clean = record {
  is = sym (t.nodes ∙ ap (λ x. run ++ x) end ∙ append-nil run);
  kept = (t.clean clean).1;
  short = let near : 1 ≤ 4097 → r.place ≤ 4097 = t.near in omega (arith, t.place, near (omega arith));
}

-- a tree has as many nodes as its run
mutual
  pub size_is : (t : Tree) → size t ≡ length (run_of t)
  size_is (tree n ts) = ap suc (sizes_is ts)

  pub sizes_is : (ts : Trees) → sizes ts ≡ length (runs_of ts)
  sizes_is none = refl
  sizes_is (more t ts) = (λ i. size_is t i + sizes_is ts i) ∙ sym (length-append (run_of t) (runs_of ts))

-- a run that is one tree
run_taken : (l : Layout) (s : Slot) (run : List Node) (t : Tree) → read_run l s run ≡ Ok t → Formed l s t × (run_of t ≡ run)
run_taken l s run t e =
    let o = whole_ok (read_tree l 16 s (start run)) t e in
    let h = tree_taken l 16 s (start run) (t, o.rest) o.is in
    let w = took_whole h.took o.nothing_left o.clean in
    (record { fitting = h.fit; kept = w.kept; shallow = h.shallow; short = omega (arith, size_is t, w.short) }, w.is)

-- the theorem on trees
pub trees_read : TreesRead
trees_read = record { every = run_reads; only = run_taken }
