-- A request is read from its run, and what is read has that run.
use Rattle.std.proofs.Common.{◌≡◌, ℕ, ◌+◌, ◌≤◌, true, ◌&&◌, List, [], ◌∷◌, ◌++◌, length, None, Ok, sym, refl, ap, ◌∙◌, subst, arith}
use Rattle.std.proofs.lemmas.Bool.{and_parts, and_from}
use Rattle.std.proofs.lemmas.List.{append-nil}
use Rattle.model.specs.declared.node.Node.{Node}
use Rattle.model.specs.Trees.{Tree, tree, none, run_of, nesting}
use Rattle.model.specs.declared.slot.Slot.TheVariants.{ARecord, AUid}
use Rattle.model.specs.Slots.{Uid}
use Rattle.model.specs.Layouts.{values}
use Rattle.model.specs.Reading.{Rest, Read, and_then, start}
use Rattle.model.specs.Formed.{fits, keeps}
use Rattle.model.specs.Values.{rec, uid_node, tree_of}
use Rattle.model.specs.Entities.{Request, request_run, read_value, read_request, request_of, FormedRequest}
use Rattle.laws.specs.RunLaws.{RequestsRead}
use Rattle.laws.proofs.ValueTrees.{values_back}
use Rattle.laws.proofs.SlotTrees.{record_forth, a_uid_forth}
use Rattle.laws.proofs.ReadsEach.{at, whole_on, tree_reads}
use Rattle.laws.proofs.ReadsOnly.{TreeRead, took_then, took_whole, ok_is, then_gives, whole_ok, tree_taken, size_is}

-- what is read after the resource, after the action and after the principal
abbrev context_after : Tree → Tree → Tree → Rest → Read Request
context_after p a s r = and_then (read_value ARecord r) (λ c r'. Ok (request_of p a s c, r'))

abbrev resource_after : Tree → Tree → Rest → Read Request
resource_after p a r = and_then (read_value AUid r) (context_after p a)

abbrev action_after : Tree → Rest → Read Request
action_after p r = and_then (read_value AUid r) (resource_after p)

-- a uid by itself
abbrev uid_tree : Uid → Tree
uid_tree u = tree (uid_node u) none

-- a uid at p, whatever follows
uid_reads : (u : Uid) (ns : List Node) (p : ℕ) → keeps values AUid (uid_tree u) ≡ true → p ≤ 4096 → read_value AUid (at (uid_node u ∷ ns) p) ≡ Ok (uid_tree u, at ns (p + 1))
uid_reads u ns p k near = tree_reads (uid_tree u) values 16 AUid ns p refl k (omega arith) (omega arith)

-- each request within the limits is read
request_reads : (q : Request) → FormedRequest q → read_request (request_run q) ≡ Ok q
request_reads q f =
    let t : Tree = tree_of 0 (rec q.context) in
    let short : 3 + length (run_of t) ≤ 4096 = omega (arith, f.short) in
    let u = and_parts (keeps values AUid (uid_tree q.principal)) _ f.uids in
    let u' = and_parts (keeps values AUid (uid_tree q.action)) _ u.1 in
    let u'' = and_parts (keeps values AUid (uid_tree q.resource)) _ u'.1 in
    let P = uid_tree q.principal in
    let A = uid_tree q.action in
    let R = uid_tree q.resource in
    whole_on action_after (uid_reads q.principal (uid_node q.action ∷ (uid_node q.resource ∷ run_of t)) 1 u.0 (omega arith))
    (whole_on (resource_after P) (uid_reads q.action (uid_node q.resource ∷ run_of t) 2 u'.0 (omega arith))
    (whole_on (context_after P A) (uid_reads q.resource (run_of t) 3 u''.0 (omega arith))
    (whole_on (λ c r. Ok (request_of P A R c, r)) (ap (λ r. read_value ARecord (at r 4)) (sym (append-nil (run_of t))) ∙ tree_reads t values 16 ARecord [] 4 f.context f.kept_context f.shallow_context (omega (arith, size_is t)))
    (ap (λ vs. Ok (record { principal = q.principal; action = q.action; resource = q.resource; context = vs })) (values_back q.context)))))

-- what was read in turn, to the end of a run, is a request within the limits
module _ (run : List Node) (p a s c : Tree) (r₁ r₂ r₃ r₄ : Rest) (tp : TreeRead values 16 AUid (start run) (p, r₁)) (ta : TreeRead values 16 AUid r₁ (a, r₂)) (ts : TreeRead values 16 AUid r₂ (s, r₃)) (tc : TreeRead values 16 ARecord r₃ (c, r₄)) where
  request_is : r₄.nodes ≡ [] → r₄.passed ≡ None → FormedRequest (request_of p a s c) × (request_run (request_of p a s c) ≡ run)
  request_is end clean =
      let w = took_whole (took_then tp.took (took_then ta.took (took_then ts.took tc.took))) end clean in
      let k = and_parts (keeps values AUid p) _ w.kept in
      let k' = and_parts (keeps values AUid a) _ k.1 in
      let k'' = and_parts (keeps values AUid s) _ k'.1 in
      let fp = a_uid_forth p tp.fit in
      let fa = a_uid_forth a ta.fit in
      let fs = a_uid_forth s ts.fit in
      let fc = record_forth c tc.fit in
      let written : request_run (request_of p a s c) ≡ run_of p ++ (run_of a ++ (run_of s ++ run_of c)) = λ i. run_of (fp i) ++ (run_of (fa i) ++ (run_of (fs i) ++ run_of (fc i))) in (
        record {
          uids = (λ i. keeps values AUid (fp i) && (keeps values AUid (fa i) && (keeps values AUid (fs i) && true))) ∙ and_from _ _ k.0 (and_from _ _ k'.0 (and_from _ _ k''.0 refl));
          context = ap (fits values ARecord) fc ∙ tc.fit;
          kept_context = ap (keeps values ARecord) fc ∙ k''.1;
          shallow_context = subst (λ t. nesting t ≤ 16) (sym fc) tc.shallow;
          short = subst (λ r. length r ≤ 4096) (sym written) w.short;
        },
        written ∙ w.is,
      )

-- what is read as a request is within the limits, and has its run
request_taken : (run : List Node) (q : Request) → read_request run ≡ Ok q → FormedRequest q × (request_run q ≡ run)
request_taken run q e =
    let P : Request × Rest → Type 0 = λ z. z.1.nodes ≡ [] → z.1.passed ≡ None → FormedRequest z.0 × (request_run z.0 ≡ run) in
    let o = whole_ok (and_then (read_value AUid (start run)) action_after) q e in
    then_gives P (read_value AUid (start run)) action_after (λ p r₁ ep.
    then_gives P (read_value AUid r₁) (resource_after p) (λ a r₂ ea.
    then_gives P (read_value AUid r₂) (context_after p a) (λ s r₃ es.
    then_gives P (read_value ARecord r₃) (λ c r. Ok (request_of p a s c, r)) (λ c r₄ ec z ez.
    subst P (ok_is ez) (request_is run p a s c r₁ r₂ r₃ r₄ (tree_taken values 16 AUid _ _ ep) (tree_taken values 16 AUid _ _ ea) (tree_taken values 16 AUid _ _ es) (tree_taken values 16 ARecord _ _ ec))))))
    (q, o.rest) o.is o.nothing_left o.clean

-- the theorem on requests
pub requests_read : RequestsRead
requests_read = record { every = request_reads; only = request_taken }
