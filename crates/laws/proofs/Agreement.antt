-- Walks step by step, from every root: the environment of a list and the list itself agree.
use Rattle.std.proofs.Common.{◌≡◌, ℕ, ◌+◌, Bool, true, false, ◌&&◌, eqb, List, [], ◌∷◌, Some, None, Ok, Err, Option, sym, refl, ap, ◌∙◌, subst, arith}
use Rattle.std.proofs.lemmas.Bool.{and_parts, eqb-true}
use Rattle.model.specs.declared.fault.Refusal.TheVariants.{NonConforming}
use Rattle.model.specs.declared.fault.Layer.TheVariants.{Request as request_layer}
use Rattle.model.specs.Faults.{placed, of_entity}
use Rattle.model.specs.Options.{mapped}
use Rattle.model.specs.Slots.{Uid}
use Rattle.model.specs.Values as value
use Rattle.model.specs.Values.{Value}
use Rattle.model.specs.Types as type
use Rattle.model.specs.Types.{Ty}
use Rattle.model.specs.Terms.{TermTy, flat, bool, entity, prim_type, Term, literal, type_of}
use Rattle.model.specs.Symbolize.{term_type, symbolize_prim, symbolize}
use Rattle.model.specs.Entities.{Entity, Request}
use Rattle.model.specs.Schemas.{Schema, RequestType, same_uid}
use Rattle.model.specs.Environments.{closed_context, or_empty, context_type, from_concrete_env}
use Rattle.model.specs.Conforms.{uid_of_type, here_unless, breaks, entity_breaks, request_breaks}
use Rattle.model.specs.Builds.{first_entity, check_fault}
use Rattle.model.specs.Walks.{Root, principal, action, resource, context, foretold, walk_on, root_value, as_term, Step, attribute, tag, ancestors, flat_step, step_type, typed_on, foretold_from, step_term, Found, found_on, walk_from, Typed, step_value, values_from}
use Rattle.laws.specs.WalkLaws.{Apart, NamesApart, WalksAgree}
use Rattle.laws.proofs.Searches.{none_not, or_else_none, mapped_none}
use Rattle.laws.proofs.SymbolizedFields.{symbolized_literal, Fitting, option_not, Agrees, field_agrees}
use Rattle.laws.proofs.Conforming.{here_holds, fitting, stored_unbroken}
use Rattle.laws.proofs.AtEntity.{entity_agrees}
use Rattle.laws.proofs.Closing.{close_apart}

-- what a list finds, where an environment finds this, and a is foretold
abbrev Walked : Found Typed → Found Term → TermTy → Type 0
Walked (Ok x) w a = (w ≡ Ok (symbolize x.0 x.1)) × ((term_type x.0 ≡ a) × Fitting x.0 x.1)
Walked (Err i) w a = w ≡ Err i

-- one step, and then what comes after it
walk_on_from : (i : ℕ) (x : Option Typed) (y : Option Term) (b a : TermTy) (f : Typed → Found Typed) (g : Term → Found Term) → Agrees x y b →
    ((t : Ty) (v : Value) → Fitting t v → term_type t ≡ b → Walked (f (t, v)) (g (symbolize t v)) a) →
    Walked (found_on i x f) (found_on i y g) a
walk_on_from i None y b a f g h ih = ap (λ o. found_on i o g) h
walk_on_from i (Some x) y b a f g h ih = subst (λ o. Walked (f x) (found_on i o g) a) (sym h.0) (ih x.0 x.1 h.1.1 h.1.0)

-- what is walked on: the environment of a list of entities that conform
module _ (s : Schema) (q : RequestType) (r : Request) (es : List Entity) (d : NamesApart s) (k : first_entity (entity_breaks s) 0 es ≡ None) where
  -- at a value without parts, only a uid has a type that a step goes with
  prim_agrees : (st : Step) (x : type.Flat) (y : value.Primitive) (b : TermTy) → flat_step s st (prim_type (symbolize_prim y)) ≡ Some b →
      Agrees (step_value s es st (type.flat x) (value.prim y)) (step_term (from_concrete_env s q r es) st (symbolize (type.flat x) (value.prim y))) b
  prim_agrees st x (value.bool c) b h = none_not h
  prim_agrees st x (value.long z) b h = none_not h
  prim_agrees st x (value.string n) b h = none_not h
  prim_agrees st x (value.uid u) b h = entity_agrees s es u st b d (λ e i. stored_unbroken s es 0 u e k i) h
  prim_agrees st x (value.ext y) b h = none_not h

  -- one step
  step_agrees : (st : Step) (t : Ty) (v : Value) (b : TermTy) → Fitting t v → step_type s st (term_type t) ≡ Some b →
      Agrees (step_value s es st t v) (step_term (from_concrete_env s q r es) st (symbolize t v)) b
  step_agrees st (type.flat x) (value.prim y) b f h = prim_agrees st x y b (ap (λ a. step_type s st a) f ∙ h)
  step_agrees st (type.flat x) (value.set vs) b f h = option_not (type.flat x) (flat bool) f
  step_agrees st (type.flat x) (value.rec vs) b f h = option_not (type.flat x) (flat bool) f
  step_agrees st (type.set t) v b f h = none_not h
  step_agrees st (type.rec is_open ts) (value.prim y) b f h = let z : ◌≡◌ {A = ℕ} 0 1 = cc in absurd (omega arith)
  step_agrees st (type.rec is_open ts) (value.set vs) b f h = option_not (type.rec is_open ts) (flat bool) f
  step_agrees (attribute n) (type.rec is_open ts) (value.rec vs) b f h = field_agrees n ts vs b (cc) h
  step_agrees (tag n) (type.rec is_open ts) (value.rec vs) b f h = none_not h
  step_agrees (ancestors m) (type.rec is_open ts) (value.rec vs) b f h = none_not h

  -- all steps
  walk_agrees : (steps : List Step) (i : ℕ) (t : Ty) (v : Value) (a : TermTy) → Fitting t v → foretold_from s steps i (term_type t) ≡ Ok a →
      Walked (values_from s es steps i (t, v)) (walk_from (from_concrete_env s q r es) steps i (symbolize t v)) a
  walk_agrees [] i t v a f h = (refl, (cc, f))
  walk_agrees (st ∷ sts) i t v a f h = go (step_type s st (term_type t)) refl h (λ t' v' f' h'. walk_agrees sts (i + 1) t' v' a f' h')
    where
      go : (o : Option TermTy) → step_type s st (term_type t) ≡ o → typed_on i o (λ b. foretold_from s sts (i + 1) b) ≡ Ok a →
          ((t' : Ty) (v' : Value) → Fitting t' v' → foretold_from s sts (i + 1) (term_type t') ≡ Ok a → Walked (values_from s es sts (i + 1) (t', v')) (walk_from (from_concrete_env s q r es) sts (i + 1) (symbolize t' v')) a) →
          Walked (values_from s es (st ∷ sts) i (t, v)) (walk_from (from_concrete_env s q r es) (st ∷ sts) i (symbolize t v)) a
      go None e h ih = let z : ◌≡◌ {A = ℕ} 0 1 = cc in absurd (omega arith)
      go (Some b) e h ih =
          walk_on_from i (step_value s es st t v) (step_term (from_concrete_env s q r es) st (symbolize t v)) b a _ _ (step_agrees st t v b f e)
          (λ t' v' f' b_is. ih t' v' f' (ap (λ c. foretold_from s sts (i + 1) c) b_is ∙ h))

-- the context type of a request type, which may be that of an action
context_apart : (o : Option Ty) → ((t : Ty) → o ≡ Some t → Apart t) → Apart (or_empty (closed_context o))
context_apart None d = tt
context_apart (Some (type.flat x)) d = tt
context_apart (Some (type.set t)) d = tt
context_apart (Some (type.rec true ts)) d = tt
context_apart (Some (type.rec false ts)) d = d (type.rec false ts) refl

-- a walk from any root
agree : (s : Schema) (q : RequestType) (r : Request) (es : List Entity) (root : Root) (steps : List Step) (a : TermTy) →
    NamesApart s → check_fault s q r es ≡ None → foretold s q root steps ≡ Ok a →
    Walked (values_from s es steps 1 (root_value s q r root)) (walk_on (from_concrete_env s q r es) root steps) a
agree s q r es root steps a d c h = go root h
  where
    checked : (request_breaks s q (or_empty (context_type s q)) r ≡ None) × (first_entity (entity_breaks s) 0 es ≡ None)
    checked =
        let both = or_else_none (mapped (λ p. placed NonConforming request_layer p) (request_breaks s q (or_empty (context_type s q)) r)) _ c in
        (mapped_none (λ p. placed NonConforming request_layer p) _ both.0, mapped_none (λ x. of_entity NonConforming x.0 x.1) _ both.1)

    parts : (uid_of_type s q.principal r.principal ≡ true) × ((same_uid r.action q.action ≡ true) × ((uid_of_type s q.resource r.resource ≡ true) × (breaks s (value.rec r.context) (or_empty (context_type s q)) 4 ≡ None)))
    parts =
        let first = or_else_none (here_unless (uid_of_type s q.principal r.principal) 1) _ checked.0 in
        let next = or_else_none (here_unless (same_uid r.action q.action) 2) _ first.1 in
        let last = or_else_none (here_unless (uid_of_type s q.resource r.resource) 3) _ next.1 in
        (here_holds _ 1 first.0, (here_holds _ 2 next.0, (here_holds _ 3 last.0, last.1)))

    uid_fits : (n : ℕ) (u : Uid) (rest : Bool) → (eqb u.0 n && rest) ≡ true → Fitting (type.flat (type.entity n)) (value.prim (value.uid u))
    uid_fits n u rest e = ap (λ m. flat (entity m)) (eqb-true u.0 n (and_parts (eqb u.0 n) rest e).0)

    go : (root : Root) → foretold s q root steps ≡ Ok a → Walked (values_from s es steps 1 (root_value s q r root)) (walk_on (from_concrete_env s q r es) root steps) a
    go principal h = walk_agrees s q r es d checked.1 steps 1 _ _ a (uid_fits q.principal r.principal _ parts.0) h
    go action h = walk_agrees s q r es d checked.1 steps 1 _ _ a (uid_fits q.action.0 r.action _ parts.1.0) h
    go resource h = walk_agrees s q r es d checked.1 steps 1 _ _ a (uid_fits q.resource r.resource _ parts.1.1.0) h
    go context h = walk_agrees s q r es d checked.1 steps 1 _ _ a (fitting s (or_empty (context_type s q)) (value.rec r.context) (context_apart _ (d.contexts q.action)) (4, parts.1.1.1)) h

-- the two answers, and the type of what is found
walked_same : (x : Found Typed) (w : Found Term) (a : TermTy) → Walked x w a → w ≡ as_term x
walked_same (Ok x) w a h = h.0
walked_same (Err i) w a h = h

walked_typed : (x : Found Typed) (w : Found Term) (a : TermTy) (t : Term) → Walked x w a → as_term x ≡ Ok t → (type_of t ≡ a) × (literal t ≡ true)
walked_typed (Ok x) w a t h e =
    let t_is : symbolize x.0 x.1 ≡ t = cc in
    (ap type_of (sym t_is) ∙ (h.1.1 ∙ h.1.0), ap literal (sym t_is) ∙ symbolized_literal x.0 x.1)
walked_typed (Err i) w a t h e = (cc, cc)

-- all that is stated of walks
pub walks_agree : WalksAgree
walks_agree = record {
  closed = close_apart;
  same = λ s q r es root steps a d c h. walked_same _ _ a (agree s q r es root steps a d c h);
  typed = λ s q r es root steps a t d c h. walked_typed _ _ a t (agree s q r es root steps a d c h);
}
