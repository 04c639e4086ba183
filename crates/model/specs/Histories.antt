-- Whole histories: one make, and then any puts, removals and walks, refused ones included.
use Rattle.std.specs.Prelude.{◌≡◌, ℕ, true, List, [], ◌∷◌, Some, None, Ok, Err}
use Rattle.model.specs.declared.node.Node.{Node}
use Rattle.model.specs.declared.fault.Fault.{Fault}
use Rattle.model.specs.Slots.{Uid}
use Rattle.model.specs.Terms.{TermTy, Term}
use Rattle.model.specs.Entities.{Entity, Request, read_entity, read_request}
use Rattle.model.specs.Schemas.{Schema, RequestType}
use Rattle.model.specs.Environments.{SymEnv}
use Rattle.model.specs.Builds.{Sizes, built, terms_of}
use Rattle.model.specs.Walks.{Root, Step, foretold, walk_in, walk_fault}
use Rattle.model.specs.Live.{Setting, afresh, parts, with_entity, without_uid, put_fault, remove_fault, Call, put, remove, walk, Answer, accepted, refused, gives, absent}

-- one call on the present list, its answer, and the list after it
pub data Serves (g : Setting) : List Entity → Call → Answer → List Entity → Type 0 where
  -- an entity that is not refused is in the list from then on, in the place of one with the same uid
  puts : {es : List Entity} {run : List Node} {e : Entity} → put_fault g es run ≡ None → read_entity run ≡ Ok e → Serves g es (put run) accepted (with_entity e es)
  put_refused : {es : List Entity} {run : List Node} {f : Fault} → put_fault g es run ≡ Some f → Serves g es (put run) (refused f) es
  -- a stored standard entity is taken out
  removes : {es : List Entity} {u : Uid} → remove_fault g es u ≡ None → Serves g es (remove u) accepted (without_uid u es)
  remove_refused : {es : List Entity} {u : Uid} {f : Fault} → remove_fault g es u ≡ Some f → Serves g es (remove u) (refused f) es
  -- a walk gives a term of the type foretold, or names the step at which it is absent
  walks : {es : List Entity} {root : Root} {steps : List Step} {types terms : ℕ} {a : TermTy} {t : Term} →
      walk_fault g.schema g.request_type types terms root steps ≡ None → foretold g.schema g.request_type root steps ≡ Ok a →
      walk_in g.schema g.request_type g.request es root steps ≡ Ok t → Serves g es (walk root steps types terms) (gives a t) es
  misses : {es : List Entity} {root : Root} {steps : List Step} {types terms k : ℕ} {a : TermTy} →
      walk_fault g.schema g.request_type types terms root steps ≡ None → foretold g.schema g.request_type root steps ≡ Ok a →
      walk_in g.schema g.request_type g.request es root steps ≡ Err k → Serves g es (walk root steps types terms) (absent k) es
  walk_refused : {es : List Entity} {root : Root} {steps : List Step} {types terms : ℕ} {f : Fault} →
      walk_fault g.schema g.request_type types terms root steps ≡ Some f → Serves g es (walk root steps types terms) (refused f) es

-- calls in turn, each on what the one before left
pub data Goes (g : Setting) : List Entity → List Call → List Answer → List Entity → Type 0 where
  ends : {es : List Entity} → Goes g es [] [] es
  goes : {es ds fs : List Entity} {c : Call} {cs : List Call} {a : Answer} {as' : List Answer} →
      Serves g es c a ds → Goes g ds cs as' fs → Goes g es (c ∷ cs) (a ∷ as') fs

-- what a make is given besides its store
pub record Making : Type 0 where
  pub schema : Schema
  pub request_type : RequestType
  pub request_run : List Node
  pub sizes : Sizes
  pub buffer : ℕ

-- the setting that a make leaves, once its request is read
abbrev pub setting : Making → Request → Setting
setting m r = record { schema = m.schema; request_type = m.request_type; request = r; sizes = m.sizes }

-- what a history ends in: a refused make; or its answers, the present list, and the environment with its terms
pub data Outcome : Type 0 where
  make_refused : Fault → Outcome
  lived : List Answer → List Entity → SymEnv → List Term → Outcome

-- a history over a store that means a list of entities
pub data History (m : Making) (es : List Entity) (cs : List Call) : Outcome → Type 0 where
  -- a refused make ends it
  refused_make : {f : Fault} → built m.sizes m.buffer true m.schema m.request_type m.request_run es ≡ Err f → History m es cs (make_refused f)
  -- else every call is served on the present list; the environment is the one built afresh from it, and its terms are
  -- those whose records are in use
  made : {r : Request} {e : SymEnv} {as' : List Answer} {ds : List Entity} →
      built m.sizes m.buffer true m.schema m.request_type m.request_run es ≡ Ok e → read_request m.request_run ≡ Ok r →
      Goes (setting m r) es cs as' ds → History m es cs (lived as' ds (afresh (setting m r) ds) (terms_of (parts (setting m r) ds)))
