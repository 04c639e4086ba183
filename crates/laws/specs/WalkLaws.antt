-- A walk on the environment of a list of entities gives what the list answers: a literal of the type foretold.
use Rattle.std.specs.Prelude.{◌≡◌, ℕ, true, List, Some, None, Ok}
use Rattle.model.specs.Slots.{Uid}
use Rattle.model.specs.Types.{Ty, Tys, flat, set, rec, none, more, field}
use Rattle.model.specs.Terms.{TermTy, Term, literal, type_of}
use Rattle.model.specs.Entities.{Entity, Request}
use Rattle.model.specs.Schemas.{Open, Schema, RequestType, close, attributes_of, tags_of, context_of}
use Rattle.model.specs.Environments.{from_concrete_env}
use Rattle.model.specs.Builds.{check_fault}
use Rattle.model.specs.Walks.{Root, Step, foretold, walk_on, walk_in}

-- each record in a type has a field name once
abbrev mutual
  pub Apart : Ty → Type 0
  Apart (flat x) = Unit {0}
  Apart (set t) = Apart t
  Apart (rec is_open ts) = AllApart ts

  pub AllApart : Tys → Type 0
  AllApart none = Unit {0}
  AllApart (more name required of rest) = (field name rest ≡ None) × (Apart of × AllApart rest)

-- and so in the types of a schema
pub record NamesApart (s : Schema) : Type 0 where
  pub attributes : (n : ℕ) (t : Ty) → attributes_of s n ≡ Some t → Apart t
  pub tags : (n : ℕ) (t : Ty) → tags_of s n ≡ Some t → Apart t
  pub contexts : (u : Uid) (t : Ty) → context_of s u ≡ Some t → Apart t

-- of every schema whose names are apart, as of every one that is closed, and every request and list of entities that conform to it
pub record WalksAgree : Type 0 where
  pub closed : (o : Open) (s : Schema) → close o ≡ Ok s → NamesApart s
  pub same : (s : Schema) (q : RequestType) (r : Request) (es : List Entity) (root : Root) (steps : List Step) (a : TermTy) →
      NamesApart s → check_fault s q r es ≡ None → foretold s q root steps ≡ Ok a →
      walk_on (from_concrete_env s q r es) root steps ≡ walk_in s q r es root steps
  pub typed : (s : Schema) (q : RequestType) (r : Request) (es : List Entity) (root : Root) (steps : List Step) (a : TermTy) (t : Term) →
      NamesApart s → check_fault s q r es ≡ None → foretold s q root steps ≡ Ok a →
      walk_in s q r es root steps ≡ Ok t → (type_of t ≡ a) × (literal t ≡ true)
