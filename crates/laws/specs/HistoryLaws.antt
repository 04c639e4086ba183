-- The relation of histories pins every answer, and every history has its outcome.
use Rattle.std.specs.Prelude.{◌≡◌, List}
use Rattle.model.specs.Entities.{Entity}
use Rattle.model.specs.Live.{Setting, Call, Answer, answer, after, present}
use Rattle.model.specs.Histories.{Serves, Goes, Making, Outcome, History}

pub record HistoriesDetermined : Type 0 where
  -- a call is served in one way: its answer and the list after it are those defined
  pub serves : (g : Setting) (es : List Entity) (c : Call) → Serves g es c (answer g es c) (after g es c)
  pub only : (g : Setting) (es ds : List Entity) (c : Call) (a : Answer) → Serves g es c a ds → (a ≡ answer g es c) × (ds ≡ after g es c)
  -- calls in turn leave the present list, which is fed their arguments alone
  pub leaves : (g : Setting) (es : List Entity) (cs : List Call) (as' : List Answer) (ds : List Entity) → Goes g es cs as' ds → ds ≡ present g es cs
  -- every make, store and list of calls has one outcome
  pub some : (m : Making) (es : List Entity) (cs : List Call) → (o : Outcome) × History m es cs o
  pub one : (m : Making) (es : List Entity) (cs : List Call) (o p : Outcome) → History m es cs o → History m es cs p → o ≡ p
