use Rattle.std.proofs.Common.{◌-◌}
use Rattle.store.proofs.Ascents.{Between}
use Rattle.store.proofs.search.place_of.Given as goal

-- what lies before `low` is below the uid, and what lies from `high` on above it
abbrev pub invariant-loop-low : goal.invariant-loop-low
invariant-loop-low g l = Between (g.S.Store.entities l.store) l.uid l.low l.high

abbrev pub decreases-loop-low : goal.decreases-loop-low
decreases-loop-low g l = l.high - l.low
