use Rattle.std.proofs.Common.{◌≡◌, ◌-◌, length, drop}
use Rattle.run.specs.Places.{passes}
use Rattle.run.proofs.find.end_of.Given as goal

-- what is left gives the whole answer
abbrev pub invariant-loop-open : goal.invariant-loop-open
invariant-loop-open l = passes l.open (drop l.place l.run) l.place ≡ passes 1 (drop l.at l.run) l.at

abbrev pub decreases-loop-open : goal.decreases-loop-open
decreases-loop-open l = length l.run - l.place
