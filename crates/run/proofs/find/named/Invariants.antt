use Rattle.std.proofs.Common.{◌≡◌, ◌-◌}
use Rattle.run.specs.Places.{named_of}
use Rattle.run.proofs.find.named.Given as goal

-- the values that are left give the whole answer
abbrev pub invariant-loop : goal.invariant-loop
invariant-loop l = named_of l.run l.name (l.count - l.counter) l.place ≡ named_of l.run l.name l.count l.first
