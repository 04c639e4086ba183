-- A check: nothing, or the first fault.
use Rattle.std.specs.Prelude.{ℕ, zero, suc, ◌+◌, Bool, cond, List, [], ◌∷◌, Ok, Err, Result}
use Rattle.model.specs.declared.fault.Fault.{Fault}

-- a check: nothing where it holds, or the fault that it found
abbrev pub Checked : Type 0
Checked = Result (Unit {0}) Fault

-- the check that always holds
abbrev pub good : Checked
good = Ok tt

-- what must hold, else the fault
abbrev pub require : Bool → Fault → Checked
require b f = cond b good (Err f)

-- one check and then another: the first fault
abbrev pub then : Checked → Checked → Checked
then (Ok u) rest = rest
then (Err f) rest = Err f

-- n checks from i on
abbrev pub each : (ℕ → Checked) → ℕ → ℕ → Checked
each f zero i = good
each f (suc n) i = then (f i) (each f n (i + 1))

-- some checks in turn
abbrev pub in_turn : List Checked → Checked
in_turn [] = good
in_turn (c ∷ cs) = then c (in_turn cs)

-- the value, unless the check before it fails
abbrev pub after : {X : Type 0} → Checked → X → Result X Fault
after (Ok u) x = Ok x
after (Err f) x = Err f
