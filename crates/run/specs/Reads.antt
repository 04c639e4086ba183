-- What the code has read of a run, in the words of the definition of reading.
use Rattle.std.specs.Prelude.{Ok, Err, Result}
use Rattle.model.specs.Reading.{Rest, Read, Refused}

-- an answer of the code, with what is left behind it
abbrev pub told : {X : Type 0} → Result X Refused → Rest → Read X
told (Ok x) r = Ok (x, r)
told (Err e) r = Err e

-- what the code keeps of an answer of the definition
abbrev pub seen : {X Y : Type 0} → (X → Y) → Read X → Read Y
seen f (Ok x) = Ok (f x.0, x.1)
seen f (Err e) = Err e

-- that something was read, and what is left behind it
abbrev pub rest_only : {X : Type 0} → Read X → Read (Unit {0})
rest_only = seen (λ x. tt)
