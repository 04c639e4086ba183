-- The first that is found.
use Rattle.std.specs.Prelude.{Bool, true, false, cond, List, [], ◌∷◌, Some, None, Ok, Err, Option, Result}

-- the first of two, where there is one
abbrev pub or_else : {X : Type 0} → Option X → Option X → Option X
or_else None y = y
or_else (Some x) y = Some x

-- the first of a list that passes a test
abbrev pub find : {X : Type 0} → (X → Bool) → List X → Option X
find p [] = None
find p (x ∷ xs) = cond (p x) (Some x) (find p xs)

-- those of a list that pass a test
abbrev pub filter : {X : Type 0} → (X → Bool) → List X → List X
filter p [] = []
filter p (x ∷ xs) = cond (p x) (x ∷ filter p xs) (filter p xs)

-- whether one of a list passes a test
abbrev pub any : {X : Type 0} → (X → Bool) → List X → Bool
any p [] = false
any p (x ∷ xs) = cond (p x) true (any p xs)

-- what a function makes of a thing, where there is one
abbrev pub mapped : {X Y : Type 0} → (X → Y) → Option X → Option Y
mapped f None = None
mapped f (Some x) = Some (f x)

-- the value, unless a refusal was found
abbrev pub unless : {X E : Type 0} → Option E → X → Result X E
unless None x = Ok x
unless (Some e) x = Err e
