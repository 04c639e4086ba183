-- What a function answers where a `?` leaves it.
use Rattle.std.proofs.Common.{◌≡◌, Err, Result, ap, ◌∙◌}
use Rattle.std.specs.Result.{IsErrAnd}
use Rattle.std.proofs.lemmas.Result.{err_from_is_err_and}

-- the error that the `?` met, or what was made of it
pub exit_is : {T E : Type 0} {r : Result T E} {x : E} → IsErrAnd r (λ y. y ≡ x) → r ≡ Err x
exit_is {r} h = let p = err_from_is_err_and r h in p.1 ∙ ap Err p.2
