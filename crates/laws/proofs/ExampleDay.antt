-- The example of a whole history, call by call; each side computes.
use Rattle.std.proofs.Common.{refl}
use Rattle.model.specs.Histories.{puts, put_refused, removes, remove_refused, walks, ends, goes, made}
use Rattle.laws.specs.WorkedCases.{AWholeDay}

pub a_whole_day : AWholeDay
a_whole_day =
    made refl refl (goes (puts refl refl) (goes (put_refused refl) (goes (puts refl refl) (goes (removes refl) (goes (remove_refused refl) (goes (walks refl refl refl) ends))))))
