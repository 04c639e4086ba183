-- A set or a record takes one level of nesting from its elements or fields.
use Rattle.std.proofs.Common.{◌+◌, ◌*◌}
use Rattle.trial.proofs.listing.Writer.+value.Given as goal

abbrev pub decreases-value : goal.decreases-value
decreases-value l = 2 * l.nesting + 1

abbrev pub decreases-set : goal.decreases-set
decreases-set l = 2 * l.nesting + 2

abbrev pub decreases-fields : goal.decreases-fields
decreases-fields l = 2 * l.nesting + 2
