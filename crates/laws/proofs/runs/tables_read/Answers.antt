use Rattle.laws.proofs.TableRuns.{tables_read}
use Rattle.laws.proofs.runs.tables_read.Goals as goal

pub returns : goal.returns
returns c = tables_read
