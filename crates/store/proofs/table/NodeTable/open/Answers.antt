use Rattle.std.proofs.Common.{rules}
use Rattle.laws.proofs.TableRuns.{tables_read}
use Rattle.store.proofs.table.NodeTable.open.Goals as goal

pub returns-in-Ok-clause-means : goal.returns-in-Ok-clause-means
returns-in-Ok-clause-means c = tables_read.only c.args.nodes.items c.args.firsts.items (search rules)
