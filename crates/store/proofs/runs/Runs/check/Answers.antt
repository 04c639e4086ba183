use Rattle.std.proofs.Common.{Some, None, arith}
use Rattle.store.proofs.Tables.{judged}
use Rattle.store.proofs.runs.Runs.check.Goals as goal

pub returns-in-None : goal.returns-in-None
returns-in-None c =
    judged c.args.self.nodes.now c.args.self.firsts.now 18446744073709551616 {r = None} c.in-None.is (omega arith) c.in_default.ensures c.table_faults.ensures c.keep_faults.ensures

pub returns-in-Some-keep_faults : goal.returns-in-Some-keep_faults
returns-in-Some-keep_faults c =
    judged c.args.self.nodes.now c.args.self.firsts.now 18446744073709551616 {r = Some c.in-Some-keep_faults.fault} c.in-Some-keep_faults.is (omega arith) c.in_default.ensures c.table_faults.ensures c.keep_faults.ensures
