use Rattle.std.proofs.Common.{◌<◌, length, ◌∙◌}
use Rattle.model.specs.Stores.{run_at}
use Rattle.store.proofs.Tables.{found}
use Rattle.store.proofs.table.NodeTable.run.Goals as goal

pub returns-clause-found : goal.returns-clause-found
returns-clause-found c =
    let ns = c.args.self.now.nodes.items in
    let fs = c.args.self.now.firsts.items in
    let l : c.args.place < length fs = rw c.runs-runs.ensures.firsts at c.if-place-runs.false in
    let there = found ns fs c.args.place c.args.self.now.sound l in
    (there.0, there.1, c.run_at.ensures ∙ ((λ i. run_at (c.runs-runs.ensures.nodes i) (c.runs-runs.ensures.firsts i) c.args.place) ∙ there.2))
