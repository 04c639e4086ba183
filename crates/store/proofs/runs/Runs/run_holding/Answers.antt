use Rattle.std.proofs.Common.{rules, ◌∙◌}
use Rattle.store.proofs.Searches.{holding}
use Rattle.store.proofs.runs.Runs.run_holding.Goals as goal

pub returns : goal.returns
returns c =
    c.unwrap_or.ensures ∙ holding c.args.j c.args.self.firsts.now c.rposition.result (search rules)
