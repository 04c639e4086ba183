use Rattle.std.proofs.Common.{◌∙◌}
use Rattle.image.proofs.Exits.{exit_is}
use Rattle.model.specs.Images.{entry}
use Rattle.model.proofs.Turns.{each_on, each_off}
use Rattle.image.proofs.layout.Layout.check_place_list.Goals as goal

pub returns-in_err-check_entry : goal.returns-in_err-check_entry
returns-in_err-check_entry c =
    let s = c.args.self.now in
    exit_is c.from_residual.ensures.1 ∙ each_off (entry s.bytes.now s.header.nodes) _ _ c.loop-k-test.true _ c.in_err-check_entry.ensures c.loop-k.invariant

pub loop-k-preserved : goal.loop-k-preserved
loop-k-preserved c =
    let s = c.args.self.now in
    each_on (entry s.bytes.now s.header.nodes) _ _ c.loop-k-test.true c.in_ok-check_entry.ensures c.loop-k.invariant
