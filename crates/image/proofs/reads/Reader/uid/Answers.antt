use Rattle.std.proofs.Common.{Ok, Err, ap, ◌∙◌}
use Rattle.image.proofs.Exits.{exit_is}
use Rattle.image.proofs.ImageFacts.{uid_told_is, uid_missing}
use Rattle.image.proofs.reads.Reader.uid.Goals as goal

pub returns-in_err-run : goal.returns-in_err-run
returns-in_err-run c =
    let s = c.args.self.now in
    let e = c.in_err-run.ensures.err in
    exit_is c.from_residual.ensures.1 ∙ (ap Err e.1 ∙ uid_missing s.layout.bytes.now s.sound c.args.place e.0)

pub returns : goal.returns
returns c =
    let s = c.args.self.now in
    ap Ok c.uid.ensures ∙ uid_told_is s.layout.bytes.now s.sound c.args.place _ _ _ c.in_ok-run.ensures.ok c.node.ensures
