use Rattle.std.proofs.Common.{◌≡◌, OnOk, None, subst, arith}
use Rattle.std.proofs.lemmas.Result.{on_ok_weaker}
use Rattle.model.specs.Images.{image_fault}
use Rattle.laws.proofs.ImageRuns.{images_read}
use Rattle.image.proofs.check.check_image.Goals as goal

pub returns-in-Ok-clause-ok : goal.returns-in-Ok-clause-ok
returns-in-Ok-clause-ok c =
    let bs = c.args.bytes.now in
    on_ok_weaker c.check.result (λ e. (e, images_read.only bs (λ i. omega (arith, c.type_inv.bytes i)) e)) (subst (λ v. OnOk c.check.result (image_fault v ≡ None)) c.in-Ok.ensures.ok c.check.ensures.ok)
