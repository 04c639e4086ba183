use Rattle.std.proofs.Common.{sym, ap, ◌∙◌, subst}
use Rattle.model.specs.declared.kind.ValueKind.TheVariants.{Bool, Long, String, Uid, Set, Record, Extension}
use Rattle.model.specs.Kinds.{Known}
use Rattle.laws.proofs.NodeKinds.{known_head}
use Rattle.image.specs.Views.{viewed}
use Rattle.image.proofs.view.NodeBytes.view.Goals as goal

pub returns-in-Err : goal.returns-in-Err
returns-in-Err c =
    let h = c.in-Err.ensures.1 in
    let k = subst Known (sym c.u32_at.ensures) c.requires in
    let nine = known_head c.u32_at.result k (λ e. h Bool (sym e)) (λ e. h Long (sym e)) (λ e. h String (sym e)) (λ e. h Uid (sym e)) (λ e. h Set (sym e)) (λ e. h Record (sym e)) (λ e. h Extension (sym e)) in
    ap (λ n. viewed n c.args.self.bytes.now c.args.self.offset) (sym nine ∙ c.u32_at.ensures)
