use Rattle.std.proofs.Common.{sym, ap, ◌∙◌, subst}
use Rattle.model.specs.Images.{node_offset}
use Rattle.image.specs.declared.frame.Header.{Header}
use Rattle.image.specs.Faultless.{Faultless}
use Rattle.image.proofs.ImageFacts.{full}
use Rattle.image.proofs.image.Image.reader.Goals as goal

pub invariant_of-result : goal.invariant_of-result
invariant_of-result c =
    let layout = c.new.result in
    let sound = subst Faultless (sym (c.new.ensures ∙ c.as_slice.ensures.value)) c.args.self.now.sound in
    record { sound = sound; full = full layout.bytes.now sound ∙ sym (ap (λ (h : Header). node_offset h.entities h.nodes) layout.announced) }
