use Rattle.std.proofs.Common.{◌≡◌, is_some, None, refl, ap, subst}
use Rattle.model.specs.Images.{image_fault, image_entities}
use Rattle.image.specs.Faultless.{Faultless}
use Rattle.image.specs.Opens.{BytesOf}
use Rattle.image.proofs.image.Image.open.Goals as goal

pub invariant_of-result : goal.invariant_of-result
invariant_of-result c = record { sound = subst Faultless c.as_slice.ensures.value (ap is_some c.in-Ok.ensures.ok.0) }

pub returns-in-Ok-clause-opened : goal.returns-in-Ok-clause-opened
returns-in-Ok-clause-opened c =
    let e = c.as_slice.ensures.value in
    let ok = c.in-Ok.ensures.ok in
    (refl, subst (λ bs. image_fault bs ≡ None) e ok.0, subst (λ bs. BytesOf bs (image_entities bs)) e ok.1)
