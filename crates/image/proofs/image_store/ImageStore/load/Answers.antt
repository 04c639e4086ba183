use Rattle.std.proofs.Common.{ap, ◌∙◌}
use Rattle.model.specs.Images.{image_entities}
use Rattle.model.specs.Stores.{load_answer}
use Rattle.image.proofs.image_store.ImageStore.load.Goals as goal

pub returns-clause-written : goal.returns-clause-written
returns-clause-written c = c.load.ensures.written ∙ ap (λ bs. (load_answer (image_entities bs) c.args.place c.args.buffer.now).1) c.reader.ensures
