use Rattle.std.proofs.Common.{ap, ◌∙◌, arith}
use Rattle.std.proofs.lemmas.Option.{MatchOption-at_some}
use Rattle.model.specs.Images.{node_offset}
use Rattle.image.specs.declared.frame.Header.{Header}
use Rattle.image.proofs.ImageFacts.{kind_known}
use Rattle.image.proofs.reads.Reader.view.Goals as goal

pub view-requires : goal.view-requires
view-requires c =
    let s = c.args.self.now in
    let j = c.args.j in
    let n = ap (λ (h : Header). h.nodes) s.layout.announced in
    let o = c.node_offset-offset.ensures ∙ ap (λ (h : Header). node_offset h.entities j) s.layout.announced in
    let b = MatchOption-at_some _ _ c.unwrap-bytes.result c.unwrap-bytes.ensures c.chunk.ensures in
    kind_known s.layout.bytes.now s.sound j _ _ (omega arith) o b.1
