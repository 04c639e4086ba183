use Rattle.std.proofs.Common.{arith}
use Rattle.model.specs.Images.{image_node}
use Rattle.image.proofs.ImageFacts.{copy_more, copy_all}
use Rattle.image.proofs.reads.Reader.copy.Goals as goal

pub loop-i-preserved : goal.loop-i-preserved
loop-i-preserved c =
    let bs = c.args.self.now.layout.bytes.now in
    copy_more (image_node bs) c.args.run.start c.loop-i.i c.node.result (image_node bs 0) c.args.room.now c.loop-i.room (omega arith) c.node.ensures c.loop-i.invariant

pub returns : goal.returns
returns c =
    let bs = c.args.self.now.layout.bytes.now in
    copy_all (image_node bs) c.args.run.start c.loop-i.i _ c.args.room.now c.loop-i.room (omega arith) (omega arith) c.loop-i.invariant
