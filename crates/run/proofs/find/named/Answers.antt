use Rattle.run.proofs.FieldPlaces.{field_on}
use Rattle.run.proofs.find.named.Goals as goal

pub loop-preserved : goal.loop-preserved
loop-preserved c =
    field_on c.args.run.now c.args.name c.args.count c.loop.counter c.loop.place c.in_ok-place.place c.loop-test.true c.in_ok-get.ensures.lookup.3 c.if-branch-name.false c.in_ok-place.ensures.is c.loop.invariant
