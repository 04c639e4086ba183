use Rattle.std.proofs.Common.{◌<◌, length, arith}
use Rattle.std.proofs.lemmas.Result.{err_from_is_err_and}
use Rattle.image.proofs.Drafting.{never_refused, loads, at_place, at_place_is, drafted_more}
use Rattle.image.proofs.LimitNode.{not_added}
use Rattle.image.proofs.draft.Draft.of_store.Goals as goal

pub returns-in_err-length-clause-err : goal.returns-in_err-length-clause-err
returns-in_err-length-clause-err g c =
    let es = g.S.Store.entities c.args.store.now in
    let l : c.loop-place.place < length es = omega (arith, c.loop-place-test.true, c.count-place-end.ensures) in
    absurd (never_refused es (g.S.Store.lawful c.args.store.now) c.loop-place.place l c.loop-place.buffer c.loop-place.invariant.1 _ c.in_err-length.ensures.answer)

pub returns-in_err-add-clause-err : goal.returns-in_err-add-clause-err
returns-in_err-add-clause-err g c =
    let es = g.S.Store.entities c.args.store.now in
    let law = g.S.Store.lawful c.args.store.now in
    let k = c.loop-place.place in
    let l : k < length es = omega (arith, c.loop-place-test.true, c.count-place-end.ensures) in
    let long = c.loop-place.invariant.1 in
    let is = loads es law k l c.loop-place.buffer long _ _ c.in_ok-length.ensures.answer c.in_ok-length.ensures.written in
    let p = err_from_is_err_and c.from_residual-in_err-add.result c.from_residual-in_err-add.ensures.1 in
    rw (p.1, p.2) (not_added es k (at_place es law k l c.loop-place.buffer long) (at_place_is es law k l c.loop-place.buffer long) l _ c.loop-place.draft c.add.new.self _ is.1 c.loop-place.invariant.0.counted c.in_err-add.ensures)

pub loop-place-preserved : goal.loop-place-preserved
loop-place-preserved g c =
    let es = g.S.Store.entities c.args.store.now in
    let law = g.S.Store.lawful c.args.store.now in
    let k = c.loop-place.place in
    let l : k < length es = omega (arith, c.loop-place-test.true, c.count-place-end.ensures) in
    let long = c.loop-place.invariant.1 in
    let is = loads es law k l c.loop-place.buffer long _ _ c.in_ok-length.ensures.answer c.in_ok-length.ensures.written in
    (drafted_more es k (at_place es law k l c.loop-place.buffer long) (at_place_is es law k l c.loop-place.buffer long) c.loop-place.draft c.add.new.self _ is.1 c.loop-place.invariant.0 c.in_ok-add.ensures, is.2)
