use Rattle.std.proofs.Common.{◌≡◌, ◌-◌, ◌<◌, length, drop, Some, ◌∙◌, arith}
use Rattle.run.specs.Places.{passes}
use Rattle.run.proofs.Passing.{pass_on, pass_out, passes_one}
use Rattle.run.proofs.find.end_of.Goals as goal

pub loop-open-preserved : goal.loop-open-preserved
loop-open-preserved c =
    let there : c.loop-open.place < length c.args.run.now = omega arith in
    pass_on c.args.run.now c.loop-open.place c.loop-open.open c.loop-open.invariant c.arity.result c.loop-open-test.true there c.arity.ensures

pub returns-then-saturating_sub-open : goal.returns-then-saturating_sub-open
returns-then-saturating_sub-open c =
    let short : length c.args.run.now - c.loop-open.place < c.loop-open.open = omega arith in
    let e = pass_out c.args.run.now c.loop-open.place c.loop-open.open c.loop-open.invariant short in
    record { is = e; tree = λ s t rest f lies. e ∙ passes_one c.args.run.now c.args.at s t rest f lies }

pub returns : goal.returns
returns c =
    let z : c.loop-open.open ≡ 0 = omega arith in
    let e : Some c.loop-open.place ≡ passes 1 (drop c.args.at c.args.run.now) c.args.at = rw z at c.loop-open.invariant in
    record { is = e; tree = λ s t rest f lies. e ∙ passes_one c.args.run.now c.args.at s t rest f lies }
