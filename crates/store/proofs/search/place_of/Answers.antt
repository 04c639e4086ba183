use Rattle.std.proofs.Common.{◌+◌, ◌-◌, ◌/◌, sym, ap, ◌∙◌, arith, Some}
use Rattle.store.proofs.Ascents.{at_start, goes_up, goes_down, hits, misses, always_compared}
use Rattle.store.proofs.search.place_of.Goals as goal

pub loop-low-init : goal.loop-low-init
loop-low-init g c = at_start _ _ _ c.count-high.ensures (g.S.Store.lawful c.args.store.now).ascending

pub returns-in_err-compare : goal.returns-in_err-compare
returns-in_err-compare g c =
    let l = c.loop-low.low in
    let h = c.loop-low.high in
    absurd (always_compared _ _ l h c.loop-low.invariant (l + (h - l) / 2) (omega arith) (sym c.compare.ensures ∙ c.in_err-compare.was))

pub loop-low-preserved-in-Less : goal.loop-low-preserved-in-Less
loop-low-preserved-in-Less g c = goes_up _ _ _ _ c.loop-low.invariant _ (omega arith) (sym c.compare.ensures ∙ (c.in_ok-compare.was ∙ ap Some c.in-Less.is))

pub returns-in-Equal : goal.returns-in-Equal
returns-in-Equal g c = hits _ _ _ _ c.loop-low.invariant _ (sym c.compare.ensures ∙ (c.in_ok-compare.was ∙ ap Some c.in-Equal.is))

pub loop-low-preserved : goal.loop-low-preserved
loop-low-preserved g c = goes_down _ _ _ _ c.loop-low.invariant _ (omega arith) (omega arith) (sym c.compare.ensures ∙ (c.in_ok-compare.was ∙ ap Some c.in-Greater.is))

pub returns : goal.returns
returns g c = misses _ _ _ _ c.loop-low.invariant (omega arith)
