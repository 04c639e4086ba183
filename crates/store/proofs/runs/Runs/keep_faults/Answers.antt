use Rattle.std.proofs.Common.{ℕ, ◌<◌, length, arith, rules, refl}
use Rattle.std.proofs.iter.Yields.{nat_range_steps}
use Rattle.std.proofs.lemmas.Fn.{fold_over}
use Rattle.std.proofs.lemmas.Iterator.{YieldsList-from_range}
use Rattle.std.specs.List.{range_with_len}
use Rattle.model.specs.Stores.{first_at, faults_at}
use Rattle.store.specs.Entries.{told}
use Rattle.store.proofs.Keeping.{Keeps, keeps_on, keeps_all}
use Rattle.store.proofs.runs.Runs.keep_faults.Goals as goal

pub returns : goal.returns
returns g c = λ low.
    let fs = c.args.self.firsts.now in
    let kept = c.args.kept in
    let f = faults_at (told (g.P.FaultPlaces.telling c.args.places.now) fs) c.args.self.nodes.now fs in
    let Told = λ (k : ℕ). first_at fs k < g.P.FaultPlaces.room c.args.places.now in
    let n = length fs in
    keeps_all f Told kept n c.fold.result low
    (fold_over nat_range_steps (λ k. k) _ (Keeps f Told kept) _ (λ ks o k r s before call. (keeps_on f Told kept ks k o r before (search rules), search rules)) _ (range_with_len 0 n) kept c.fold.result (YieldsList-from_range 0 n n refl (omega arith)).runs (λ h. refl) c.fold.ensures.ran)
