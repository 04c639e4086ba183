use Rattle.std.proofs.Common.{not, length, rules, refl, sym, ◌∙◌, arith}
use Rattle.std.proofs.lemmas.Iterator.{YieldsList-from_range}
use Rattle.std.proofs.lemmas.Iterator.Adapters.{option_map_id}
use Rattle.std.proofs.lemmas.Iterator.Search.{find_from_yields_List}
use Rattle.model.specs.Stores.{entry_sound}
use Rattle.store.proofs.Searches.{first_found}
use Rattle.store.proofs.runs.Runs.broken_entry.Goals as goal

pub returns : goal.returns
returns c =
    let v = length c.args.self.nodes.now in
    let fs = c.args.self.firsts.now in
    sym (option_map_id c.find.result)
    ∙ (find_from_yields_List (λ k. not (entry_sound v fs k)) _ _ c.find.result c.find.ensures.ran (YieldsList-from_range 0 (length fs) (length fs) refl (omega arith)) (λ x b q k. search rules)
    ∙ first_found (λ k. not (entry_sound v fs k)) (length fs) 0)
