-- What a table of nodes answers, and of which nodes there is one.
use Rattle.std.proofs.Common.{◌≡◌, ℕ, ◌<◌, ◌≤◌, List, ◌++◌, length, Some, None, Option, sym, ap, ◌∙◌, arith}
use Rattle.model.specs.declared.node.Node.{Node}
use Rattle.model.specs.declared.fault.Fault.{Fault}
use Rattle.model.specs.Checks.{Checked}
use Rattle.model.specs.Options.{unless}
use Rattle.model.specs.Faults.{least, least_with}
use Rattle.model.specs.Entities.{Entity, entity_run}
use Rattle.model.specs.Stores.{entity_at, run_at, entities_of, broken_entry, table_faults, run_faults, unless_entry, table_fault}
use Rattle.laws.proofs.TableRuns.{tables_read}
use Rattle.laws.proofs.WholeRuns.{sound, table_whole, entities_length, entity_there, none_there}
use Rattle.store.specs.Entries.{told, by_entity, AllBelow}
use Rattle.store.proofs.Keeping.{keeps_both}
use Rattle.store.specs.Opens.{NodesOf}

-- there are as many entities as first nodes
pub counted : (ns : List Node) (fs : List ℕ) → table_fault ns fs ≡ None → length (entities_of ns fs) ≡ length fs
counted ns fs h = entities_length ns fs (table_whole ns fs h)

-- the entity at a place has the run there
pub found : (ns : List Node) (fs : List ℕ) (k : ℕ) → table_fault ns fs ≡ None → k < length fs → (e : Entity) × (entity_at (entities_of ns fs) k ≡ Some e) × (run_at ns fs k ≡ entity_run e)
found ns fs k h l = let there = entity_there ns fs (table_whole ns fs h) k l in (there.0, there.1.0, sym there.1.1.1)

-- beyond the last there is none
pub missing : (ns : List Node) (fs : List ℕ) (k : ℕ) → table_fault ns fs ≡ None → length fs ≤ k → entity_at (entities_of ns fs) k ≡ None
missing ns fs k h l = none_there ns fs (table_whole ns fs h) k l

-- nodes with a fault are those of no list
pub of_none : (ns : List Node) (fs : List ℕ) (f : Fault) → table_fault ns fs ≡ Some f → (es : List Entity) → NodesOf ns fs es → ⊥
of_none ns fs f h es n =
    let a = (tables_read.every es n.0).0 in
    let e : table_fault ns fs ≡ None = ap (λ v. table_fault v fs) (sym n.1) ∙ (ap (table_fault _) (sym n.2) ∙ a) in
    cc

-- where no entry is broken, the first nodes lie below the number of nodes, and the least fault is the answer
pub judged : (ns : List Node) (fs : List ℕ) (room : ℕ) {kept o r : Option Fault} → o ≡ r → length ns ≤ room → None ≡ broken_entry (length ns) fs → kept ≡ least (table_faults ns fs)
    → (AllBelow room fs → o ≡ least_with kept (run_faults (told by_entity fs) ns fs)) → ◌≡◌ {A = Checked} (unless r tt) (unless (table_fault ns fs) tt)
judged ns fs room is l b t h =
    ap (λ o. unless o tt) (sym is
    ∙ h (λ k m. let s = (sound (length ns) fs (sym b)).below k m in omega arith)
    ∙ (ap (λ x. least_with x (run_faults (told by_entity fs) ns fs)) t
    ∙ (keeps_both (table_faults ns fs) (run_faults (told by_entity fs) ns fs) None
    ∙ ap (λ e. unless_entry e (least (table_faults ns fs ++ run_faults (told by_entity fs) ns fs))) b)))
