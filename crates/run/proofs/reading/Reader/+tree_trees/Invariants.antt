use Rattle.std.proofs.Common.{◌≡◌, ◌+◌, ◌-◌, ◌*◌}
use Rattle.model.specs.Reading.{read_tree, read_trees}
use Rattle.run.specs.Reads.{rest_only}
use Rattle.run.proofs.reading.Reader.+tree_trees.Given as goal

abbrev pub decreases-tree : goal.decreases-tree
decreases-tree g l = 2 * l.room

abbrev pub decreases-trees : goal.decreases-trees
decreases-trees g l = 2 * l.room + 1

-- the trees that are left give the whole answer
abbrev pub invariant-trees-loop : goal.invariant-trees-loop
invariant-trees-loop g l =
    rest_only (read_trees (read_tree g.L.Language.layout l.room) (l.count - l.counter) l.slot l.self)
    ≡ rest_only (read_trees (read_tree g.L.Language.layout l.room) l.count l.initial.slot l.initial.self)
