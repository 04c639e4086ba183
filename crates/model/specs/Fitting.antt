-- Lists of entities that fit into a table of nodes or an image.
use Rattle.std.specs.Prelude.{◌≤◌, List, length}
use Rattle.model.specs.Entities.{Entity}
use Rattle.model.specs.Stores.{Lawful}
use Rattle.model.specs.Images.{entity_runs}

-- a list within the limits of a store, uids ascending, with at most 65,536 nodes; that the nodes fit their parts, as every
-- node in memory does, is `RunsFitParts` of `Stores`
pub record Storable (es : List Entity) : Type 0 where
  pub lawful : Lawful es
  pub many : length (entity_runs es) ≤ 65536
