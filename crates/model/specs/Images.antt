-- The image of a store: a header of four u32 (entities E, nodes V, offset of the place list, offset of the nodes),
-- the place list of E u32, each the index of the first node of an entity's run, and V nodes of 24 bytes.
-- Every fault of an image lies in the image layer, at the offset of a header field, list entry or node.
use Rattle.std.specs.Prelude.{ℕ, zero, suc, ◌+◌, ◌-◌, ◌*◌, ◌/◌, ◌%◌, min, Bool, cond, ◌&&◌, List, [], ◌∷◌, ◌++◌, map, length, take, drop, Some, None, Ok, Err, Option, ◌==◌, nat_le, nat_lt}
use Rattle.std.specs.Int.{w64}
use Rattle.std.proofs.Common.{of_z}
use Rattle.std.specs.List.{range_with_len}
use Rattle.model.specs.declared.fault.Refusal.TheVariants.{Malformed, Limit}
use Rattle.model.specs.declared.fault.Layer.TheVariants.{Image}
use Rattle.model.specs.declared.node.Node.{Node}
use Rattle.model.specs.declared.fault.Fault.{Fault}
use Rattle.model.specs.declared.fault.Refusal.{Refusal}
use Rattle.model.specs.Bytes.{within, u32_at, node_at}
use Rattle.model.specs.Checks.{Checked, require, then, each, in_turn}
use Rattle.model.specs.Faults.{placed, least}
use Rattle.model.specs.Entities.{Entity, entity_run}
use Rattle.model.specs.Stores.{run_faults, entities_of}

-- the number of entities that the header announces
abbrev pub entity_count : List ℕ → ℕ
entity_count bs = u32_at bs 0

-- the number of nodes that the header announces
abbrev pub node_count : List ℕ → ℕ
node_count bs = u32_at bs 4

-- where the entry k of the place list stands, and what it says
abbrev pub entry_offset : ℕ → ℕ
entry_offset k = 16 + k * 4

-- the index of the first node of the run k
abbrev pub first_node : List ℕ → ℕ → ℕ
first_node bs k = u32_at bs (entry_offset k)

-- where the node j of an image of e entities stands
abbrev pub node_offset : ℕ → ℕ → ℕ
node_offset e j = 16 + e * 4 + j * 24

-- the i-th of n things, counted from 0, or none
abbrev pub numbered : {X : Type 0} → ℕ → ℕ → Option X → Option X
numbered i n x = cond (nat_lt i n) x None

-- what must hold at an offset, else the layout is broken there
abbrev pub laid_out : Bool → ℕ → Checked
laid_out b at = require b (placed Malformed Image at)

-- the four header fields are there, and the offsets are those of the list and of the nodes
abbrev pub header : List ℕ → Checked
header bs = in_turn (
    laid_out (within bs 0 4) 0
    ∷ laid_out (within bs 4 4) 4
    ∷ laid_out (within bs 8 4 && u32_at bs 8 == 16) 8
    ∷ laid_out (within bs 12 4 && u32_at bs 12 == node_offset (entity_count bs) 0) 12
    ∷ [])

-- an entry of the place list is there; it is 0 at first and then above the one before, and below the number v of nodes
abbrev pub entry : List ℕ → ℕ → ℕ → Checked
entry bs v k = in_turn (
    laid_out (within bs (entry_offset k) 4) (entry_offset k)
    ∷ laid_out (cond (k == 0) (first_node bs k == 0) (nat_lt (first_node bs (k - 1)) (first_node bs k))) (entry_offset k)
    ∷ laid_out (nat_lt (first_node bs k) v) (entry_offset k)
    ∷ [])

-- every entry of the place list is there and sound
abbrev pub place_list : List ℕ → ℕ → ℕ → Checked
place_list bs e v = each (entry bs v) e 0

-- the node j is there, and there is an entity that it can belong to
abbrev pub node_there : List ℕ → ℕ → ℕ → Checked
node_there bs e j = laid_out (nat_lt 0 e && within bs (node_offset e j) 24) (node_offset e j)

-- every announced node is there
abbrev pub nodes_there : List ℕ → ℕ → ℕ → Checked
nodes_there bs e v = each (node_there bs e) v 0

-- nothing follows the last node
abbrev pub ends : List ℕ → ℕ → ℕ → Checked
ends bs e v = laid_out (nat_le (length bs) (node_offset e v)) (node_offset e v)

-- at most 1,024 entities and 65,536 nodes
abbrev pub counts : ℕ → ℕ → Checked
counts e v = in_turn (
    require (nat_le e 1024) (placed Limit Image 0)
    ∷ require (nat_le v 65536) (placed Limit Image 4)
    ∷ [])

-- what follows the header of an image of e entities and v nodes: a broken layout stands before a passed limit
abbrev pub body : List ℕ → ℕ → ℕ → Checked
body bs e v = in_turn (place_list bs e v ∷ nodes_there bs e v ∷ ends bs e v ∷ counts e v ∷ [])

-- the frame of an image: its header, and the place list and nodes that the header announces
abbrev pub frame : List ℕ → Checked
frame bs = then (header bs) (body bs (entity_count bs) (node_count bs))

-- the node j of the image, where its bytes are there
abbrev pub image_node : List ℕ → ℕ → Node
image_node bs j = node_at bs (node_offset (entity_count bs) j)

-- the nodes that are wholly there, of those that are announced, and the entries of the place list
abbrev pub whole_nodes : List ℕ → ℕ
whole_nodes bs = min (node_count bs) ((length bs - node_offset (entity_count bs) 0) / 24)

-- the nodes of an image that are wholly there
abbrev pub image_nodes : List ℕ → List Node
image_nodes bs = map (image_node bs) (range_with_len 0 (whole_nodes bs))

-- the entries of the place list
abbrev pub place_entries : List ℕ → List ℕ
place_entries bs = map (first_node bs) (range_with_len 0 (entity_count bs))

-- a refusal at the node p, from 1, of the run k stands at that node's offset
abbrev pub at_offset : List ℕ → ℕ → ℕ → Refusal → Fault
at_offset bs k p r = placed r Image (node_offset (entity_count bs) (first_node bs k + p - 1))

-- the fault of a check, if it found one
abbrev pub fault_of : Checked → List Fault
fault_of (Ok u) = []
fault_of (Err f) = f ∷ []

-- the faults behind a whole place list: missing nodes, bytes left over, counts, and those of the runs
abbrev pub node_faults : List ℕ → List Fault
node_faults bs =
    fault_of (nodes_there bs (entity_count bs) (node_count bs))
    ++ (fault_of (ends bs (entity_count bs) (node_count bs))
    ++ (fault_of (counts (entity_count bs) (node_count bs)) ++ run_faults (at_offset bs) (image_nodes bs) (place_entries bs)))

-- the fault of a check stands alone; else the rest decides
abbrev pub unless_broken : Checked → Option Fault → Option Fault
unless_broken (Ok u) rest = rest
unless_broken (Err f) rest = Some f

-- what opening an image refuses: a broken header or place list, and else the least fault
abbrev pub image_fault : List ℕ → Option Fault
image_fault bs = unless_broken (then (header bs) (place_list bs (entity_count bs) (node_count bs))) (least (node_faults bs))

-- the entities of an image
abbrev pub image_entities : List ℕ → List Entity
image_entities bs = entities_of (image_nodes bs) (place_entries bs)

-- a node of the image as it is handed out: its kind, its 24 bytes and its offset
pub record View : Type 0 where
  pub kind : ℕ
  pub bytes : List ℕ
  pub offset : ℕ

-- the view of the node at an offset
abbrev pub view_at : List ℕ → ℕ → View
view_at bs offset = record { kind = u32_at bs offset; bytes = take 24 (drop offset bs); offset = offset }

-- the view of the node j, where there is such a node
abbrev pub image_view : List ℕ → ℕ → Option View
image_view bs j = numbered j (node_count bs) (Some (view_at bs (node_offset (entity_count bs) j)))

-- Writing

-- the lowest n bytes of a number, the lowest first
abbrev pub low_bytes : ℕ → ℕ → List ℕ
low_bytes zero v = []
low_bytes (suc n) v = v % 256 ∷ low_bytes n (v / 256)

-- the 24 bytes of a node
abbrev pub node_bytes : Node → List ℕ
node_bytes n =
    low_bytes 4 n.kind ++ (low_bytes 4 n.field ++ (low_bytes 4 n.a ++ (low_bytes 4 n.b ++ low_bytes 8 (of_z w64 n.number))))

-- the bytes of each thing of a list, in turn
abbrev pub joined : {X : Type 0} → (X → List ℕ) → List X → List ℕ
joined f [] = []
joined f (x ∷ xs) = f x ++ joined f xs

-- the runs of some entities, in turn
abbrev pub entity_runs : List Entity → List Node
entity_runs [] = []
entity_runs (e ∷ es) = entity_run e ++ entity_runs es

-- the index of the first node of each run, where the first of them begins at p
abbrev pub first_nodes : ℕ → List Entity → List ℕ
first_nodes p [] = []
first_nodes p (e ∷ es) = p ∷ first_nodes (p + length (entity_run e)) es

-- the image of a list of entities
abbrev pub image_of : List Entity → List ℕ
image_of es =
    low_bytes 4 (length es) ++ (low_bytes 4 (length (entity_runs es)) ++ (low_bytes 4 16 ++ (low_bytes 4 (node_offset (length es) 0)
    ++ (joined (low_bytes 4) (first_nodes 0 es) ++ joined node_bytes (entity_runs es)))))
