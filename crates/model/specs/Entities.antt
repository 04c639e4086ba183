-- Entities and requests, and their runs.
use Rattle.std.specs.Prelude.{◌≡◌, ◌+◌, ◌≤◌, true, false, ◌&&◌, List, [], ◌∷◌, ◌++◌, map, length, pos, None, Ok, Result, ◌==◌, nat_le}
use Rattle.model.specs.declared.node.Node.{Node}
use Rattle.model.specs.Trees.{Tree, tree, Trees, none, more, root, run_of, runs_of, nesting, nestings}
use Rattle.model.specs.declared.slot.Slot.{Slot}
use Rattle.model.specs.declared.slot.Slot.TheVariants.{Plain, Named, ARecord, AUid, Ancestor}
use Rattle.model.specs.Slots.{Uid}
use Rattle.model.specs.Layouts.{Layout, values, is_name, signed_below}
use Rattle.model.specs.Reading.{Rest, Read, Refused, and_then, read_node, read_tree, read_trees, start, whole}
use Rattle.model.specs.Formed.{fits, keeps, all_fit, all_keep}
use Rattle.model.specs.Values.{Values, count, rec, uid_node, tree_of, trees_of, value_of, values_of, fields_of, magnitude}

-- an entity: its uid, attributes, ancestors and tags
pub record Entity : Type 0 where
  pub uid : Uid
  pub attributes : Values
  pub ancestors : List Uid
  pub tags : Values

-- a request: principal, action, resource, and the fields of the context
pub record Request : Type 0 where
  pub principal : Uid
  pub action : Uid
  pub resource : Uid
  pub context : Values

-- kind 9: the type in a, the id in b, how many ancestors in `field` and how many tags in `number`
abbrev pub head : Entity → Node
head e = record { kind = 9; field = length e.ancestors; a = e.uid.0; b = e.uid.1; number = pos (count e.tags) }

-- the head, the attributes as a record, the ancestors as uids, the tags
abbrev pub entity_run : Entity → List Node
entity_run e = head e ∷ (run_of (tree_of 0 (rec e.attributes)) ++ (map uid_node e.ancestors ++ runs_of (trees_of e.tags)))

-- principal, action and resource as uids, and the context as a record
abbrev pub request_run : Request → List Node
request_run q = uid_node q.principal ∷ (uid_node q.action ∷ (uid_node q.resource ∷ run_of (tree_of 0 (rec q.context))))

-- the layout of an entity's head: at most 64 ancestors and 64 tags
abbrev pub heads : Layout
heads = record {
  takes = λ s n. (n.kind == 9) && signed_below (magnitude n.number + 1) n.number;
  keeps = λ s n. is_name n.a && (is_name n.b && (nat_le n.field 64 && nat_le (magnitude n.number) 64));
  arity = λ n. 0;
  inside = λ n. Plain;
}

-- the uid that the root of a tree names
abbrev pub uid_of : Tree → Uid
uid_of t = ((root t).a, (root t).b)

-- the uids that the roots of some trees name
abbrev pub uids_of : Trees → List Uid
uids_of none = []
uids_of (more t ts) = uid_of t ∷ uids_of ts

-- the entity of a head and of the trees of its attributes, ancestors and tags
abbrev pub entity_of : Node → Tree → Trees → Trees → Entity
entity_of h attributes ancestors tags = record {
  uid = (h.a, h.b);
  attributes = fields_of (value_of attributes);
  ancestors = uids_of ancestors;
  tags = values_of tags;
}

-- the uid that the first node of a run names
abbrev pub head_uid : List Node → Uid
head_uid [] = (0, 0)
head_uid (n ∷ ns) = (n.a, n.b)

-- the tree of the value that stands next in a run
abbrev pub read_value : Slot → Rest → Read Tree
read_value = read_tree values 16

-- the entity of a run, or the refusal and its node
abbrev pub read_entity : List Node → Result Entity Refused
read_entity run = whole (
    and_then (read_node heads false Plain (start run)) (λ h r.
    and_then (read_value ARecord r) (λ attributes r'.
    and_then (read_trees read_value h.field (Ancestor None) r') (λ ancestors r''.
    and_then (read_trees read_value (magnitude h.number) (Named None) r'') (λ tags r'''.
    Ok (entity_of h attributes ancestors tags, r'''))))))

-- the request of the trees of principal, action, resource and context
abbrev pub request_of : Tree → Tree → Tree → Tree → Request
request_of p a r c = record { principal = uid_of p; action = uid_of a; resource = uid_of r; context = fields_of (value_of c) }

-- the request of a run, or the refusal and its node
abbrev pub read_request : List Node → Result Request Refused
read_request run = whole (
    and_then (read_value AUid (start run)) (λ p r.
    and_then (read_value AUid r) (λ a r'.
    and_then (read_value AUid r') (λ s r''.
    and_then (read_value ARecord r'') (λ c r'''.
    Ok (request_of p a s c, r'''))))))

-- the attributes of an entity as the tree of a record
abbrev pub attributes_tree : Entity → Tree
attributes_tree e = tree_of 0 (rec e.attributes)

-- some uids as trees of one node each
abbrev pub uid_trees : List Uid → Trees
uid_trees [] = none
uid_trees (u ∷ us) = more (tree (uid_node u) none) (uid_trees us)

-- an entity within the limits: what a store may hold
pub record FormedEntity (e : Entity) : Type 0 where
  pub named_type : is_name e.uid.0 ≡ true
  pub named_id : is_name e.uid.1 ≡ true
  pub attributes : fits values ARecord (attributes_tree e) ≡ true
  pub kept_attributes : keeps values ARecord (attributes_tree e) ≡ true
  pub shallow_attributes : nesting (attributes_tree e) ≤ 16
  pub few_ancestors : length e.ancestors ≤ 64
  pub ancestors : all_fit values (Ancestor None) (uid_trees e.ancestors) ≡ true
  pub kept_ancestors : all_keep values (Ancestor None) (uid_trees e.ancestors) ≡ true
  pub few_tags : count e.tags ≤ 64
  pub tags : all_fit values (Named None) (trees_of e.tags) ≡ true
  pub kept_tags : all_keep values (Named None) (trees_of e.tags) ≡ true
  pub shallow_tags : nestings (trees_of e.tags) ≤ 16
  pub short : length (entity_run e) ≤ 4096

-- a request within the limits
pub record FormedRequest (q : Request) : Type 0 where
  pub uids : all_keep values AUid (uid_trees (q.principal ∷ (q.action ∷ (q.resource ∷ [])))) ≡ true
  pub context : fits values ARecord (tree_of 0 (rec q.context)) ≡ true
  pub kept_context : keeps values ARecord (tree_of 0 (rec q.context)) ≡ true
  pub shallow_context : nesting (tree_of 0 (rec q.context)) ≤ 16
  pub short : length (request_run q) ≤ 4096
