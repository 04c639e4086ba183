-- Cedar's types, and their trees of nodes.
use Rattle.std.specs.Prelude.{ℕ, suc, ◌+◌, Bool, true, false, cond, List, [], ◌∷◌, ◌++◌, pos, Some, None, Option, ◌==◌}
use Rattle.model.specs.declared.node.Node.{Node}
use Rattle.model.specs.Trees as trees
use Rattle.model.specs.Trees.{Tree, tree, Trees, run_of}
use Rattle.model.specs.Values.{is_one}

-- the types that are one node: True and False are the types of one Bool alone, `entities` an entity of several types,
-- `any_set` a set without element type, and `extension 0` an extension that is not known
pub data Flat : Type 0 where
  bool true_type false_type long string any_entity entities any_set never : Flat
  entity : ℕ → Flat
  extension : ℕ → Flat

mutual
  -- a type: one without parts, a set of elements of a type, or a record, open or closed
  pub data Ty : Type 0 where
    flat : Flat → Ty
    set : (element : Ty) → Ty
    rec : (is_open : Bool) (fields : Tys) → Ty

  -- the fields of a record, each required or optional
  pub data Tys : Type 0 where
    none : Tys
    more : (name : ℕ) (required : Bool) (of : Ty) (rest : Tys) → Tys

-- how many fields there are
abbrev pub count : Tys → ℕ
count none = 0
count (more name required of rest) = suc (count rest)

-- how many nodes a type has
abbrev mutual
  pub size : Ty → ℕ
  size (flat x) = 1
  size (set t) = suc (size t)
  size (rec o ts) = suc (sizes ts)

  pub sizes : Tys → ℕ
  sizes none = 0
  sizes (more name required of rest) = size of + sizes rest

-- whether the field of a name is required, and its type
abbrev pub field : ℕ → Tys → Option (Bool × Ty)
field name none = None
field name (more m required of rest) = cond (m == name) (Some (required, of)) (field name rest)

-- the kind of the node of a type without parts
abbrev pub flat_kind : Flat → ℕ
flat_kind bool = 1
flat_kind true_type = 2
flat_kind false_type = 3
flat_kind long = 4
flat_kind string = 5
flat_kind any_entity = 7
flat_kind entities = 8
flat_kind any_set = 11
flat_kind never = 14
flat_kind (entity n) = 6
flat_kind (extension c) = 9

-- what that node has in a: the name of an entity type, the code of an extension type, else 0
abbrev pub flat_part : Flat → ℕ
flat_part bool = 0
flat_part true_type = 0
flat_part false_type = 0
flat_part long = 0
flat_part string = 0
flat_part any_entity = 0
flat_part entities = 0
flat_part any_set = 0
flat_part never = 0
flat_part (entity n) = n
flat_part (extension c) = c

-- a node of a type; the root of a field has its name, and 1 if it is required
abbrev pub type_node : (kind a name : ℕ) → Bool → Node
type_node kind a name required = record { kind = kind; field = name; a = a; b = 0; number = pos (cond required 1 0) }

-- a type as a tree, whose root carries the name of the field that it is, or 0, and whether it is required
abbrev mutual
  pub tree_of : ℕ → Bool → Ty → Tree
  tree_of f q (flat x) = tree (type_node (flat_kind x) (flat_part x) f q) trees.none
  tree_of f q (set t) = tree (type_node 10 0 f q) (trees.more (tree_of 0 false t) trees.none)
  tree_of f q (rec o ts) = tree (type_node (cond o 13 12) (count ts) f q) (trees_of ts)

  pub trees_of : Tys → Trees
  trees_of none = trees.none
  trees_of (more name required of rest) = trees.more (tree_of name required of) (trees_of rest)

-- the run of a type by itself
abbrev pub encode : Ty → List Node
encode t = run_of (tree_of 0 false t)

-- the type without parts that a node stands for
abbrev pub flat_of : Node → Flat
flat_of n =
    cond (n.kind == 1) bool (cond (n.kind == 2) true_type (cond (n.kind == 3) false_type
    (cond (n.kind == 4) long (cond (n.kind == 5) string (cond (n.kind == 6) (entity n.a)
    (cond (n.kind == 7) any_entity (cond (n.kind == 8) entities (cond (n.kind == 9) (extension n.a)
    (cond (n.kind == 11) any_set never)))))))))

-- the element type of a set: the first of its children
abbrev pub first_type : Tys → Ty
first_type none = flat never
first_type (more name required of rest) = of

-- the set or record type of a kind with these children, or the type x without parts
abbrev pub grouped : ℕ → Tys → Ty → Ty
grouped kind ts x =
    cond (kind == 10) (set (first_type ts)) (cond (kind == 12) (rec false ts) (cond (kind == 13) (rec true ts) x))

-- the type of a tree of the layout of types
abbrev mutual
  pub type_of : Tree → Ty
  type_of (tree n ts) = grouped n.kind (types_of ts) (flat (flat_of n))

  pub types_of : Trees → Tys
  types_of trees.none = none
  types_of (trees.more t ts) = more (trees.root t).field (is_one (trees.root t).number) (type_of t) (types_of ts)

-- the fields of a record type, and none of any other
abbrev pub fields_of : Ty → Tys
fields_of (flat x) = none
fields_of (set t) = none
fields_of (rec o ts) = ts

-- the entity types that a type names
abbrev pub flat_names : Flat → List ℕ
flat_names bool = []
flat_names true_type = []
flat_names false_type = []
flat_names long = []
flat_names string = []
flat_names any_entity = []
flat_names entities = []
flat_names any_set = []
flat_names never = []
flat_names (entity n) = n ∷ []
flat_names (extension c) = []

-- the entity types that a type names, and those that a record's fields name
abbrev mutual
  pub names : Ty → List ℕ
  names (flat x) = flat_names x
  names (set t) = names t
  names (rec o ts) = all_names ts

  pub all_names : Tys → List ℕ
  all_names none = []
  all_names (more name required of rest) = names of ++ all_names rest
