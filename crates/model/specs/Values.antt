-- Cedar's values, and their trees of nodes.
use Rattle.std.specs.Prelude.{ℕ, zero, suc, ◌+◌, Bool, false, cond, List, ℤ, pos, negsuc, Some, None, Option, ◌==◌}
use Rattle.model.specs.declared.node.Node.{Node}
use Rattle.model.specs.Nodes.{plain, under}
use Rattle.model.specs.Slots.{Uid}
use Rattle.model.specs.Trees as trees
use Rattle.model.specs.Trees.{Tree, tree, Trees, run_of}

-- a decimal in ten-thousandths, an IPv4 address with the length of its prefix, milliseconds since 1970, milliseconds;
-- an address without prefix has the prefix 32
pub data Ext : Type 0 where
  decimal : ℤ → Ext
  ipaddr : (address prefix : ℕ) → Ext
  datetime : ℤ → Ext
  duration : ℤ → Ext

-- a literal or an extension value; a string is a name
pub data Primitive : Type 0 where
  bool : Bool → Primitive
  long : ℤ → Primitive
  string : ℕ → Primitive
  uid : Uid → Primitive
  ext : Ext → Primitive

mutual
  -- a value: a literal or an extension value, a set or a record
  pub data Value : Type 0 where
    prim : Primitive → Value
    set : (elements : Values) → Value
    rec : (fields : Values) → Value

  -- the fields of a record by name, or the elements of a set, whose names are 0
  pub data Values : Type 0 where
    none : Values
    more : (name : ℕ) (of : Value) (rest : Values) → Values

-- how many fields or elements there are
abbrev pub count : Values → ℕ
count none = 0
count (more name of rest) = suc (count rest)

-- how many nodes a value has
abbrev mutual
  pub size : Value → ℕ
  size (prim x) = 1
  size (set vs) = suc (sizes vs)
  size (rec vs) = suc (sizes vs)

  pub sizes : Values → ℕ
  sizes none = 0
  sizes (more name of rest) = size of + sizes rest

-- the field of a name, with the node at which it lies where the first field lies at p
abbrev pub field_at : ℕ → ℕ → Values → Option (ℕ × Value)
field_at name p none = None
field_at name p (more m of rest) = cond (m == name) (Some (p, of)) (field_at name (p + size of) rest)

-- b of an address: 0 for no prefix, else the prefix and 1 more
abbrev pub prefix_part : ℕ → ℕ
prefix_part p = cond (p == 32) 0 (suc p)

-- the node of an extension value
abbrev pub ext_node : Ext → Node
ext_node (decimal z) = plain 7 1 0 z
ext_node (ipaddr address prefix) = plain 7 2 (prefix_part prefix) (pos address)
ext_node (datetime z) = plain 7 3 0 z
ext_node (duration z) = plain 7 4 0 z

-- the node of a uid
abbrev pub uid_node : Uid → Node
uid_node u = plain 4 u.0 u.1 (pos 0)

-- the node of a literal or an extension value
abbrev pub prim_node : Primitive → Node
prim_node (bool b) = plain 1 0 0 (pos (cond b 1 0))
prim_node (long z) = plain 2 0 0 z
prim_node (string s) = plain 3 s 0 (pos 0)
prim_node (uid u) = uid_node u
prim_node (ext x) = ext_node x

-- a value as a tree, whose root carries the name of the field or tag that it is, or 0
abbrev mutual
  pub tree_of : ℕ → Value → Tree
  tree_of f (prim x) = tree (under f (prim_node x)) trees.none
  tree_of f (set vs) = tree (under f (plain 5 (count vs) 0 (pos 0))) (trees_of vs)
  tree_of f (rec vs) = tree (under f (plain 6 (count vs) 0 (pos 0))) (trees_of vs)

  pub trees_of : Values → Trees
  trees_of none = trees.none
  trees_of (more name of rest) = trees.more (tree_of name of) (trees_of rest)

-- the run of a value
abbrev pub encode : ℕ → Value → List Node
encode f v = run_of (tree_of f v)

-- whether a signed number is 1
abbrev pub is_one : ℤ → Bool
is_one (pos n) = n == 1
is_one (negsuc n) = false

-- a signed number without its sign
abbrev pub magnitude : ℤ → ℕ
magnitude (pos n) = n
magnitude (negsuc n) = suc n

-- the prefix of an address that has this in b
abbrev pub prefix_of : ℕ → ℕ
prefix_of zero = 32
prefix_of (suc p) = p

-- the extension value that a node stands for
abbrev pub ext_of : Node → Ext
ext_of n =
    cond (n.a == 1) (decimal n.number)
    (cond (n.a == 2) (ipaddr (magnitude n.number) (prefix_of n.b))
    (cond (n.a == 3) (datetime n.number) (duration n.number)))

-- the literal or extension value that a node stands for
abbrev pub prim_of : Node → Primitive
prim_of n =
    cond (n.kind == 1) (bool (is_one n.number))
    (cond (n.kind == 2) (long n.number)
    (cond (n.kind == 3) (string n.a) (cond (n.kind == 4) (uid (n.a, n.b)) (ext (ext_of n)))))

-- the set or record of a kind with these parts, or the value x without parts
abbrev pub grouped : ℕ → Values → Value → Value
grouped kind vs x = cond (kind == 5) (set vs) (cond (kind == 6) (rec vs) x)

-- the value of a tree of the layout of values
abbrev mutual
  pub value_of : Tree → Value
  value_of (tree n ts) = grouped n.kind (values_of ts) (prim (prim_of n))

  pub values_of : Trees → Values
  values_of trees.none = none
  values_of (trees.more t ts) = more (trees.root t).field (value_of t) (values_of ts)

-- the fields of a record, and none of any other value
abbrev pub fields_of : Value → Values
fields_of (prim x) = none
fields_of (set vs) = none
fields_of (rec vs) = vs
