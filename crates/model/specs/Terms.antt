-- Term types and terms, as in Lean SymCC, with their order and their nodes.
use Rattle.std.specs.Prelude.{ℕ, suc, ◌+◌, Bool, true, false, cond, ◌&&◌, List, [], ◌∷◌, ℤ, pos}
use Rattle.std.specs.declared.cmp.Ordering.TheVariants.{Less, Equal, Greater}
use Rattle.std.specs.declared.cmp.Ordering.{Ordering}
use Rattle.std.specs.Int.{w64}
use Rattle.std.proofs.Common.{to_z}
use Rattle.std.specs.Ordering.{ordering_then, is_lt}
use Rattle.model.specs.declared.node.Node.{Node}
use Rattle.model.specs.Nodes.{plain, under}
use Rattle.model.specs.Slots.{Uid}
use Rattle.model.specs.Orders.{by_number, by_integers}
use Rattle.model.specs.Trees as trees
use Rattle.model.specs.Trees.{Tree, tree, Trees, run_of}
use Rattle.model.specs.Values.{Ext, decimal, ipaddr, datetime, duration, ext_node, uid_node}

-- the extension types
pub data ExtTy : Type 0 where
  ip decimals datetimes durations : ExtTy

-- the term types without parts; a bit vector has 64 bits
pub data FlatTy : Type 0 where
  bitvec bool string : FlatTy
  entity : ℕ → FlatTy
  extension : ExtTy → FlatTy

mutual
  -- a term type: Option, a type without parts, a record or a set
  pub data TermTy : Type 0 where
    option : TermTy → TermTy
    flat : FlatTy → TermTy
    rec : TermTys → TermTy
    set : TermTy → TermTy

  -- the fields of a record type, by name
  pub data TermTys : Type 0 where
    none : TermTys
    more : (name : ℕ) (of : TermTy) (rest : TermTys) → TermTys

-- a bit vector is its pattern, a string its name
pub data TermPrim : Type 0 where
  pattern : ℕ → TermPrim
  truth : Bool → TermPrim
  entity_uid : Uid → TermPrim
  ext : Ext → TermPrim
  text : ℕ → TermPrim

-- the variables of a symbolic request
pub data Var : Type 0 where
  context principal resource : Var

-- the terms without parts: None of a type, a primitive, a variable of a type
pub data Atom : Type 0 where
  none_of : TermTy → Atom
  prim : TermPrim → Atom
  var : Var → TermTy → Atom

-- the parts of a record are its fields, those of a set its elements, of this type
pub data Group : Type 0 where
  fields : Group
  elements : TermTy → Group

mutual
  -- a term: one without parts, a record or a set, or Some
  pub data Term : Type 0 where
    atom : Atom → Term
    many : Group → Terms → Term
    some : Term → Term

  -- the fields of a record by name, or the elements of a set, whose names are 0
  pub data Terms : Type 0 where
    no_terms : Terms
    term : (name : ℕ) (of : Term) (rest : Terms) → Terms

-- the record of some fields
abbrev pub record_of : Terms → Term
record_of ts = many fields ts

-- the order of extension types, and of the types without parts
abbrev pub ext_rank : ExtTy → ℤ
ext_rank ip = pos 0
ext_rank decimals = pos 1
ext_rank datetimes = pos 2
ext_rank durations = pos 3

-- the numbers by which the types without parts compare
abbrev pub flat_key : FlatTy → List ℤ
flat_key bitvec = pos 0 ∷ []
flat_key bool = pos 1 ∷ []
flat_key (entity n) = pos 2 ∷ (pos n ∷ [])
flat_key (extension x) = pos 3 ∷ (ext_rank x ∷ [])
flat_key string = pos 4 ∷ []

-- Option, then the types without parts, then records, then sets; then by their parts
abbrev mutual
  pub order_type : TermTy → TermTy → Ordering
  order_type (option a) (option b) = order_type a b
  order_type (option a) (flat y) = Less
  order_type (option a) (rec ys) = Less
  order_type (option a) (set b) = Less
  order_type (flat x) (option b) = Greater
  order_type (flat x) (flat y) = by_integers (flat_key x) (flat_key y)
  order_type (flat x) (rec ys) = Less
  order_type (flat x) (set b) = Less
  order_type (rec xs) (option b) = Greater
  order_type (rec xs) (flat y) = Greater
  order_type (rec xs) (rec ys) = order_types xs ys
  order_type (rec xs) (set b) = Less
  order_type (set a) (option b) = Greater
  order_type (set a) (flat y) = Greater
  order_type (set a) (rec ys) = Greater
  order_type (set a) (set b) = order_type a b

  -- field by field, by name and then by type; the shorter first where it is a beginning of the other
  pub order_types : TermTys → TermTys → Ordering
  order_types none none = Equal
  order_types none (more n b ys) = Less
  order_types (more m a xs) none = Greater
  order_types (more m a xs) (more n b ys) = ordering_then (by_number m n) (ordering_then (order_type a b) (order_types xs ys))

-- decimals, addresses, datetimes, durations, each by its numbers
abbrev pub ext_key : Ext → List ℤ
ext_key (decimal z) = pos 0 ∷ (z ∷ [])
ext_key (ipaddr address prefix) = pos 1 ∷ (pos address ∷ (pos prefix ∷ []))
ext_key (datetime z) = pos 2 ∷ (z ∷ [])
ext_key (duration z) = pos 3 ∷ (z ∷ [])

-- bit vectors by their patterns, Bools, entities by type and id, extensions, strings by name
abbrev pub prim_key : TermPrim → List ℤ
prim_key (pattern p) = pos 0 ∷ (pos p ∷ [])
prim_key (truth b) = pos 1 ∷ (pos (cond b 1 0) ∷ [])
prim_key (entity_uid u) = pos 2 ∷ (pos u.0 ∷ (pos u.1 ∷ []))
prim_key (ext x) = pos 3 ∷ ext_key x
prim_key (text s) = pos 4 ∷ (pos s ∷ [])

-- the order of variables
abbrev pub var_rank : Var → ℕ
var_rank context = 0
var_rank principal = 1
var_rank resource = 2

-- the variants of terms in their order: None, primitive, record, set, Some, variable
abbrev pub atom_rank : Atom → ℕ
atom_rank (none_of a) = 0
atom_rank (prim x) = 1
atom_rank (var v a) = 5

-- the place of records and of sets among the variants
abbrev pub group_rank : Group → ℕ
group_rank fields = 2
group_rank (elements a) = 3

-- the place of a term's variant
abbrev pub rank : Term → ℕ
rank (atom x) = atom_rank x
rank (many g ts) = group_rank g
rank (some t) = 4

-- within one variant; `Equal` where the variants differ, since their ranks have decided
abbrev pub within_atom : Atom → Atom → Ordering
within_atom (none_of a) (none_of b) = order_type a b
within_atom (none_of a) (prim y) = Equal
within_atom (none_of a) (var w b) = Equal
within_atom (prim x) (none_of b) = Equal
within_atom (prim x) (prim y) = by_integers (prim_key x) (prim_key y)
within_atom (prim x) (var w b) = Equal
within_atom (var v a) (none_of b) = Equal
within_atom (var v a) (prim y) = Equal
within_atom (var v a) (var w b) = ordering_then (by_number (var_rank v) (var_rank w)) (order_type a b)

-- sets by the type of their elements before these
abbrev pub within_group : Group → Group → Ordering
within_group fields fields = Equal
within_group fields (elements b) = Equal
within_group (elements a) fields = Equal
within_group (elements a) (elements b) = order_type a b

-- by the variants of two terms, and then as within one
abbrev pub ranked : Term → Term → Ordering → Ordering
ranked s t inner = ordering_then (by_number (rank s) (rank t)) inner

-- the order of two terms within one variant, and `Equal` where their variants differ
abbrev mutual
  pub within : Term → Term → Ordering
  within (atom x) (atom y) = within_atom x y
  within (atom x) (many h us) = Equal
  within (atom x) (some u) = Equal
  within (many g ts) (atom y) = Equal
  within (many g ts) (many h us) = ordering_then (within_group g h) (order_terms ts us)
  within (many g ts) (some u) = Equal
  within (some t) (atom y) = Equal
  within (some t) (many h us) = Equal
  within (some t) (some u) = ranked t u (within t u)

  -- part by part, by name and then by term; the shorter first where it is a beginning of the other
  pub order_terms : Terms → Terms → Ordering
  order_terms no_terms no_terms = Equal
  order_terms no_terms (term n u us) = Less
  order_terms (term m t ts) no_terms = Greater
  order_terms (term m t ts) (term n u us) = ordering_then (by_number m n) (ordering_then (ranked t u (within t u)) (order_terms ts us))

-- the order of terms
abbrev pub order : Term → Term → Ordering
order s t = ranked s t (within s t)

-- a term at its place among others in their order, or left out where it is there already
abbrev pub insert_by : Ordering → (later here same : Terms) → Terms
insert_by Less later here same = later
insert_by Equal later here same = same
insert_by Greater later here same = here

-- a term inserted among others at its place in their order
abbrev pub insert : Term → Terms → Terms
insert t no_terms = term 0 t no_terms
insert t (term m u us) = insert_by (order u t) (term m u (insert t us)) (term 0 t (term m u us)) (term m u us)

-- terms inserted in turn among others
abbrev pub inserted : Terms → Terms → Terms
inserted no_terms us = us
inserted (term m t ts) us = inserted ts (insert t us)

-- the set of some terms: each once, in their order
abbrev pub set_of : TermTy → Terms → Term
set_of a ts = many (elements a) (inserted ts no_terms)

-- whether a term comes before another
abbrev pub term_below : Term → Term → Bool
term_below s t = is_lt (order s t)

-- whether a term type comes before another
abbrev pub type_below : TermTy → TermTy → Bool
type_below a b = is_lt (order_type a b)

-- how many fields or elements there are
abbrev pub count : Terms → ℕ
count no_terms = 0
count (term m t ts) = suc (count ts)

-- the records that a term takes
abbrev mutual
  pub size : Term → ℕ
  size (atom x) = 1
  size (many g ts) = suc (sizes ts)
  size (some t) = suc (size t)

  pub sizes : Terms → ℕ
  sizes no_terms = 0
  sizes (term m t ts) = size t + sizes ts

-- a literal has no variables
abbrev pub literal_atom : Atom → Bool
literal_atom (none_of a) = true
literal_atom (prim x) = true
literal_atom (var v a) = false

-- whether a term, and each of its parts, has no variables
abbrev mutual
  pub literal : Term → Bool
  literal (atom x) = literal_atom x
  literal (many g ts) = literals ts
  literal (some t) = literal t

  pub literals : Terms → Bool
  literals no_terms = true
  literals (term m t ts) = literal t && literals ts

-- the type of an extension value
abbrev pub ext_type : Ext → ExtTy
ext_type (decimal z) = decimals
ext_type (ipaddr address prefix) = ip
ext_type (datetime z) = datetimes
ext_type (duration z) = durations

-- the type of a primitive
abbrev pub prim_type : TermPrim → FlatTy
prim_type (pattern p) = bitvec
prim_type (truth b) = bool
prim_type (entity_uid u) = entity u.0
prim_type (ext x) = extension (ext_type x)
prim_type (text s) = string

-- the type of a term without parts
abbrev pub atom_type : Atom → TermTy
atom_type (none_of a) = option a
atom_type (prim x) = flat (prim_type x)
atom_type (var v a) = a

-- the type of a record with fields of these types, or of a set
abbrev pub group_type : Group → TermTys → TermTy
group_type fields xs = rec xs
group_type (elements a) xs = set a

-- the type of a term
abbrev mutual
  pub type_of : Term → TermTy
  type_of (atom x) = atom_type x
  type_of (many g ts) = group_type g (types_of ts)
  type_of (some t) = option (type_of t)

  pub types_of : Terms → TermTys
  types_of no_terms = none
  types_of (term m t ts) = more m (type_of t) (types_of ts)

-- the node of a primitive: a bit vector is the signed number with its pattern
abbrev pub prim_node : TermPrim → Node
prim_node (pattern p) = plain 2 0 0 (to_z w64 p)
prim_node (truth b) = plain 1 0 0 (pos (cond b 1 0))
prim_node (entity_uid u) = uid_node u
prim_node (ext x) = ext_node x
prim_node (text s) = plain 3 s 0 (pos 0)

-- 10 is None, 11 Some, and 12 a variable, whose number in a is that of its rank; types are not written
abbrev pub atom_node : Atom → Node
atom_node (none_of a) = plain 10 0 0 (pos 0)
atom_node (prim x) = prim_node x
atom_node (var v a) = plain 12 (var_rank v) 0 (pos 0)

-- the node of a record or a set of n parts
abbrev pub group_node : Group → ℕ → Node
group_node fields n = plain 6 n 0 (pos 0)
group_node (elements a) n = plain 5 n 0 (pos 0)

-- a term as a tree of nodes, whose root carries the name of the field that it is, or 0
abbrev mutual
  pub tree_of : ℕ → Term → Tree
  tree_of f (atom x) = tree (under f (atom_node x)) trees.none
  tree_of f (many g ts) = tree (under f (group_node g (count ts))) (trees_of ts)
  tree_of f (some t) = tree (under f (plain 11 0 0 (pos 0))) (trees.more (tree_of 0 t) trees.none)

  pub trees_of : Terms → Trees
  trees_of no_terms = trees.none
  trees_of (term m t ts) = trees.more (tree_of m t) (trees_of ts)

-- the run of a term by itself
abbrev pub encode : Term → List Node
encode t = run_of (tree_of 0 t)

-- a term type as nodes, written as the type that it comes from
abbrev pub ext_code : ExtTy → ℕ
ext_code decimals = 1
ext_code ip = 2
ext_code datetimes = 3
ext_code durations = 4

-- the node of a term type without parts
abbrev pub flat_type_node : FlatTy → Node
flat_type_node bool = plain 1 0 0 (pos 0)
flat_type_node bitvec = plain 4 0 0 (pos 0)
flat_type_node string = plain 5 0 0 (pos 0)
flat_type_node (entity n) = plain 6 n 0 (pos 0)
flat_type_node (extension x) = plain 9 (ext_code x) 0 (pos 0)

-- how many fields a record type has
abbrev pub type_count : TermTys → ℕ
type_count none = 0
type_count (more m a xs) = suc (type_count xs)

-- the name and the number of the field that it is: 1 if it is required
abbrev pub as_field : ℕ → ℕ → Node → Node
as_field name number n = record { kind = n.kind; field = name; a = n.a; b = n.b; number = pos number }

-- a type as a tree; Option stands only for a field, as one that is not required
abbrev mutual
  pub type_tree : ℕ → ℕ → TermTy → Tree
  type_tree f q (option a) = type_tree f 0 a
  type_tree f q (flat x) = tree (as_field f q (flat_type_node x)) trees.none
  type_tree f q (rec xs) = tree (as_field f q (plain 12 (type_count xs) 0 (pos 0))) (type_trees xs)
  type_tree f q (set a) = tree (as_field f q (plain 10 0 0 (pos 0))) (trees.more (type_tree 0 0 a) trees.none)

  pub type_trees : TermTys → Trees
  type_trees none = trees.none
  type_trees (more m a xs) = trees.more (type_tree m 1 a) (type_trees xs)

-- the run of a term type by itself
abbrev pub encode_type : TermTy → List Node
encode_type a = run_of (type_tree 0 0 a)
