-- Which nodes a value and a type are made of, and which of them pass a limit.
use Rattle.std.specs.Prelude.{ℕ, ◌^◌, Bool, true, false, cond, ◌&&◌, ◌||◌, ℤ, pos, negsuc, None, ◌==◌, nat_le, nat_lt}
use Rattle.model.specs.declared.node.Node.{Node}
use Rattle.model.specs.declared.slot.Slot.{Slot}
use Rattle.model.specs.declared.slot.Slot.TheVariants.{Plain, Named}
use Rattle.model.specs.Slots.{is_named, fills}

-- the language of a run: which nodes it takes in a slot, which of these keep the limits, and their children
pub record Layout : Type 0 where
  pub takes : Slot → Node → Bool
  pub keeps : Slot → Node → Bool
  pub arity : Node → ℕ
  pub inside : Node → Slot

-- whether a signed number is below a natural one, and not negative
abbrev pub signed_below : ℕ → ℤ → Bool
signed_below m (pos n) = nat_lt n m
signed_below m (negsuc n) = false

-- whether a signed number is 0
abbrev pub is_zero : ℤ → Bool
is_zero z = signed_below 1 z

-- a name is below 65,536
abbrev pub is_name : ℕ → Bool
is_name n = nat_lt n 65536

-- in a slot of a field or tag the name is in range
abbrev pub name_kept : Slot → Node → Bool
name_kept s n = cond (is_named s) (is_name n.field) true

-- an extension value: an address has a number below 2^32 and, in b, no prefix or one from 0 to 31 and 1 more
abbrev pub extension_node : Node → Bool
extension_node n =
    cond (n.a == 2) (nat_le n.b 32 && signed_below (2 ^ 32) n.number) (n.b == 0 && (n.a == 1 || (n.a == 3 || n.a == 4)))

-- the parts that a node of a value uses are in their range, and the others 0
abbrev pub value_node : Node → Bool
value_node n =
    cond (n.kind == 1) (n.a == 0 && (n.b == 0 && signed_below 2 n.number))
    (cond (n.kind == 2) (n.a == 0 && n.b == 0)
    (cond (n.kind == 3 || (n.kind == 5 || n.kind == 6)) (n.b == 0 && is_zero n.number)
    (cond (n.kind == 4) (is_zero n.number)
    (cond (n.kind == 7) (extension_node n) false))))

-- names below 65,536; at most 256 elements and 64 fields
abbrev pub value_kept : Node → Bool
value_kept n =
    cond (n.kind == 3) (is_name n.a)
    (cond (n.kind == 4) (is_name n.a && is_name n.b)
    (cond (n.kind == 5) (nat_le n.a 256)
    (cond (n.kind == 6) (nat_le n.a 64) true)))

-- how many children a node of a value has: the elements of a set, the fields of a record
abbrev pub value_arity : Node → ℕ
value_arity n = cond (n.kind == 5 || n.kind == 6) n.a 0

-- the layout of values
abbrev pub values : Layout
values = record {
  takes = λ s n. fills s (n.kind == 6) (n.kind == 4) n && value_node n;
  keeps = λ s n. name_kept s n && value_kept n;
  arity = value_arity;
  inside = λ n. cond (n.kind == 6) (Named None) Plain;
}

-- a type's node: an entity type has its name in a, an extension type a code up to 4, a record the number of its fields
abbrev pub type_node : Node → Bool
type_node n =
    (n.b == 0) && cond (n.kind == 6 || (n.kind == 12 || n.kind == 13)) true
    (cond (n.kind == 9) (nat_le n.a 4) (n.a == 0 && (nat_lt 0 n.kind && nat_le n.kind 14)))

-- a record field says by 1 or 0 whether it is required; no other node of a type has a number
abbrev pub type_mark : Slot → Node → Bool
type_mark s n = cond (is_named s) (signed_below 2 n.number) (is_zero n.number)

-- the name of an entity type is below 65,536; at most 64 fields
abbrev pub type_kept : Node → Bool
type_kept n =
    cond (n.kind == 6) (is_name n.a) (cond (n.kind == 12 || n.kind == 13) (nat_le n.a 64) true)

-- how many children a node of a type has: one of a set, the fields of a record
abbrev pub type_arity : Node → ℕ
type_arity n = cond (n.kind == 10) 1 (cond (n.kind == 12 || n.kind == 13) n.a 0)

-- the layout of types
abbrev pub types : Layout
types = record {
  takes = λ s n. fills s (n.kind == 12 || n.kind == 13) false n && (type_node n && type_mark s n);
  keeps = λ s n. name_kept s n && type_kept n;
  arity = type_arity;
  inside = λ n. cond (n.kind == 10) Plain (Named None);
}
