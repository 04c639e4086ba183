-- What the next node of a run has to be. A slot says which nodes may fill it, apart from what their kind asks of them.
use Rattle.std.specs.Prelude.{ℕ, Bool, true, false, ◌&&◌, ◌||◌, Some, None, Option, ◌==◌, nat_lt}
use Rattle.model.specs.declared.node.Node.{Node}
use Rattle.model.specs.declared.slot.Slot.{Slot}
use Rattle.model.specs.declared.slot.Slot.TheVariants.{Plain, Named, ARecord, AUid, Ancestor}

-- a type name and an id name
abbrev pub Uid : Type 0
Uid = ℕ × ℕ

-- pairs compare by their left parts first
abbrev pub uid_below : Uid → Uid → Bool
uid_below u v = nat_lt u.0 v.0 || (u.0 == v.0 && nat_lt u.1 v.1)

-- whether a slot is that of a field or tag, whose node carries a name
abbrev pub is_named : Slot → Bool
is_named Plain = false
is_named (Named before) = true
is_named ARecord = false
is_named AUid = false
is_named (Ancestor before) = false

-- a name is above the one before, if there is one
abbrev pub name_follows : Option ℕ → ℕ → Bool
name_follows None name = true
name_follows (Some m) name = nat_lt m name

-- a uid is above the one before, if there is one
abbrev pub uid_follows : Option Uid → Uid → Bool
uid_follows None u = true
uid_follows (Some v) u = uid_below v u

-- whether a node may fill a slot, where `is_record` and `is_uid` say what its kind is
abbrev pub fills : Slot → (is_record is_uid : Bool) → Node → Bool
fills Plain r u n = n.field == 0
fills (Named before) r u n = name_follows before n.field
fills ARecord r u n = n.field == 0 && r
fills AUid r u n = n.field == 0 && u
fills (Ancestor before) r u n = n.field == 0 && (u && uid_follows before (n.a, n.b))

-- the slot of the next sibling of the node n
abbrev pub next : Slot → Node → Slot
next Plain n = Plain
next (Named before) n = Named (Some n.field)
next ARecord n = ARecord
next AUid n = AUid
next (Ancestor before) n = Ancestor (Some (n.a, n.b))
