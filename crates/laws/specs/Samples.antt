-- Small schemas, requests and entities for the worked cases.
use Rattle.std.specs.Prelude.{ℕ, Bool, true, false, List, [], ◌∷◌, ℤ, Some, None}
use Rattle.model.specs.declared.node.Node.{Node}
use Rattle.model.specs.Slots.{Uid}
use Rattle.model.specs.Values as value
use Rattle.model.specs.Values.{Value, Values}
use Rattle.model.specs.Types as type
use Rattle.model.specs.Types.{Ty, Tys}
use Rattle.model.specs.Entities.{Entity, Request}
use Rattle.model.specs.Schemas.{Schema, standard, enum, RequestType}
use Rattle.model.specs.Live.{Setting}

abbrev pub long_type : Ty
long_type = type.flat type.long

abbrev pub long_value : ℤ → Value
long_value z = value.prim (value.long z)

-- values as the elements of a set
abbrev pub elements : List Value → Values
elements [] = value.none
elements (v ∷ vs) = value.more 0 v (elements vs)

abbrev pub longs : List ℤ → List Value
longs [] = []
longs (z ∷ zs) = long_value z ∷ longs zs

abbrev pub set_of : List ℤ → Value
set_of zs = value.set (elements (longs zs))

-- the numbers of the nodes behind the first
abbrev pub numbers : List Node → List ℤ
numbers [] = []
numbers (n ∷ ns) = n.number ∷ numbers ns

abbrev pub behind_first : List Node → List ℤ
behind_first [] = []
behind_first (n ∷ ns) = numbers ns

-- Names. Those of the colors are numbered in the order of their bytes.
abbrev pub blue : ℕ
blue = 1

abbrev pub red : ℕ
red = 2

abbrev pub color : ℕ
color = 10

abbrev pub panel : ℕ
panel = 11

abbrev pub lot : ℕ
lot = 12

abbrev pub operator : ℕ
operator = 13

abbrev pub action : ℕ
action = 14

abbrev pub cut : ℕ
cut = 20

abbrev pub dye : ℕ
dye = 21

abbrev pub of_lot : ℕ
of_lot = 22

abbrev pub seams : ℕ
seams = 23

abbrev pub seven : ℕ
seven = 30

abbrev pub seventeen : ℕ
seventeen = 31

abbrev pub white : ℕ
white = 32

-- a type of one field
abbrev pub one_field : ℕ → Bool → Ty → Ty
one_field name required t = type.rec false (type.more name required t type.none)

abbrev pub one_value : ℕ → Value → Values
one_value name v = value.more name v value.none

-- the enum of colors, given as red and then blue
abbrev pub colors : Schema
colors = record { types = record { name = color; body = enum (red ∷ (blue ∷ [])) } ∷ []; actions = [] }

-- operators, panels of the attributes given, lots with a dye, and one action without ancestors and with an empty context
abbrev pub loft : Ty → Schema
loft attributes = record {
  types =
      record { name = panel; body = standard [] attributes None }
      ∷ (record { name = lot; body = standard [] (one_field dye true (type.flat type.string)) None }
      ∷ (record { name = operator; body = standard [] (type.rec false type.none) None } ∷ []));
  actions = record { uid = (action, cut); ancestors = []; context = Some (type.rec false type.none) } ∷ [];
}

abbrev pub cutting : RequestType
cutting = record { principal = operator; action = (action, cut); resource = panel }

-- an operator asks to cut a panel
abbrev pub request : Uid → Request
request u = record { principal = (operator, seven); action = (action, cut); resource = u; context = value.none }

-- an entity with attributes alone
abbrev pub bare : ℕ → ℕ → Values → Entity
bare t id attributes = record { uid = (t, id); attributes = attributes; ancestors = []; tags = value.none }

-- panels of these attributes, in a pool of so many records
abbrev pub setting : Ty → ℕ → Setting
setting attributes records = record {
  schema = loft attributes;
  request_type = cutting;
  request = request (panel, seventeen);
  sizes = record { records = records; functions = 100; tags = 100 };
}

-- panels {cut: Bool, of_lot: optional Lot}
abbrev pub panel_type : Ty
panel_type = type.rec false (type.more cut true (type.flat type.bool) (type.more of_lot false (type.flat (type.entity lot)) type.none))

-- one panel, stored with `cut` true and no lot
abbrev pub cut_panel : List Entity
cut_panel = bare panel seventeen (one_value cut (value.prim (value.bool true))) ∷ []

-- panels {seams: Set<Long>}
abbrev pub seamed : Ty
seamed = one_field seams true (type.set long_type)

abbrev pub panel_with : ℕ → List ℤ → Entity
panel_with id zs = bare panel id (one_value seams (set_of zs))

-- a panel of a lot, and its lot with a dye
abbrev pub panel_of_lot : List Entity
panel_of_lot =
    bare panel seventeen (value.more cut (value.prim (value.bool true)) (value.more of_lot (value.prim (value.uid (lot, seven))) value.none))
    ∷ (bare lot seven (one_value dye (value.prim (value.string white))) ∷ [])
