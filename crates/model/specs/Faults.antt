-- Refusals and their layers by number, and which of two faults stands.
use Rattle.std.specs.Prelude.{ℕ, Bool, cond, List, [], ◌∷◌, Some, None, Option, ◌==◌, nat_lt}
use Rattle.model.specs.declared.fault.Refusal.{Refusal}
use Rattle.model.specs.declared.fault.Refusal.TheVariants.{Malformed, Limit, IllFormedSchema, IllFormedTypeEnv, UnsupportedFeature, UnableToSymbolizeValue, NonConforming, Full, NotStored, IllTypedWalk}
use Rattle.model.specs.declared.fault.Layer.{Layer}
use Rattle.model.specs.declared.fault.Layer.TheVariants.{Image, Schema, Request, Entity, Walk}
use Rattle.model.specs.declared.fault.Fault.{Fault}

-- the number of a refusal
abbrev pub refusal_number : Refusal → ℕ
refusal_number Malformed = 1
refusal_number Limit = 2
refusal_number IllFormedSchema = 3
refusal_number IllFormedTypeEnv = 4
refusal_number UnsupportedFeature = 6
refusal_number UnableToSymbolizeValue = 9
refusal_number NonConforming = 10
refusal_number Full = 11
refusal_number NotStored = 12
refusal_number IllTypedWalk = 13

-- the number of a layer
abbrev pub layer_number : Layer → ℕ
layer_number Image = 1
layer_number Schema = 2
layer_number Request = 3
layer_number Entity = 4
layer_number Walk = 5

-- a fault at a place that belongs to no stored entity
abbrev pub placed : Refusal → Layer → ℕ → Fault
placed r l p = record { refusal = r; layer = l; entity = 0; place = p }

-- a fault about a whole call has all places 0
abbrev pub whole_call : Refusal → Layer → Fault
whole_call r l = placed r l 0

-- a fault at the node p of the entity at the place e of its store
abbrev pub of_entity : Refusal → ℕ → ℕ → Fault
of_entity r e p = record { refusal = r; layer = Entity; entity = e; place = p }

-- the order of two pairs of numbers: by the first, and by the rest where the first are the same
abbrev pub lexical : ℕ → ℕ → Bool → Bool
lexical m n rest = cond (m == n) rest (nat_lt m n)

-- faults order by number, layer, entity and place
abbrev pub precedes : Fault → Fault → Bool
precedes f g =
    lexical (refusal_number f.refusal) (refusal_number g.refusal) (
    lexical (layer_number f.layer) (layer_number g.layer) (
    lexical f.entity g.entity (nat_lt f.place g.place)))

-- of two faults the lesser stands
abbrev pub stands : Fault → Fault → Fault
stands f g = cond (precedes g f) g f

-- of several faults the least stands
abbrev pub keep_least : Option Fault → Fault → Option Fault
keep_least None f = Some f
keep_least (Some g) f = Some (stands g f)

-- the least of some faults and of one found before
abbrev pub least_with : Option Fault → List Fault → Option Fault
least_with kept [] = kept
least_with kept (f ∷ fs) = least_with (keep_least kept f) fs

-- the least of some faults, where there is one
abbrev pub least : List Fault → Option Fault
least fs = least_with None fs
