-- The numbers that stand for the kinds of values, of types and of extensions in a node.
use Rattle.std.specs.Prelude.{◌≡◌, ℕ, ◌≤◌, ◌⊎◌, Result, MatchResult, ◌≢◌}
use Rattle.model.specs.declared.kind.UnknownKind.{UnknownKind}
use Rattle.model.specs.declared.kind.ValueKind.{ValueKind}
use Rattle.model.specs.declared.kind.ValueKind.TheVariants as value
use Rattle.model.specs.declared.kind.TypeKind.{TypeKind}
use Rattle.model.specs.declared.kind.TypeKind.TheVariants as type
use Rattle.model.specs.declared.kind.ExtensionKind.{ExtensionKind}
use Rattle.model.specs.declared.kind.ExtensionKind.TheVariants.{Decimal, Ipaddr, Datetime, Duration}

-- the number of a kind of value
abbrev pub value_number : ValueKind → ℕ
value_number value.Bool = 1
value_number value.Long = 2
value_number value.String = 3
value_number value.Uid = 4
value_number value.Set = 5
value_number value.Record = 6
value_number value.Extension = 7

-- the code of an extension type
abbrev pub extension_code : ExtensionKind → ℕ
extension_code Decimal = 1
extension_code Ipaddr = 2
extension_code Datetime = 3
extension_code Duration = 4

-- `Entities` is an entity of several types, `AnySet` a set without element type
abbrev pub type_number : TypeKind → ℕ
type_number type.Bool = 1
type_number type.True = 2
type_number type.False = 3
type_number type.Long = 4
type_number type.String = 5
type_number type.Entity = 6
type_number type.AnyEntity = 7
type_number type.Entities = 8
type_number type.Extension = 9
type_number type.Set = 10
type_number type.AnySet = 11
type_number type.ClosedRecord = 12
type_number type.OpenRecord = 13
type_number type.Never = 14

-- a number is decoded to the kind that has it, or handed back where no kind has it
abbrev pub Decodes : {K : Type 0} → (K → ℕ) → ℕ → Result K UnknownKind → Type 0
Decodes {K} number n r = MatchResult r (λ k. number k ≡ n) (λ e. (e.0 ≡ n) × ((k : K) → number k ≢ n))

-- the kind of a node of a value, or that of an entity's head
abbrev pub Known : ℕ → Type 0
Known k = ((1 ≤ k) × (k ≤ 7)) ⊎ (k ≡ 9)
