-- What the definitions say of a node whose kind is none of the numbers.
use Rattle.std.proofs.Common.{◌≡◌, ◌≢◌, ℕ, ◌<◌, false, arith}
use Rattle.std.proofs.lemmas.Bool.Decides.{nat_tests}
use Rattle.model.specs.declared.node.Node.{Node}
use Rattle.model.specs.declared.kind.ValueKind.TheVariants as value
use Rattle.model.specs.declared.kind.TypeKind.TheVariants as type
use Rattle.model.specs.declared.kind.ExtensionKind.TheVariants.{Decimal, Ipaddr, Datetime, Duration}
use Rattle.model.specs.Kinds.{value_number, type_number, extension_code}
use Rattle.model.specs.Layouts.{value_node}

-- no kind has the number
abbrev pub NoKind : {K : Type 0} → (K → ℕ) → ℕ → Type 0
NoKind {K} number n = (k : K) → number k ≢ n

-- a number of no kind is 0 or beyond the numbers of the kinds
pub no_value : (k : ℕ) → NoKind value_number k → 0 < k → 7 < k
no_value k h some =
    let a : 1 ≡ k → ⊥ = h value.Bool in
    let b : 2 ≡ k → ⊥ = h value.Long in
    let c : 3 ≡ k → ⊥ = h value.String in
    let d : 4 ≡ k → ⊥ = h value.Uid in
    let e : 5 ≡ k → ⊥ = h value.Set in
    let f : 6 ≡ k → ⊥ = h value.Record in
    let g : 7 ≡ k → ⊥ = h value.Extension in
    omega arith

pub no_value_node : (n : Node) → NoKind value_number n.kind → false ≡ value_node n
no_value_node n h = let z : 0 < n.kind → 7 < n.kind = no_value n.kind h in grind (arith, nat_tests)

pub no_extension : (k : ℕ) → NoKind extension_code k → 0 < k → 4 < k
no_extension k h some =
    let a : 1 ≡ k → ⊥ = h Decimal in
    let b : 2 ≡ k → ⊥ = h Ipaddr in
    let c : 3 ≡ k → ⊥ = h Datetime in
    let d : 4 ≡ k → ⊥ = h Duration in
    omega arith

pub no_type : (k : ℕ) → NoKind type_number k → 0 < k → 14 < k
no_type k h some =
    let a : 1 ≡ k → ⊥ = h type.Bool in
    let b : 2 ≡ k → ⊥ = h type.True in
    let c : 3 ≡ k → ⊥ = h type.False in
    let d : 4 ≡ k → ⊥ = h type.Long in
    let e : 5 ≡ k → ⊥ = h type.String in
    let f : 6 ≡ k → ⊥ = h type.Entity in
    let g : 7 ≡ k → ⊥ = h type.AnyEntity in
    let i : 8 ≡ k → ⊥ = h type.Entities in
    let j : 9 ≡ k → ⊥ = h type.Extension in
    let l : 10 ≡ k → ⊥ = h type.Set in
    let m : 11 ≡ k → ⊥ = h type.AnySet in
    let n : 12 ≡ k → ⊥ = h type.ClosedRecord in
    let o : 13 ≡ k → ⊥ = h type.OpenRecord in
    let p : 14 ≡ k → ⊥ = h type.Never in
    omega arith
