-- The orders of the keys of tables are lawful.
use Rattle.std.proofs.Common.{◌≡◌, cond, eqb, List, ℤ, Ordering, refl, arith}
use Rattle.std.proofs.lemmas.Bool.Decides.{nat_tests}
use Rattle.std.specs.Ordering.{is_lt}
use Rattle.model.specs.Slots.{Uid, uid_below}
use Rattle.model.specs.Orders.{by_number, by_pair}
use Rattle.model.specs.Environments.{FunctionId, attributes, ancestors, tag_keys, tag_values, function_key, by_uid, by_function, by_function_key, by_tag_key}
use Rattle.laws.proofs.Numbers.{Lawful, then_same, then_turned, then_follows, number_same, number_turned, number_follows, lawful_by}
use Rattle.laws.proofs.Keys.{number_at, same_by}

pub names_lawful : Lawful by_number
names_lawful = record { turned = number_turned; same = number_same; follows = number_follows }

-- pairs of what is lawful are lawful
pair_lawful : {X Y : Type 0} (f : X → X → Ordering) (g : Y → Y → Ordering) → Lawful f → Lawful g → Lawful (by_pair f g)
pair_lawful f g l m = record {
  turned = λ x y. then_turned (f x.0 y.0) (g x.1 y.1) _ _ (l.turned x.0 y.0) (m.turned x.1 y.1);
  same = λ x y e.
      let p = then_same (f x.0 y.0) (g x.1 y.1) e in
      let a : x.0 ≡ y.0 = l.same x.0 y.0 p.0 in
      let b : x.1 ≡ y.1 = m.same x.1 y.1 p.1 in
      (λ i. (a i, b i));
  follows = λ x y z. then_follows (f x.0 y.0) (f y.0 z.0) (f x.0 z.0) _ _ _ (l.follows x.0 y.0 z.0) (m.follows x.1 y.1 z.1);
}

pub uids_lawful : Lawful by_uid
uids_lawful = pair_lawful by_number by_number names_lawful names_lawful

-- a function is that of its key
function_of : List ℤ → FunctionId
function_of k =
    cond (eqb (number_at k 0) 0) (attributes (number_at k 1))
    (cond (eqb (number_at k 0) 1) (ancestors (number_at k 1) (number_at k 2))
    (cond (eqb (number_at k 0) 2) (tag_keys (number_at k 1)) (tag_values (number_at k 1))))

function_back : (f : FunctionId) → function_of (function_key f) ≡ f
unfolding function_of
function_back (attributes n) = refl
function_back (ancestors n m) = refl
function_back (tag_keys n) = refl
function_back (tag_values n) = refl

functions_lawful : Lawful by_function
functions_lawful = lawful_by by_function function_key (λ f g. refl) (same_by function_key function_of function_back)

pub function_keys_lawful : Lawful by_function_key
function_keys_lawful = pair_lawful by_function by_uid functions_lawful uids_lawful

pub tag_keys_lawful : Lawful by_tag_key
tag_keys_lawful = pair_lawful by_uid by_number uids_lawful names_lawful

-- the order of uids as a test
pub uid_order : (u v : Uid) → uid_below u v ≡ is_lt (by_uid u v)
uid_order u v = grind (arith, nat_tests)
