-- Lists that a function makes of numbers in turn: two such lists joined, a part of one, and one with one more number.
use Rattle.std.proofs.Common.{◌≡◌, ℕ, zero, suc, ◌+◌, ◌-◌, ◌≤◌, List, [], ◌∷◌, ◌++◌, map, take, drop, sym, ap, ◌∙◌, arith}
use Rattle.std.specs.List.{range_with_len}
use Rattle.std.proofs.lemmas.List.FromFn.{take-map-range_with_len, map-range_with_len_more}

-- the numbers from a on and then those from their end on
pub counting_join : {X : Type 0} (f : ℕ → X) (m n a b : ℕ) → a + m ≡ b → map f (range_with_len a m) ++ map f (range_with_len b n) ≡ map f (range_with_len a (m + n))
counting_join f zero n a b e =
    let z : b ≡ a = omega arith in
    let y : n ≡ 0 + n = omega arith in
    ap (λ v. map f (range_with_len v n)) z ∙ ap (λ v. map f (range_with_len a v)) y
counting_join f (suc m) n a b e =
    let y : suc (m + n) ≡ suc m + n = omega arith in
    ap (λ v. f a ∷ v) (counting_join f m n (a + 1) b (omega arith)) ∙ ap (λ v. map f (range_with_len a v)) y

-- what is left of the numbers behind the first a of them
pub drop_map_counting : {X : Type 0} (f : ℕ → X) (a c b n : ℕ) → c + a ≡ b → drop a (map f (range_with_len c (a + n))) ≡ map f (range_with_len b n)
drop_map_counting f zero c b n e =
    let z : c ≡ b = omega arith in
    let y : 0 + n ≡ n = omega arith in
    ap (λ v. map f (range_with_len c v)) y ∙ ap (λ v. map f (range_with_len v n)) z
drop_map_counting f (suc a) c b n e =
    let y : suc a + n ≡ suc (a + n) = omega arith in
    ap (λ v. drop (suc a) (map f (range_with_len c v))) y ∙ drop_map_counting f a (c + 1) b n (omega arith)

-- n of them from a on
pub part_map_counting : {X : Type 0} (f : ℕ → X) (a n v : ℕ) → a + n ≤ v → take n (drop a (map f (range_with_len 0 v))) ≡ map f (range_with_len a n)
part_map_counting f a n v h =
    let y : v ≡ a + (v - a) = omega arith in
    ap (λ w. take n (drop a (map f (range_with_len 0 w)))) y
    ∙ ap (take n) (drop_map_counting f a 0 a (v - a) (omega arith))
    ∙ take-map-range_with_len f a (v - a) n (omega arith)

-- one number more
pub counting_more : {X : Type 0} (f : ℕ → X) (n : ℕ) → map f (range_with_len 0 (n + 1)) ≡ map f (range_with_len 0 n) ++ (f n ∷ [])
counting_more f n = map-range_with_len_more f 0 n n (omega arith)

-- a list of what a function gives, and the next
pub counted_on : {X : Type 0} (f : ℕ → X) (n : ℕ) (xs ys : List X) (x : X) → xs ≡ map f (range_with_len 0 n) → ys ≡ xs ++ (x ∷ []) → x ≡ f n → ys ≡ map f (range_with_len 0 (n + 1))
counted_on f n xs ys x p q r =
    q ∙ (ap (λ v. v ++ (x ∷ [])) p ∙ (ap (λ v. map f (range_with_len 0 n) ++ (v ∷ [])) r ∙ sym (counting_more f n)))
