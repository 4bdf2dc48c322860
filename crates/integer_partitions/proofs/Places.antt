-- The first partition is the one whose parts behind the first don't exceed the floor, the last one that in which no part can go up.
-- Assumes nothing.
use mathlib.Core.Path.{◌≡◌, refl, sym, ◌∙◌, ap}
use mathlib.Core.Logic.{◌⊎◌, inl, inr}
use mathlib.Core.Bool.{true, false≢true}
use mathlib.Core.List.{[], ◌∷◌, ◌++◌}
use Prim.Native.Nat.{ℕ, zero, suc, ◌+◌, ◌*◌, ◌/◌, ◌%◌, ◌-◌, ◌≤◌, ◌<◌}
use native.Mathlib.Nat.{zero-mul, suc-mul, mul-suc, mul_comm, add-mul, mul-le-mul_left, mod-lt, div-add-mod, le-div_iff_mul-le, le_of_lt}
use native.Mathlib.Numerals.{add-one}
use native.Mathlib.Omega.{arith}
use lib.ListN.{length, get_or, set, take, drop, replicate, length-append, length-replicate, get_or-replicate, replicate-append-replicate}
use lib.Seq.{take-nil, drop_at, length-take-le}
use Rattle.basics.specs.Sums.{total}
use Rattle.basics.proofs.Bools.{and_makes}
use Rattle.basics.proofs.Totals.{total-append}
use Rattle.listings.specs.Bytes.{Bytes}
use Rattle.listings.specs.Orders.{colex_by, colex_before}
use Rattle.listings.specs.Places.{First, Last}
use Rattle.listings.proofs.OrderFacts.{colex_cases}
use Rattle.listings.proofs.Ranks.{least_first, greatest_last}
use Rattle.integer_partitions.specs.Objects.{descends, is_integer_partition}
use Rattle.integer_partitions.specs.Listing.{integer_partitions}
use Rattle.integer_partitions.proofs.Facts.{partition_makes, descends-append, descends_makes, Cut, cut, from_floor, floor_total}
use Rattle.integer_partitions.proofs.Theorem.{lists}

-- at the last place that differs x has the smaller part
abbrev Differs : Bytes → Bytes → Type 0
Differs x y = (i : ℕ) × (i < length x) × (i < length y) × (get_or x i 0 < get_or y i 0) × (drop (suc i) x ≡ drop (suc i) y)

differs : (x y : Bytes) → colex_before x y ≡ true → Differs x y
unfolding colex_by
differs [] y h = absurd (false≢true h)
differs (a ∷ x) [] h = absurd (false≢true h)
differs (a ∷ x) (b ∷ y) h = step (differs x y) (colex_cases a b x y h)
  where
    step : (colex_before x y ≡ true → Differs x y) → (colex_before x y ≡ true) ⊎ ((x ≡ y) × (a < b)) → Differs (a ∷ x) (b ∷ y)
    step later (inl k) = let (i, inside, inside', less, same) = later k in (suc i, omega arith, omega arith, less, same)
    step later (inr (same, less)) = (0, omega arith, omega arith, less, same)

-- the first: no part is below the floor, and a smaller first part makes a smaller sum

none_smaller : (f n k i : ℕ) (w x : Bytes) → Cut f n k (take i w) (get_or w i 0) (drop (suc i) w) → Cut f n k (take i x) (get_or x i 0) (drop (suc i) x)
    → drop (suc i) w ≡ drop (suc i) x → ((j : ℕ) → suc j < length x → get_or x (suc j) 0 ≤ f) → i < length x → get_or w i 0 < get_or x i 0 → ⊥
none_smaller f n k zero w x c d same level inside less = omega (arith, ap total same)
none_smaller f n k (suc i) w x c d same level inside less = omega (arith, level i inside, from_floor f (drop (suc (suc i)) w) c.down)

pub level_first : (f n k : ℕ) (x : Bytes) → is_integer_partition f n k x ≡ true → ((j : ℕ) → suc j < length x → get_or x (suc j) 0 ≤ f) → First (integer_partitions f n k) x
level_first f n k x o level = least_first (lists f n k) o λ w q h.
    let (i, inside, inside', less, same) = differs w x h in
    none_smaller f n k i w x (cut f n k i w q inside) (cut f n k i x o inside') same level inside' less

-- the last: a larger part there and none smaller in front of it make a larger sum
pub full_last : (f n k : ℕ) (x : Bytes) → is_integer_partition f n k x ≡ true → ((j : ℕ) → j < length x → total (take j x) ≤ j * (get_or x j 0 + 1)) → Last (integer_partitions f n k) x
full_last f n k x o full = greatest_last (lists f n k) o λ z q h.
    let (i, inside, inside', less, same) = differs x z h in
    let c = cut f n k i z q inside' in
    let front = rw (length-take-le i z (le_of_lt inside')) at (floor_total _ _ _ _ c.front) in
    let more : get_or x i 0 + 1 ≤ get_or z i 0 = omega arith in
    omega (arith, cut f n k i x o inside, full i inside, mul-le-mul_left i more, ap total same)

-- equal parts

head-replicate : (m a d : ℕ) → d ≤ a → get_or (replicate m a) 0 d ≤ a
head-replicate zero a d h = h
head-replicate (suc m) a d h = omega arith

total-replicate : (m a : ℕ) → total (replicate m a) ≡ m * a
unfolding total
total-replicate zero a = sym (zero-mul a)
total-replicate (suc m) a = omega (arith, total-replicate m a, suc-mul m a)

descends-replicate : (f a m : ℕ) → f ≤ a → descends f (replicate m a) ≡ true
unfolding descends
descends-replicate f a zero h = refl
descends-replicate f a (suc m) h = descends_makes f a (replicate m a) (head-replicate m a f h) (descends-replicate f a m h)

-- what FIRST writes
pub first_is : (f n k : ℕ) → 0 < k → k * f ≤ n → First (integer_partitions f n k) (set (replicate k f) 0 (n - (k - 1) * f))
unfolding total
first_is f n zero pos h = absurd (omega arith)
first_is f n (suc m) pos h =
    let room : m * f + f ≤ n = omega (arith, suc-mul m f) in
    let less : suc m - 1 ≡ m = omega arith in
    rw less
    (level_first f n (suc m) ((n - m * f) ∷ replicate m f)
    (partition_makes f n (suc m) ((n - m * f) ∷ replicate m f)
    (record {
      size = ap suc (length-replicate m f);
      sum = omega (arith, total-replicate m f);
      down = descends_makes f (n - m * f) (replicate m f) (omega (arith, head-replicate m f f (omega arith))) (descends-replicate f f m (omega arith));
    }))
    (λ j l. omega (arith, get_or-replicate m j f 0 (omega (arith, length-replicate m f)))))

-- what LAST writes

near : (q r t j : ℕ) → j < r + t → (q ≤ get_or (replicate r (suc q) ++ replicate t q) j 0) × (get_or (replicate r (suc q) ++ replicate t q) j 0 ≤ suc q)
near q zero t j h = omega (arith, get_or-replicate t j q 0 (omega arith))
near q (suc r) t zero h = omega arith
near q (suc r) t (suc j) h = near q r t j (omega arith)

-- where no part is above b
total-take-le : (b : ℕ) (x : Bytes) (i : ℕ) → ((j : ℕ) → j < length x → get_or x j 0 ≤ b) → total (take i x) ≤ i * b
unfolding total
total-take-le b [] i most = omega (arith, ap total (take-nil {A = ℕ} i))
total-take-le b (a ∷ x) zero most = omega arith
total-take-le b (a ∷ x) (suc i) most = omega (arith, most 0 (omega arith), total-take-le b x i (λ j h. most (suc j) (omega arith)), suc-mul i b)

pub last_is : (f n k : ℕ) → 0 < k → k * f ≤ n → Last (integer_partitions f n k) (replicate (n % k) (n / k + 1) ++ drop (n % k) (replicate k (n / k)))
last_is f n k pos h =
    let q : ℕ = n / k in
    let r : ℕ = n % k in
    let t : ℕ = k - r in
    let x : Bytes = replicate r (suc q) ++ replicate t q in
    let both : r + t ≡ k = omega (arith, mod-lt n pos) in
    let size : length x ≡ k = simp (length-append, length-replicate) both in
    let rest : drop r (replicate k q) ≡ replicate t q =
    ap (λ (m : ℕ). drop r (replicate m q)) (sym both) ∙ ap (drop r) (sym (replicate-append-replicate r t q)) ∙ drop_at (replicate r q) (replicate t q) r (length-replicate r q) in
    let low : f ≤ q = (le-div_iff_mul-le pos).1 (rw mul_comm h) in
    rw (add-one, rest)
    (full_last f n k x
    (partition_makes f n k x
    (record {
      size = size;
      sum = omega (arith, total-append (replicate r (suc q)) (replicate t q), total-replicate r (suc q), total-replicate t q, div-add-mod n k, mul-suc r q, add-mul r t q, ap (λ (m : ℕ). m * q) both);
      down = descends-append f (replicate r (suc q)) (replicate t q) ∙ and_makes (descends-replicate (get_or (replicate t q) 0 f) (suc q) r (omega (arith, head-replicate t q f low))) (descends-replicate f q t low);
    }))
    (λ j l.
    let here : suc q ≤ get_or x j 0 + 1 = omega (arith, near q r t j (omega arith)) in
    omega (arith, total-take-le (suc q) x j (λ i k. (near q r t i (omega arith)).1), mul-le-mul_left j here)))

-- without parts there is the empty partition of 0 alone

pub empty_first : (f n : ℕ) (x : Bytes) → length x ≡ 0 → n ≡ 0 → First (integer_partitions f n (length x)) x
unfolding integer_partitions
empty_first f n [] e z = rw z refl
empty_first f n (a ∷ x) e z = absurd (omega arith)

pub empty_last : (f n : ℕ) (x : Bytes) → length x ≡ 0 → n ≡ 0 → Last (integer_partitions f n (length x)) x
unfolding integer_partitions
empty_last f n [] e z = rw z (record { place = 0; here = refl; final = refl })
empty_last f n (a ∷ x) e z = absurd (omega arith)

pub ruleset first_written = (empty_first, first_is)

pub ruleset last_written = (empty_last, last_is)
