-- What the test of a subset says, and how its last number is taken off and put on.
-- Assumes nothing.
use mathlib.Core.Path.{◌≡◌, refl, sym}
use mathlib.Core.Bool.{true, ◌&&◌}
use mathlib.Core.List.{[], ◌∷◌, ◌++◌}
use Prim.Native.Nat.{ℕ, suc, pred, ◌≤◌, ◌<◌}
use native.Mathlib.Omega.{arith}
use lib.Dec.{leb, ltb, eqb}
use lib.ListN.{length, take, get_or, length-append}
use borrow.Author.Tests.{ltb-true, leb-true, eqb-true, lt-ltb, le-leb, eq-eqb}
use Rattle.basics.specs.Sums.{range}
use Rattle.basics.proofs.Bools.{and-true, and_makes}
use Rattle.basics.proofs.Lists.{last_split}
use Rattle.basics.proofs.Ranges.{in_range}
use Rattle.listings.specs.Bytes.{Bytes}
use Rattle.listings.proofs.ChoiceRules.{Taken}
use Rattle.subsets.specs.Objects.{climbs, is_subset}

-- climbing numbers, by the first

pub climbs-cases : (a n b : ℕ) (x : Bytes) → climbs a n (b ∷ x) ≡ true → (a < b) × (b ≤ n) × (climbs b n x ≡ true)
unfolding climbs
climbs-cases a n b x e =
    let rest = and-true (ltb a b && leb b n) (climbs b n x) e in
    let both = and-true (ltb a b) (leb b n) rest.0 in
    (ltb-true a b both.0, leb-true b n both.1, rest.1)

climbs_makes : (a n b : ℕ) (x : Bytes) → a < b → b ≤ n → climbs b n x ≡ true → climbs a n (b ∷ x) ≡ true
unfolding climbs
climbs_makes a n b x h k e = and_makes (and_makes (lt-ltb a b h) (le-leb b n k)) e

-- by the last, m + 1: the others are at most m

climbs_off : (a n b : ℕ) (x : Bytes) → climbs a n (x ++ (b ∷ [])) ≡ true → (m : ℕ) × (b ≡ suc m) × (a ≤ m) × (m < n) × (climbs a m x ≡ true)
unfolding climbs
climbs_off a n b [] e = let c = climbs-cases a n b [] e in (pred b, omega arith, omega arith, omega arith, refl)
climbs_off a n b (c ∷ x) e =
    let first = climbs-cases a n c (x ++ (b ∷ [])) e in
    let last = climbs_off c n b x first.2 in
    (last.0, last.1, omega arith, last.3, climbs_makes a last.0 c x first.0 last.2 last.4)

climbs_on : (a n m : ℕ) (x : Bytes) → a ≤ m → m < n → climbs a m x ≡ true → climbs a n (x ++ (suc m ∷ [])) ≡ true
unfolding climbs
climbs_on a n m [] h k e = climbs_makes a n (suc m) [] (omega arith) (omega arith) e
climbs_on a n m (c ∷ x) h k e =
    let first = climbs-cases a m c x e in
    climbs_makes a n c (x ++ (suc m ∷ [])) first.0 (omega arith) (climbs_on c n m x first.1 k first.2)

-- subsets

pub subset_cases : (n k : ℕ) (x : Bytes) → is_subset n k x ≡ true → (length x ≡ k) × (climbs 0 n x ≡ true)
unfolding is_subset
subset_cases n k x e = let both = and-true (eqb (length x) k) (climbs 0 n x) e in (eqb-true (length x) k both.0, both.1)

subset_makes : (n k : ℕ) (x : Bytes) → length x ≡ k → climbs 0 n x ≡ true → is_subset n k x ≡ true
unfolding is_subset
subset_makes n k x h e = and_makes (eq-eqb (length x) k h) e

-- the one subset of no numbers

pub no_numbers : (n : ℕ) → is_subset n 0 [] ≡ true
unfolding climbs
no_numbers n = subset_makes n 0 [] refl refl

pub is_empty : (n : ℕ) (x : Bytes) → is_subset n 0 x ≡ true → x ≡ []
is_empty n [] e = refl
is_empty n (b ∷ x) e = absurd (let both = subset_cases n 0 (b ∷ x) e in omega arith)

-- the last number, m + 1, and the others, a subset of the m below it

pub last_off : (n k b : ℕ) (x : Bytes) → is_subset n (suc k) (x ++ (b ∷ [])) ≡ true → (m : ℕ) × (b ≡ suc m) × (m < n) × (is_subset m k x ≡ true)
last_off n k b x e =
    let both = subset_cases n (suc k) (x ++ (b ∷ [])) e in
    let off = climbs_off 0 n b x both.1 in
    (off.0, off.1, off.3, subset_makes off.0 k x (omega (arith, length-append x (b ∷ []))) off.4)

pub take_off : (n k : ℕ) (y : Bytes) → is_subset n (suc k) y ≡ true → Taken (range 0 n) (λ m x. x ++ (suc m ∷ [])) (λ m. is_subset m k) y
take_off n k y e =
    let split = last_split k y (subset_cases n (suc k) y e).0 in
    let (m, last, below, object) = last_off n k (get_or y k 0) (take k y) (rw split at e) in
    record { choice = m; listed = in_range 0 n (omega arith) (omega arith); left = take k y; object = object; whole = sym (rw last at split) }

pub put_on : (n k m : ℕ) (x : Bytes) → m < n → is_subset m k x ≡ true → is_subset n (suc k) (x ++ (suc m ∷ [])) ≡ true
put_on n k m x h e =
    let both = subset_cases m k x e in
    subset_makes n (suc k) (x ++ (suc m ∷ [])) (omega (arith, length-append x (suc m ∷ []))) (climbs_on 0 n m x (omega arith) h both.1)
