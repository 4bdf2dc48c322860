-- What the test of an integer partition says of its parts around one of them and of its sum; the last part taken off and put on.
-- Assumes nothing.
use mathlib.Core.Path.{◌≡◌, refl, sym, ◌∙◌, ap, subst}
use mathlib.Core.Bool.{true, ◌&&◌, and_assoc}
use mathlib.Core.List.{[], ◌∷◌, ◌++◌}
use Prim.Native.Nat.{ℕ, suc, ◌+◌, ◌*◌, ◌-◌, ◌≤◌, ◌<◌}
use native.Mathlib.Nat.{zero-mul, suc-mul, le-mul_of_pos_right}
use native.Mathlib.Omega.{arith}
use lib.Dec.{leb, eqb}
use lib.ListN.{length, get_or, take, drop, length-append}
use lib.Seq.{split_at}
use borrow.Author.Tests.{leb-true, le-leb, eqb-true, eq-eqb}
use Rattle.basics.specs.Sums.{total}
use Rattle.basics.proofs.Bools.{and-true, and_makes}
use Rattle.basics.proofs.Totals.{total-append, total-snoc}
use Rattle.listings.specs.Bytes.{Bytes}
use Rattle.integer_partitions.specs.Objects.{descends, is_integer_partition}

pub record Partition (f n k : ℕ) (x : Bytes) : Type 0 where
  pub size : length x ≡ k
  pub sum : total x ≡ n
  pub down : descends f x ≡ true

pub partition_cases : (f n k : ℕ) (x : Bytes) → is_integer_partition f n k x ≡ true → Partition f n k x
unfolding is_integer_partition
partition_cases f n k x o =
    let (counts, down) = and-true (eqb (length x) k && eqb (total x) n) (descends f x) o in
    let (size, sum) = and-true (eqb (length x) k) (eqb (total x) n) counts in
    record { size = eqb-true (length x) k size; sum = eqb-true (total x) n sum; down = down }

pub partition_makes : (f n k : ℕ) (x : Bytes) → Partition f n k x → is_integer_partition f n k x ≡ true
unfolding is_integer_partition
partition_makes f n k x p = and_makes (and_makes (eq-eqb (length x) k p.size) (eq-eqb (total x) n p.sum)) p.down

-- parts that descend

pub descends-cons : (f a : ℕ) (x : Bytes) → descends f (a ∷ x) ≡ true → (get_or x 0 f ≤ a) × (descends f x ≡ true)
unfolding descends
descends-cons f a x e = let (low, down) = and-true (leb (get_or x 0 f) a) (descends f x) e in (leb-true (get_or x 0 f) a low, down)

pub descends_makes : (f a : ℕ) (x : Bytes) → get_or x 0 f ≤ a → descends f x ≡ true → descends f (a ∷ x) ≡ true
unfolding descends
descends_makes f a x h e = and_makes (le-leb (get_or x 0 f) a h) e

-- the first of the parts behind is the floor of those in front
pub descends-append : (f : ℕ) (x y : Bytes) → descends f (x ++ y) ≡ (descends (get_or y 0 f) x && descends f y)
unfolding descends
descends-append f [] y = refl
descends-append f (a ∷ []) y = sym (and_assoc (leb (get_or y 0 f) a) true (descends f y))
descends-append f (a ∷ b ∷ x) y = ap (λ t. leb b a && t) (descends-append f (b ∷ x) y) ∙ sym (and_assoc (leb b a) (descends (get_or y 0 f) (b ∷ x)) (descends f y))

-- a partition around one of its parts: those in front are at least that part, which is at least the next or the floor

pub record Cut (f n k : ℕ) (y : Bytes) (p : ℕ) (z : Bytes) : Type 0 where
  pub size : length y + suc (length z) ≡ k
  pub sum : total y + (p + total z) ≡ n
  pub front : is_integer_partition p (total y) (length y) y ≡ true
  pub low : get_or z 0 f ≤ p
  pub down : descends f z ≡ true

cut-cases : (f n k p : ℕ) (y z : Bytes) → is_integer_partition f n k (y ++ (p ∷ z)) ≡ true → Cut f n k y p z
unfolding total
cut-cases f n k p y z o =
    let whole = partition_cases f n k (y ++ (p ∷ z)) o in
    let (front, back) = and-true (descends p y) (descends f (p ∷ z)) (sym (descends-append f y (p ∷ z)) ∙ whole.down) in
    let (low, down) = descends-cons f p z back in
    record {
      size = sym (length-append y (p ∷ z)) ∙ whole.size;
      sum = sym (total-append y (p ∷ z)) ∙ whole.sum;
      front = partition_makes p (total y) (length y) y (record { size = refl; sum = refl; down = front });
      low = low;
      down = down;
    }

pub cut : (f n k i : ℕ) (x : Bytes) → is_integer_partition f n k x ≡ true → i < length x → Cut f n k (take i x) (get_or x i 0) (drop (suc i) x)
cut f n k i x o h = cut-cases f n k (get_or x i 0) (take i x) (drop (suc i) x) (subst (λ y. is_integer_partition f n k y ≡ true) (split_at x i 0 h) o)

-- the last part

pub record Ends (f n k : ℕ) (x : Bytes) (p : ℕ) : Type 0 where
  pub from : f ≤ p
  pub within : p ≤ n
  pub rest : is_integer_partition p (n - p) k x ≡ true

pub snoc-cases : (f n k : ℕ) (x : Bytes) (p : ℕ) → is_integer_partition f n (suc k) (x ++ (p ∷ [])) ≡ true → Ends f n k x p
unfolding total
snoc-cases f n k x p o =
    let c = cut-cases f n (suc k) p x [] o in
    let size : length x ≡ k = omega arith in
    let sum : total x ≡ n - p = omega arith in
    record { from = c.low; within = omega arith; rest = rw (size, sum) at c.front }

pub snoc_makes : (f n k : ℕ) (x : Bytes) (p : ℕ) → Ends f n k x p → is_integer_partition f n (suc k) (x ++ (p ∷ [])) ≡ true
unfolding descends
snoc_makes f n k x p e =
    let front = partition_cases p (n - p) k x e.rest in
    partition_makes f n (suc k) (x ++ (p ∷ []))
    (record { size = omega (arith, length-append x (p ∷ [])); sum = omega (arith, total-snoc x p); down = descends-append f x (p ∷ []) ∙ and_makes front.down (descends_makes f p [] e.from refl) })

-- sums

pub from_floor : (f : ℕ) (x : Bytes) → descends f x ≡ true → f ≤ get_or x 0 f
from_floor f [] down = omega arith
from_floor f (a ∷ x) down = let (low, rest) = descends-cons f a x down in omega (arith, from_floor f x rest)

parts_total : (f : ℕ) (x : Bytes) → descends f x ≡ true → length x * f ≤ total x
unfolding total
parts_total f [] down = omega (arith, zero-mul f)
parts_total f (a ∷ x) down = omega (arith, from_floor f (a ∷ x) down, parts_total f x (descends-cons f a x down).1, suc-mul (length x) f)

pub floor_total : (f n k : ℕ) (x : Bytes) → is_integer_partition f n k x ≡ true → k * f ≤ n
floor_total f n k x o = let p = partition_cases f n k x o in rw (← p.size, ← p.sum) (parts_total f x p.down)

-- no more parts than the sum
pub few : (f n k : ℕ) (x : Bytes) → 0 < f → is_integer_partition f n k x ≡ true → k ≤ n
few f n k x pos o = omega (arith, floor_total f n k x o, le-mul_of_pos_right k pos)
