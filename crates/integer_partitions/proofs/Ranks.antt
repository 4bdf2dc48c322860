-- Where a partition with the last part p stands: behind those with a smaller last part, by the place of its other parts. And what holds at
-- each turn of RANK's and UNRANK's loops, which go from the last part to the first. Assumes nothing.
use mathlib.Core.Path.{◌≡◌, refl, sym, ◌∙◌, subst}
use mathlib.Core.Bool.{true}
use mathlib.Core.List.{[], ◌∷◌, ◌++◌, map, flat_map, append-nil, append_assoc}
use Prim.Native.Nat.{ℕ, suc, ◌+◌, ◌-◌, ◌*◌, ◌≤◌, ◌<◌}
use native.Mathlib.Nat.{zero-add}
use native.Mathlib.Numerals.{add-one}
use native.Mathlib.Omega.{arith}
use lib.ListN.{length, get_or, set, take, drop, length-set, length-map, drop_of_length-le}
use lib.Seq.{take-suc, take_all, length-take-le}
use Rattle.basics.specs.Sums.{range, sum_over}
use Rattle.basics.proofs.Lists.{drop-set}
use Rattle.basics.proofs.Ranges.{range-add, take_range, sum_over-append}
use Rattle.basics.proofs.Totals.{total_end}
use Rattle.numbers.specs.Numbers.{parts_from}
use Rattle.numbers.proofs.Laws.{next_floor}
use Rattle.listings.specs.Bytes.{Bytes}
use Rattle.listings.specs.Places.{At, First, count_before}
use Rattle.listings.proofs.ChoicePlaces.{at_choice}
use Rattle.listings.proofs.PlaceRules.{at_exists, at_member, at_append_right, at_range_from}
use Rattle.listings.proofs.Ranks.{at_rank, rank_below, place-is_rank}
use Rattle.integer_partitions.specs.Objects.{is_integer_partition, integer_partition_before}
use Rattle.integer_partitions.specs.Listing.{integer_partitions}
use Rattle.integer_partitions.proofs.Facts.{partition_cases, snoc-cases, floor_total}
use Rattle.integer_partitions.proofs.Theorem.{lists, counted}
use Rattle.integer_partitions.proofs.Counts.{one_empty, few_above}

at_last_part : (k f n p r : ℕ) {x : Bytes} → f ≤ p → p ≤ n → At (integer_partitions p (n - p) k) x r
    → At (integer_partitions f n (suc k)) (x ++ (p ∷ [])) (parts_from f n (suc k) - parts_from p n (suc k) + r)
unfolding integer_partitions parts_from
at_last_part k f n p r {x} low high at =
    let size : suc n - f ≡ p - f + (suc n - p) = omega arith in
    let from : f + (p - f) ≡ p = omega arith in
    let split : parts_from f n (suc k) ≡ sum_over (range f (p - f)) (λ q. parts_from q (n - q) k) + parts_from p n (suc k) = rw (size, range-add, sum_over-append, from) in
    let front : sum_over (take (p - f) (range f (suc n - f))) (λ q. parts_from q (n - q) k) ≡ parts_from f n (suc k) - parts_from p n (suc k) = rw (take_range f (suc n - f) (p - f) (omega arith)) (omega arith) in
    subst (λ m. At (integer_partitions f n (suc k)) (x ++ (p ∷ [])) (m + r)) front
    (at_choice (range f (suc n - f)) (λ q. integer_partitions q (n - q) k) (λ q y. y ++ (q ∷ [])) (λ q. counted q (n - q) k) (p - f) r (at_range_from f (suc n - f) p low (omega arith)) at)

-- behind those that end with the floor stand those over the next floor
above_floor : (k f n r : ℕ) {x : Bytes} → f ≤ n → At (integer_partitions (suc f) n (suc k)) x r → At (integer_partitions f n (suc k)) x (parts_from f (n - f) k + r)
unfolding integer_partitions flat_map range
above_floor k f n r h at =
    let size : suc n - f ≡ suc (suc n - suc f) = omega arith in
    let front : Bytes → Bytes = λ y. y ++ (f ∷ []) in
    rw (size, ← counted f (n - f) k, ← length-map (integer_partitions f (n - f) k) front) (at_append_right (map front (integer_partitions f (n - f) k)) (integer_partitions (suc f) n (suc k)) r at)

-- the rank, from the last part on: r is what the parts behind the first k make of it

pub record Ranking (F N : ℕ) (x : Bytes) (r f n k : ℕ) : Type 0 where
  pub bounds : (k ≤ length x) × (0 < f) × (n ≤ N)
  pub parts : is_integer_partition f n k (take k x) ≡ true
  pub sum : r + count_before integer_partition_before (take k x) (integer_partitions f n k) ≡ count_before integer_partition_before x (integer_partitions F N (length x))

pub ranking : (F N : ℕ) (x : Bytes) → 0 < F → is_integer_partition F N (length x) x ≡ true → Ranking F N x 0 F N (length x)
ranking F N x pos o =
    let all : take (length x) x ≡ x = take_all (length x) x (omega arith) in
    record { bounds = omega arith; parts = rw all o; sum = rw all (zero-add _) }

-- the last of the k parts that are left, p, behind all but one of them
pub record Turn (F N r f n k end p : ℕ) (x : Bytes) : Type 0 where
  pub floors : (0 < f) × (f ≤ p) × (p ≤ n) × (n ≤ N)
  pub fits : r + (parts_from f n k - parts_from p n k) < parts_from F N (length x)
  pub next : Ranking F N x (r + (parts_from f n k - parts_from p n k)) p (n - p) end

pub turn : {F N r f n i : ℕ} {x : Bytes} → Ranking F N x r f n i → is_integer_partition F N (length x) x ≡ true → (k end p : ℕ) → i ≡ suc end → k ≡ suc end → p ≡ get_or x end 0
    → Turn F N r f n k end p x
turn {F} {N} {r} {f} {n} {i} {x} h o k end p e g b =
    let left : Ranking F N x r f n k = rw (e ∙ sym g) at h in
    let split : take k x ≡ take end x ++ (p ∷ []) = rw (g, b) (take-suc x end 0 (omega (arith, left.bounds))) in
    let ends = snoc-cases f n end (take end x) p (rw (split, g) at left.parts) in
    let here = at_last_part end f n p _ ends.from ends.within (at_rank (lists p (n - p) end) (take end x) ends.rest) in
    let place = place-is_rank (lists f n k) _ (rw (← g, ← split) at here) in
    record {
      floors = omega (arith, left.bounds, ends);
      fits = omega (arith, left.sum, place, rank_below (lists F N (length x)) x o, counted F N (length x));
      next = record { bounds = omega (arith, left.bounds); parts = ends.rest; sum = omega (arith, left.sum, place) };
    }

pub ranked : {F N r f n : ℕ} {x : Bytes} → Ranking F N x r f n 0 → r ≡ count_before integer_partition_before x (integer_partitions F N (length x))
ranked {F} {N} {r} {f} {n} {x} h = omega (arith, h.sum, rank_below (lists f n 0) [] h.parts, counted f n 0, one_empty f n 0 refl)

-- the object of a rank R, written from the last part on: whatever has the rank r among those that can stand in front of what is written makes it

pub record Unranking (K F N R : ℕ) (r f n k : ℕ) (x : Bytes) : Type 0 where
  pub size : length x ≡ K
  pub bounds : (k ≤ K) × (0 < f) × (n ≤ N)
  pub below : r < parts_from f n k
  pub makes : (y : Bytes) → At (integer_partitions f n k) y r → At (integer_partitions F N K) (y ++ drop k x) R

pub unranking : (F N R : ℕ) (x : Bytes) → 0 < F → R < parts_from F N (length x) → Unranking (length x) F N R R F N (length x) x
unranking F N R x pos below =
    let none : drop (length x) x ≡ [] = drop_of_length-le x {i = length x} (omega arith) in
    record { size = refl; bounds = omega arith; below = below; makes = λ y at. rw (none, append-nil y) at }

-- what it says that there is a partition
pub fits : (f n k : ℕ) → 0 < parts_from f n k → (k * f ≤ n) × (k ≡ 0 → n ≡ 0)
fits f n k some =
    let (x, at) = at_exists (integer_partitions f n k) 0 (omega (arith, counted f n k)) in
    let o = (lists f n k).only x (at_member (integer_partitions f n k) 0 at) in
    let p = partition_cases f n k x o in
    (floor_total f n k x o, λ e. omega (arith, total_end x 0 (omega arith)))

module _ {K F N R r f n k here : ℕ} {x : Bytes} (u : Unranking K F N R r f n k x) (pos : 0 < r) (c : here ≡ parts_from f (n - f) (k - 1)) where
  left : (suc (k - 1) ≡ k) × (f ≤ n)
  left = grind (arith, u.below, one_empty f n k, few_above f n k)

  -- the rank is among those that end with the floor
  pub ends_here : r < here → Unranking K F N R r f (n - f) (k - 1) (set x (k - 1) f)
  ends_here low =
      let none : parts_from f n k - parts_from f n k + r ≡ r = omega arith in
      record {
        size = length-set x (k - 1) f ∙ u.size;
        bounds = omega (arith, u.bounds);
        below = omega arith;
        makes = λ y at. rw (drop-set x (k - 1) f (omega (arith, u, left)), ← append_assoc y (f ∷ []) (drop (suc (k - 1)) x), left.0) (u.makes (y ++ (f ∷ [])) (rw (left.0, none) at (at_last_part (k - 1) f n f r (omega arith) left.1 at)));
      }

  -- it is behind them
  pub ends_higher : here ≤ r → Unranking K F N R (r - here) (f + 1) n k x
  ends_higher high =
      let back : parts_from f (n - f) (k - 1) + (r - here) ≡ r = omega arith in
      rw (add-one f)
      (record {
        size = u.size;
        bounds = omega (arith, u.bounds);
        below = omega (arith, u.below, rw left.0 at (next_floor f n (k - 1) left.1));
        makes = λ y at. u.makes y (rw (back, left.0) at (above_floor (k - 1) f n (r - here) left.1 (rw (← left.0) at at)));
      })

-- where the rank is 0, the first of those in front makes it
pub unranked : {K F N R r f n k : ℕ} {x y : Bytes} → Unranking K F N R r f n k x → r ≡ 0 → First (integer_partitions f n (length (take k x))) y
    → At (integer_partitions F N K) (y ++ drop k x) R
unranked {K} {F} {N} {R} {r} {f} {n} {k} {x} {y} u e start = u.makes y (rw (e, ← length-take-le k x (omega arith)) start)
