-- The rank of a subset by its last number, b: those below b come first, and then as many as before the numbers in front of it. And what holds at
-- each turn of RANK's and UNRANK's loops, which go from the last number to the first.
-- Assumes nothing.
use mathlib.Core.Path.{◌≡◌, refl, sym, ◌∙◌, ap}
use mathlib.Core.Bool.{true}
use mathlib.Core.List.{[], ◌∷◌, ◌++◌, append-nil, append_assoc}
use Prim.Native.Nat.{ℕ, suc, ◌+◌, ◌-◌, ◌≤◌, ◌<◌}
use native.Mathlib.Nat.{zero-add}
use native.Mathlib.Numerals.{add-one}
use native.Mathlib.Omega.{arith}
use lib.ListN.{length, take, drop, get_or, set, length-set, drop_of_length-le}
use lib.Seq.{take-suc, take-length}
use Rattle.basics.proofs.Lists.{drop-set}
use Rattle.numbers.specs.Numbers.{choose}
use Rattle.numbers.proofs.Laws.{pascal, choose-zero, choose-none, choose_mono}
use Rattle.listings.specs.Bytes.{Bytes}
use Rattle.listings.specs.Places.{At, count_before}
use Rattle.listings.proofs.Ranks.{at_rank, rank_below, place-is_rank}
use Rattle.subsets.specs.Objects.{is_subset, subset_before}
use Rattle.subsets.specs.Listing.{subsets}
use Rattle.subsets.proofs.Facts.{last_off}
use Rattle.subsets.proofs.Theorem.{counted, lists}
use Rattle.subsets.proofs.Places.{at_number}

-- out of fewer numbers no more subsets can be made, and out of too few none
pub ruleset fewer_numbers = (choose_mono, choose-none)

below_count : (n k : ℕ) (x : Bytes) → is_subset n k x ≡ true → count_before subset_before x (subsets n k) < choose n k
below_count n k x o = rw counted at (rank_below (lists n k) x o)

by_last : (n end m : ℕ) (front : Bytes) {i : ℕ} {x : Bytes} → i ≡ suc end → x ≡ front ++ (suc m ∷ []) → m < n → is_subset m end front ≡ true
    → count_before subset_before x (subsets n i) ≡ choose m i + count_before subset_before front (subsets m end)
by_last n end m front e f h o = rw (e, f) (place-is_rank (lists n (suc end)) _ (at_number n end m _ h (at_rank (lists m end) front o)))

-- the rank, from the last number on: r is what the numbers behind the first i make of it, and those i are a subset out of the numbers up to top

pub record Ranking (N : ℕ) (x : Bytes) (r i : ℕ) : Type 0 where
  pub top : ℕ
  pub high : top ≤ N
  pub front : is_subset top i (take i x) ≡ true
  pub sum : r + count_before subset_before (take i x) (subsets top i) ≡ count_before subset_before x (subsets N (length x))

pub ranking : (N : ℕ) (x : Bytes) → is_subset N (length x) x ≡ true → Ranking N x 0 (length x)
ranking N x o = record { top = N; high = omega arith; front = rw take-length o; sum = rw take-length (zero-add _) }

-- the last of the k numbers that are left, b, behind all but one of them
pub record Turn (N r k end b : ℕ) (x : Bytes) : Type 0 where
  pub some : 1 ≤ b
  pub high : b ≤ N
  pub fits : r + choose (b - 1) k < choose N (length x)
  pub next : Ranking N x (r + choose (b - 1) k) end

pub turn : {N r i : ℕ} {x : Bytes} → Ranking N x r i → is_subset N (length x) x ≡ true → (k end b : ℕ) → end < length x → i ≡ suc end → k ≡ suc end → b ≡ get_or x end 0
    → Turn N r k end b x
turn {N} {r} {i} {x} h o k end b within e g f =
    let split : take i x ≡ take end x ++ (b ∷ []) = rw (e, f) (take-suc x end 0 within) in
    let (m, last, below, front) = last_off h.top end b (take end x) (rw (split, e) at h.front) in
    let top : b - 1 ≡ m = omega arith in
    let parts = by_last h.top end m (take end x) e (rw last at split) below front in
    let same : choose m i ≡ choose m k = ap (choose m) (e ∙ sym g) in
    record {
      some = omega arith;
      high = omega (arith, h.high);
      fits = rw top (omega (arith, h.sum, parts, same, below_count N (length x) x o));
      next = record { top = m; high = omega (arith, h.high); front = front; sum = rw top (omega (arith, h.sum, parts, same)) };
    }

-- with no number left, all that come before are counted
pub ranked : {N r : ℕ} {x : Bytes} → Ranking N x r 0 → r ≡ count_before subset_before x (subsets N (length x))
ranked h = omega (arith, h.sum, below_count h.top 0 [] h.front, choose-zero h.top)

-- the object of a rank R, from the last number on: whatever has the rank r among the subsets of i out of 1 to m makes it, in front of what is written

pub record Unranking (K N R r m i : ℕ) (x : Bytes) : Type 0 where
  pub size : length x ≡ K
  pub high : m ≤ N
  pub bounds : choose m i ≤ choose N K
  pub below : r < choose m i
  pub makes : (y : Bytes) → At (subsets m i) y r → At (subsets N K) (y ++ drop i x) R

pub unranking : (N R : ℕ) (x : Bytes) → R < choose N (length x) → Unranking (length x) N R R N (length x) x
unranking N R x below =
    let none : drop (length x) x ≡ [] = drop_of_length-le x {i = length x} (omega arith) in
    record { size = refl; high = omega arith; bounds = omega arith; below = below; makes = λ y at. rw (none, append-nil y) at }

-- the largest top out of which at most r can be made: the last number is top + 1, and the rest of the rank is one of those in front
pub unranking_on : {K N R r m i : ℕ} {x : Bytes} → Unranking K N R r m i x → (k end top : ℕ) → end < length x → i ≡ suc end → k ≡ suc end → top < m → choose top k ≤ r → r < choose (suc top) k
    → Unranking K N R (r - choose top k) top end (set x end (top + 1))
unranking_on {K} {N} {R} {r} {m} {i} {x} u k end top within e g h low high =
    let q = r - choose top k in
    let split : choose (suc top) k ≡ choose top end + choose top k = rw g (pascal top end) in
    let whole : choose top (suc end) + q ≡ r = omega (arith, ap (choose top) g) in
    record {
      size = length-set x end (top + 1) ∙ u.size;
      high = omega (arith, u.high);
      bounds = omega (arith, split, choose_mono k h, u.bounds, ap (choose m) (g ∙ sym e));
      below = omega arith;
      makes = λ y at.
          rw (add-one top, drop-set x end (suc top) within, ← append_assoc y (suc top ∷ []) (drop (suc end) x))
          (rw e at (u.makes (y ++ (suc top ∷ [])) (rw (whole, ← e) at (at_number m end top q h at))));
    }

pub unranked : {K N R r m : ℕ} {x : Bytes} → Unranking K N R r m 0 x → At (subsets N K) x R
unfolding subsets
unranked {r = r} {m = m} u = let none : r ≡ 0 = omega (arith, u.below, choose-zero m) in u.makes [] (rw none refl)
