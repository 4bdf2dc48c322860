-- The step from a partition to the next: a part goes up by one, the parts in front of it are the last and become the first, those behind stay.
-- Assumes nothing.
use mathlib.Core.Path.{◌≡◌, sym, ◌∙◌, ap, subst}
use mathlib.Core.Bool.{true}
use mathlib.Core.List.{List, [], ◌∷◌, ◌++◌}
use Prim.Native.Nat.{ℕ, suc, ◌+◌, ◌*◌, ◌-◌, ◌≤◌, ◌<◌}
use native.Mathlib.Nat.{add-zero, add-suc, suc-add, add_assoc, le_of_lt, mul-le-mul_left}
use native.Mathlib.Numerals.{add-one}
use native.Mathlib.Omega.{arith}
use lib.ListN.{length, get_or, set, take, drop, get_or-eq_default}
use lib.Seq.{append_snoc, split_at, drop-cons, set_at, length-take-le, take-take, get_or-take}
use Rattle.basics.specs.Sums.{total}
use Rattle.basics.specs.Limits.{places}
use Rattle.basics.proofs.Lists.{head-drop}
use Rattle.basics.proofs.Ranges.{in_range}
use Rattle.basics.proofs.Totals.{total_end}
use Rattle.listings.specs.Bytes.{Bytes}
use Rattle.listings.specs.Places.{Follows, First, Last}
use Rattle.listings.proofs.ChoicePlaces.{inside_choice, seam_choice, Tail, ends, then, tail_keeps}
use Rattle.listings.proofs.PlaceRules.{follows_range}
use Rattle.listings.proofs.Standing.{get_d_default}
use Rattle.integer_partitions.specs.Objects.{descends, is_integer_partition}
use Rattle.integer_partitions.specs.Listing.{integer_partitions}
use Rattle.integer_partitions.specs.Inner.Searches.{ToRaise, ToLower}
use Rattle.std.specs.Prelude.{None, Some}
use Rattle.integer_partitions.proofs.Facts.{descends-cons, Cut, cut, floor_total}
use Rattle.integer_partitions.proofs.Places.{level_first, full_last}

-- the listings, by the floor, the sum and the number of parts
abbrev over : ℕ × ℕ × ℕ → List Bytes
over s = integer_partitions s.0 s.1 s.2

-- parts that descend to the floor keep neighbours in front of them
tail : (f n k : ℕ) (z : Bytes) → descends f z ≡ true → Tail over (get_or z 0 f, n, k) z (f, n + total z, k + length z)
unfolding integer_partitions total
tail f n k [] down = rw (add-zero n, add-zero k) ends
tail f n k (q ∷ z) down =
    let (low, rest) = descends-cons f q z down in
    let off : n + q - q ≡ n = omega arith in
    let mem = in_range (get_or z 0 f) (suc (n + q) - get_or z 0 f) low (omega arith) in
    let on : (x y : Bytes) → Follows (integer_partitions q n k) x y → Follows (integer_partitions (get_or z 0 f) (n + q) (suc k)) (x ++ (q ∷ [])) (y ++ (q ∷ [])) =
    λ x y s. inside_choice (λ p. integer_partitions p (n + q - p) k) (λ p v. v ++ (p ∷ [])) {x = x} {y = y} mem (rw off s) in
    rw (add-suc, ← suc-add, ← add_assoc) (then on (tail f (n + q) (suc k) z rest))

-- the part at place i becomes p, and the parts in front of it, which can be that large, get the sum s
pub record Moved (x : Bytes) (i p s : ℕ) : Type 0 where
  pub inside : i < length x
  pub front : i ≡ length (take i x)
  pub sums : (s + p ≡ total (take i x) + get_or x i 0) × (s + p ≤ places)
  pub room : (s ≤ places) × (length (take i x) * p ≤ s)
  pub none : length (take i x) ≡ 0 → s ≡ 0

pub none_rises : (f n : ℕ) (x : Bytes) → is_integer_partition f n (length x) x ≡ true → ToRaise x None → Last (integer_partitions f n (length x)) x
none_rises f n x o full = full_last f n (length x) x o full

pub none_falls : (f n : ℕ) (x : Bytes) → is_integer_partition f n (length x) x ≡ true → ToLower f x None → First (integer_partitions f n (length x)) x
none_falls f n x o level = level_first f n (length x) x o (λ j l. omega (arith, level (suc j) l (omega arith), get_or-eq_default x f {n = length x} (omega arith)))

module _ (f n i : ℕ) (x : Bytes) (o : is_integer_partition f n (length x) x ≡ true) where
  here : i < length x → Cut f n (length x) (take i x) (get_or x i 0) (drop (suc i) x)
  here h = cut f n (length x) i x o h

  size : i < length x → length (take i x) ≡ i
  size h = length-take-le i x (le_of_lt h)

  -- before the parts behind place i: the last with the part p there, and then the first with the next larger part
  seam : i < length x → (p s : ℕ) {v w : Bytes} → suc s + p ≡ total (take i x) + get_or x i 0 → get_or (drop (suc i) x) 0 f ≤ p → Last (integer_partitions p (suc s) (length (take i x))) v → First (integer_partitions (suc p) s (length (take i x))) w
      → Follows (integer_partitions f n (length x)) (v ++ (p ∷ drop (suc i) x)) (w ++ (suc p ∷ drop (suc i) x))
  unfolding integer_partitions
  seam h p s {v} {w} sum low end start =
      let z : Bytes = drop (suc i) x in
      let m : ℕ = length (take i x) in
      let off : suc s + p - p ≡ suc s = omega arith in
      let less : suc s + p - suc p ≡ s = omega arith in
      let size : suc m + length z ≡ length x = omega (arith, here h) in
      let whole : suc s + p + total z ≡ n = omega (arith, here h) in
      let front : Follows (integer_partitions (get_or z 0 f) (suc s + p) (suc m)) (v ++ (p ∷ [])) (w ++ (suc p ∷ [])) =
      seam_choice (λ q. integer_partitions q (suc s + p - q) m) (λ q y. y ++ (q ∷ [])) {x = v} {y = w} (follows_range (get_or z 0 f) (suc (suc s + p) - get_or z 0 f) p low (omega arith)) (rw off end) (rw less start) in
      rw (← append_snoc v p z, ← append_snoc w (suc p) z, ← size, ← whole) (tail_keeps (tail f (suc s + p) (suc m) z (here h).down) front)

  -- as the code puts it together: y in front of what was there, and then one store
  put : (y : Bytes) (v : ℕ) → length y ≡ length (take i x) → i < length x → set (y ++ drop i x) i v ≡ y ++ (v ∷ drop (suc i) x)
  put y v e h = ap (λ (z : Bytes). set (y ++ z) i v) (drop-cons x i 0 h) ∙ set_at y (get_or x i 0) (drop (suc i) x) v i (e ∙ size h)

  -- the first part that can go up does

  pub raised : n ≤ places → ToRaise x (Some i) → Moved x i (get_or x i 0 + 1) (total (take i x) - 1)
  raised most (h, full, found) =
      let room : length (take i x) * (get_or x i 0 + 1) ≤ total (take i x) - 1 = rw (size h) (omega arith) in
      record { inside = h; front = sym (size h); sums = omega (arith, here h); room = omega (arith, here h); none = λ e. omega (arith, total_end (take i x) 0 (omega arith)) }

  pub raises : ToRaise x (Some i) → (y : Bytes) → length y ≡ length (take i x) → First (integer_partitions (get_or x i 0 + 1) (total (take i x) - 1) (length (take i x))) y
      → Follows (integer_partitions f n (length x)) x (set (y ++ drop i x) i (get_or x i 0 + 1))
  raises (h, full, found) y long start =
      let more : suc (total (take i x) - 1) ≡ total (take i x) = omega arith in
      let end : Last (integer_partitions (get_or x i 0) (suc (total (take i x) - 1)) (length (take i x))) (take i x) =
      rw more
      (full_last (get_or x i 0) (total (take i x)) (length (take i x)) (take i x) (here h).front
      (λ j l. let l' : j < i = omega (arith, size h) in rw (take-take j i x (le_of_lt l'), get_or-take i x j 0 l') (full j l'))) in
      rw (put y (get_or x i 0 + 1) long h, add-one)
      (subst (λ w. Follows (integer_partitions f n (length x)) w (y ++ (suc (get_or x i 0) ∷ drop (suc i) x))) (sym (split_at x i 0 h))
      (seam h (get_or x i 0) (total (take i x) - 1) (omega arith) (here h).low end (rw add-one at start)))

  -- the first part behind the first that can go down does

  pub lowered : n ≤ places → ToLower f x (Some i) → Moved x i (get_or x i 0 - 1) (total (take i x) + 1)
  lowered most (h, level, pos, found) =
      let less : get_or x i 0 - 1 ≤ get_or x i 0 = omega arith in
      let room : length (take i x) * (get_or x i 0 - 1) ≤ total (take i x) = omega (arith, floor_total _ _ _ _ (here h).front, mul-le-mul_left (length (take i x)) less) in
      record { inside = h; front = sym (size h); sums = omega (arith, here h); room = omega (arith, here h); none = λ e. absurd (omega (arith, size h)) }

  pub lowers : ToLower f x (Some i) → (y : Bytes) → length y ≡ length (take i x) → Last (integer_partitions (get_or x i 0 - 1) (total (take i x) + 1) (length (take i x))) y
      → Follows (integer_partitions f n (length x)) (set (y ++ drop i x) i (get_or x i 0 - 1)) x
  lowers (h, level, pos, found) y long end =
      let below = rw add-one at found in
      let more : suc (get_or x i 0 - 1) ≡ get_or x i 0 = omega arith in
      let start : First (integer_partitions (suc (get_or x i 0 - 1)) (total (take i x)) (length (take i x))) (take i x) =
      rw more
      (level_first (get_or x i 0) (total (take i x)) (length (take i x)) (take i x) (here h).front
      (λ j l. let l' : suc j < i = omega (arith, size h) in rw (get_or-take i x (suc j) 0 l') (omega (arith, level (suc j) l' (omega arith), get_d_default x i 0 f h)))) in
      rw (put y (get_or x i 0 - 1) long h)
      (subst (Follows (integer_partitions f n (length x)) (y ++ ((get_or x i 0 - 1) ∷ drop (suc i) x))) (sym (split_at x i 0 h))
      (rw more at (seam h (get_or x i 0 - 1) (total (take i x)) (omega arith) (omega (arith, head-drop x (suc i) f)) (rw add-one at end) start)))
