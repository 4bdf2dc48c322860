-- Which subset follows which: a number moves by one with those in front of it at their ends. And what the two searches tell of that.
-- Assumes nothing.
use mathlib.Core.Path.{◌≡◌, refl, sym, ◌∙◌, ap, ap₂, subst, subst₂}
use mathlib.Core.Bool.{Bool, true, false}
use mathlib.Core.List.{[], ◌∷◌, ◌++◌}
use Prim.Native.Nat.{ℕ, zero, suc, pred, ◌+◌, ◌-◌, ◌≤◌, ◌<◌}
use native.Mathlib.Nat.{add-zero}
use native.Mathlib.Numerals.{add-one, one-add}
use native.Mathlib.Omega.{arith}
use lib.ListN.{length, take, drop, get_or, set, length-drop, get_or-eq_default}
use lib.Seq.{take-length, take-suc, append_snoc, split_at}
use Rattle.basics.specs.Sums.{range}
use Rattle.basics.proofs.Lists.{head-drop, front_long, refilled}
use Rattle.basics.proofs.Ranges.{range_snoc}
use Rattle.listings.specs.Bytes.{Bytes}
use Rattle.listings.specs.Places.{First, Last}
use Rattle.listings.specs.Calls.{STEPPED, Said, act}
use Rattle.listings.specs.Directions.{step_call, Beside, after, before, Edge, latest, earliest}
use Rattle.listings.proofs.ChoicePlaces.{Tail, ends, then, tail_beside}
use Rattle.listings.proofs.Standing.{get_d_default}
use Rattle.listings.proofs.Stepping.{steps}
use Rattle.subsets.specs.Objects.{climbs, is_subset, subset_before}
use Rattle.subsets.specs.Listing.{subsets}
use Rattle.subsets.specs.Inner.Searches.{Tight, Low}
use Rattle.subsets.proofs.Facts.{climbs-cases, subset_cases}
use Rattle.subsets.proofs.Theorem.{lists}
use Rattle.subsets.proofs.Places.{last-number, inside-number, seam_number, lowest_first, highest_last}

-- climbing numbers: n + 1 stands behind the last

above : (a n : ℕ) (x : Bytes) → a ≤ n → climbs a n x ≡ true → a < get_or x 0 (suc n)
above a n [] h up = omega arith
above a n (b ∷ x) h up = (climbs-cases a n b x up).0

-- the number at place r, and those behind it
record Here (a n r : ℕ) (x : Bytes) : Type 0 where
  low : a + r < get_or x r 0
  high : get_or x r 0 ≤ n
  next : get_or x r 0 < get_or x (suc r) (suc n)
  later : climbs (get_or x r 0) n (drop (suc r) x) ≡ true

here : (a n r : ℕ) (x : Bytes) → climbs a n x ≡ true → r < length x → Here a n r x
here a n r [] up h = absurd (omega arith)
here a n zero (b ∷ x) up h =
    let first = climbs-cases a n b x up in
    record { low = omega arith; high = first.1; next = above b n x first.1 first.2; later = first.2 }
here a n (suc r) (b ∷ x) up h =
    let first = climbs-cases a n b x up in
    let behind = here b n r x first.2 (omega arith) in
    record { low = omega (arith, behind.low); high = behind.high; next = behind.next; later = behind.later }

room : (n : ℕ) (x : Bytes) → climbs 0 n x ≡ true → length x ≤ n
room n [] up = omega arith
room n (b ∷ x) up = omega (arith, here 0 n (length x) (b ∷ x) up (omega arith))

-- a tail of larger numbers, behind k of those below its first
tail : (a n k j : ℕ) (z : Bytes) → a ≤ n → climbs a n z ≡ true → j ≡ k + length z → Tail (λ (s : ℕ × ℕ). subsets s.0 s.1) (pred (get_or z 0 (suc n)), k) z (n, j)
tail a n k j [] h up e = rw (e, add-zero) ends
tail a n k j (zero ∷ z) h up e = absurd (let first = climbs-cases a n zero z up in omega arith)
tail a n k j (suc b ∷ z) h up e =
    let first = climbs-cases a n (suc b) z up in
    let m : ℕ = pred (get_or z 0 (suc n)) in
    then (λ x y. inside-number m k b (omega (arith, above (suc b) n z first.1 first.2))) (tail (suc b) n (suc k) j z first.1 first.2 (omega arith))

-- a step: v comes to place i, and from, from + 1, .. in front of it
pub record Move (up : Bool) (n i v from : ℕ) (x : Bytes) : Type 0 where
  pub within : i < length x
  pub few : length x ≤ n
  pub high : get_or x i 0 ≤ n
  pub beside : Beside up (subsets n (length x)) x (range from i ++ (v ∷ drop (suc i) x))

module _ {up : Bool} {n i v from : ℕ} {x : Bytes} (m : Move up n i v from x) where
  pub lent : length (take i (set x i v)) ≡ i
  lent = front_long x i v m.within

  pub moves : {part : Bytes} → part ≡ range from (length (take i (set x i v))) → ◌≡◌ {A = Said} (STEPPED, part ++ drop i (set x i v)) (act (step_call up) subset_before (subsets n (length x)) x)
  moves e = ap {B = Said} (λ y. (STEPPED, y)) (refilled x i v m.within from e) ∙ steps (lists n (length x)) m.beside

-- a subset, and what the searches tell of it

module _ (n : ℕ) (x : Bytes) (o : is_subset n (length x) x ≡ true) where
  climbing : climbs 0 n x ≡ true
  climbing = (subset_cases n (length x) x o).1

  -- a step of the first r + 1 numbers is one of them all
  moved : (r v from : ℕ) {up : Bool} → r < length x → Beside up (subsets (pred (get_or x (suc r) (suc n))) (suc r)) (take r x ++ (get_or x r 0 ∷ [])) (range from r ++ (v ∷ [])) → Move up n r v from x
  moved r v from {up} within s =
      let h = here 0 n r x climbing within in
      let z = drop (suc r) x in
      record {
        within = within;
        few = room n x climbing;
        high = h.high;
        beside = subst₂ (Beside up (subsets n (length x))) (append_snoc (take r x) (get_or x r 0) z ∙ sym (split_at x r 0 within)) (append_snoc (range from r) v z)
            (tail_beside (rw head-drop at (tail (get_or x r 0) n (suc r) (length x) z h.high h.later (omega (arith, length-drop (suc r) x)))) s);
      }

  -- none of the first r numbers can go up: they are the last of the numbers below m + 1, which stands behind them

  packed : (r m : ℕ) → r ≤ length x → Tight n x r → get_or x r (suc n) ≡ suc m → Last (subsets m r) (take r x)
  unfolding subsets
  packed zero m within tight e = record { place = 0; here = refl; final = refl }
  packed (suc r) m within tight e =
      let h = here 0 n r x climbing within in
      let c = pred m in
      let f : get_or x r 0 ≡ suc c = omega (arith, h.low, h.next, tight r (omega arith)) in
      rw (take-suc x r 0 within, f) (last-number m r c (omega (arith, h.next, f)) (packed r c (omega arith) (λ i k. tight i (omega arith)) (get_d_default x r (suc n) 0 within ∙ f)))

  pub none_to_raise : Tight n x (length x) → Edge true (subsets n (length x)) x
  none_to_raise tight = latest (rw take-length at (packed (length x) n (omega arith) tight (get_or-eq_default x (suc n) (omega arith))))

  pub number-raised : (r : ℕ) → r < length x → Tight n x r → suc (get_or x r 0) < get_or x (suc r) (suc n) → Move true n r (get_or x r 0 + 1) 1 x
  number-raised r within tight free =
      let c = pred (get_or x r 0) in
      let m : ℕ = pred (get_or x (suc r) (suc n)) in
      let h = here 0 n r x climbing within in
      let e : get_or x r 0 ≡ suc c = omega (arith, h.low) in
      let last = packed r c (omega arith) tight (get_d_default x r (suc n) 0 within ∙ e) in
      moved r (get_or x r 0 + 1) 1 within (after (rw (add-one, e) (seam_number m r c (omega arith) last (lowest_first (suc c) r (omega (arith, h.low))))))

  -- none of the first r numbers can go down: they are the first

  lowest : (r : ℕ) → r ≤ length x → Low x r → take r x ≡ range 1 r
  unfolding range
  lowest zero within low = refl
  lowest (suc r) within low =
      let e : get_or x r 0 ≡ suc r = omega (arith, low r (omega arith), (here 0 n r x climbing within).low) in
      take-suc x r 0 within ∙ ap₂ (λ y c. y ++ (c ∷ [])) (lowest r (omega arith) (λ i k. low i (omega arith))) (e ∙ sym (one-add r)) ∙ sym (range_snoc 1 r)

  pub none_to_lower : Low x (length x) → Edge false (subsets n (length x)) x
  none_to_lower low = earliest (subst (First (subsets n (length x))) (sym (lowest (length x) (omega arith) low) ∙ take-length x) (lowest_first n (length x) (room n x climbing)))

  pub number-lowered : (r b : ℕ) → r < length x → Low x r → get_or x r 0 ≡ suc (suc (b + r)) → Move false n r (get_or x r 0 - 1) (get_or x r 0 - 1 - r) x
  number-lowered r b within low e =
      let m : ℕ = pred (get_or x (suc r) (suc n)) in
      let h = here 0 n r x climbing within in
      let top : get_or x r 0 - 1 ≡ suc (b + r) = omega arith in
      let from : get_or x r 0 - 1 - r ≡ suc b = omega arith in
      moved r (get_or x r 0 - 1) (get_or x r 0 - 1 - r) within
      (before (rw (from, top, e, lowest r (omega arith) low) (seam_number m r (b + r) (omega (arith, h.next)) (highest_last (b + r) (suc b) r (omega arith) (omega arith)) (lowest_first (suc (b + r)) r (omega arith)))))
