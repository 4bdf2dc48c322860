-- A letter put in front of a permutation of the others: where it stands in the listing, and the digits of a rank in factorials.
-- Assumes nothing.
use mathlib.Core.Path.{◌≡◌, refl, sym, ◌∙◌, ap}
use mathlib.Core.Bool.{true}
use mathlib.Core.List.{List, [], ◌∷◌, map}
use Prim.Native.Nat.{ℕ, zero, suc, ◌+◌, ◌-◌, ◌*◌, ◌/◌, ◌%◌, ◌≤◌, ◌<◌}
use native.Mathlib.Nat.{sub_self, zero-add, add_assoc, zero-mul, suc-mul, mul_comm, mul_assoc, add-mul, mul-div_cancel, mod-lt, div-add-mod'}
use native.Mathlib.Numerals.{add-one}
use native.Mathlib.Omega.{arith}
use lib.ListN.{length, take, drop, get_or, set, length-set, length-map, length-replicate, get_or-replicate}
use lib.Seq.{drop-length, drop_at, length-take-le}
use borrow.Rule.Slice.PartMut.{mid_of, put_mid, same_len_mid}
use Rattle.basics.specs.Limits.{places}
use Rattle.basics.specs.Sums.{total}
use Rattle.basics.proofs.Lists.{drop-set, lent_rest, put_rest, take-replicate}
use Rattle.numbers.specs.Numbers.{factorial_of, multinomial_of, one_less}
use Rattle.numbers.proofs.Laws.{total_less, total-ones, multinomial_ones, factorial_rule, left-inside, length-one_less}
use Rattle.listings.specs.Bytes.{Bytes}
use Rattle.listings.specs.Places.{At}
use Rattle.listings.proofs.PlaceRules.{at_map, at_member}
use Rattle.anagrams.specs.Objects.{is_anagram}
use Rattle.anagrams.specs.Listing.{words, anagrams}
use Rattle.anagrams.specs.Permutations.{ones, permutations}
use Rattle.anagrams.proofs.Facts.{first_off}
use Rattle.anagrams.proofs.Theorem.{lists}
use Rattle.anagram_ranks.specs.Inner.Raised.{raised}
use Rattle.anagram_ranks.proofs.Ranks.{place_letter}
use Rattle.anagram_ranks.proofs.Raising.{put_zero, words-put}

-- a letter in front of a permutation of the others

one_less-ones : (m i : ℕ) → i ≤ m → one_less (ones (suc m)) i ≡ put_zero i (ones m)
unfolding one_less put_zero
one_less-ones m zero h = refl
one_less-ones zero (suc i) h = absurd (omega arith)
one_less-ones (suc m) (suc i) h = ap (λ (l : List ℕ). 1 ∷ l) (one_less-ones m i (omega arith))

one_left : (m i : ℕ) → i < m → 0 < get_or (ones m) i 0
one_left m i h = rw (get_or-replicate {A = ℕ} m i 1 0 h) (omega arith)

put_listed : (m i : ℕ) → i ≤ m → anagrams (one_less (ones (suc m)) i) ≡ map (map (raised (suc i))) (permutations m)
unfolding anagrams
put_listed m i h =
    let t : total (one_less (ones (suc m)) i) ≡ total (ones m) = omega (arith, total_less (ones (suc m)) i (one_left (suc m) i (omega arith)), total-ones (suc m), total-ones m) in
    rw (t, one_less-ones m i h) (words-put (total (ones m)) i (ones m))

share_ones : (m i : ℕ) → i ≤ m → multinomial_of (ones (suc m)) * total (take i (ones (suc m))) / total (ones (suc m)) ≡ i * factorial_of m
share_ones m i h =
    rw (multinomial_ones (suc m), take-replicate {A = ℕ} (suc m) i 1 (omega arith), total-ones i, total-ones (suc m), factorial_rule, mul_comm (suc m), mul_comm (factorial_of m * suc m), ← mul_assoc)
    (mul-div_cancel (i * factorial_of m) {n = suc m} (omega arith))

pub put_in_front : (m i r : ℕ) (x : Bytes) → i ≤ m → At (permutations m) x r → At (permutations (suc m)) (suc i ∷ map (raised (suc i)) x) (i * factorial_of m + r)
put_in_front m i r x h k =
    let raises : At (anagrams (one_less (ones (suc m)) i)) (map (raised (suc i)) x) r = rw (put_listed m i h) (at_map (map (raised (suc i))) (permutations m) r k) in
    rw (share_ones m i h) at (place_letter (ones (suc m)) i r (one_left (suc m) i (omega arith)) raises)

-- the letters of a word are at most as many as are counted

within : (cs : List ℕ) (x : Bytes) (k : ℕ) → is_anagram cs x ≡ true → get_or x k 0 ≤ length cs
within cs [] k o = omega arith
within cs (a ∷ x) zero o = let (i, e, h, _) = first_off cs a x o in omega (arith, left-inside cs i h)
within cs (a ∷ x) (suc k) o =
    let (i, _, _, rest) = first_off cs a x o in
    omega (arith, within (one_less cs i) x k rest, length-one_less cs i)

permutation_within : (m r : ℕ) (x : Bytes) → At (permutations m) x r → (k : ℕ) → get_or x k 0 ≤ m
permutation_within m r x h k = omega (arith, within (ones m) x k ((lists (ones m)).only x (at_member (permutations m) r h)), length-replicate {A = ℕ} m 1)

-- the permutation of a rank, of which the letters from place i on are written, as a permutation of their own: the other digits are in rest

pub record Written (rank : ℕ) (x : Bytes) (rest i : ℕ) : Type 0 where
  pub inside : i ≤ length x
  pub place : ℕ
  pub here : At (permutations (length x - i)) (drop i x) place
  pub sum : rank ≡ rest * factorial_of (length x - i) + place

pub written_none : (rank : ℕ) (x : Bytes) → Written rank x rank (length x)
unfolding anagrams words factorial_of total
written_none rank x = record { inside = omega arith; place = 0; here = rw (sub_self, drop-length); sum = rw sub_self (omega arith) }

pub letters_small : {rank : ℕ} {x : Bytes} {rest i : ℕ} → length x ≤ places → Written rank x rest i → (k : ℕ) → get_or (mid_of i (length x - i) x) k 0 < 255
letters_small {x} {i} h w k = rw (lent_rest i x) (omega (arith, permutation_within (length x - i) w.place (drop i x) w.here k))

-- the letter a is stored in front of the part ys that is back
stored : (x ys : Bytes) (i j a : ℕ) → j ≡ i + 1 → j ≤ length x → length (put_mid j (length x - j) x ys) ≡ length x → drop i (set (put_mid j (length x - j) x ys) i a) ≡ a ∷ ys
stored x ys i j a next inside long =
    let e : suc i ≡ j = omega arith in
    rw (drop-set (put_mid j (length x - j) x ys) i a (omega arith), e, put_rest j x ys, drop_at (take j x) ys j (length-take-le j x inside))

digits : (rest m f r : ℕ) → rest * f + r ≡ rest / m * (m * f) + (rest % m * f + r)
digits rest m f r = ap (λ k. k * f + r) (sym (div-add-mod' rest m)) ∙ rw (add-mul, mul_assoc, add_assoc)

pub written_more : {rank : ℕ} {x : Bytes} {rest i j : ℕ} (m a : ℕ) (ys : Bytes) → j ≡ i + 1 → m ≡ length x - i → a ≡ rest % m + 1 → ys ≡ map (raised a) (mid_of j (length x - j) x) → Written rank x rest j
    → (length (set (put_mid j (length x - j) x ys) i a) ≡ length x) × Written rank (set (put_mid j (length x - j) x ys) i a) (rest / m) i
written_more {rank} {x} {rest} {i} {j} m a ys next e d made w =
    let kept = same_len_mid j (length x - j) x ys (ap length made ∙ length-map (mid_of j (length x - j) x) (raised a)) in
    let long = length-set (put_mid j (length x - j) x ys) i a ∙ kept in
    let size : length (set (put_mid j (length x - j) x ys) i a) - i ≡ suc (length x - j) = omega (arith, long, w.inside) in
    let is : suc (length x - j) ≡ m = omega arith in
    let digit : rest % m < m = mod-lt rest (omega arith) in
    let letter : a ≡ suc (rest % m) = d ∙ add-one _ in (
      long,
      record {
        inside = omega (arith, long, w.inside);
        place = rest % m * factorial_of (length x - j) + w.place;
        here = rw (size, stored x ys i j a next w.inside kept, made, lent_rest j x, letter) (put_in_front (length x - j) (rest % m) w.place (drop j x) (omega arith) w.here);
        sum = rw (size, factorial_rule, is) (w.sum ∙ digits rest m (factorial_of (length x - j)) w.place);
      },
    )

-- no digit is left of a rank below the count
no_digit : (rest f r rank : ℕ) → rank < f → rank ≡ rest * f + r → r ≡ rank
no_digit zero f r rank h e = sym (rw (zero-mul, zero-add) at e)
no_digit (suc rest) f r rank h e = absurd (omega (arith, rw suc-mul at e))

pub written_all : {rank : ℕ} {x : Bytes} {rest i : ℕ} → i ≤ 0 → rank < factorial_of (length x) → Written rank x rest i → At (permutations (length x)) x rank
written_all {rank} {x} {rest} {i} none below w =
    let start : i ≡ 0 = omega arith in
    let size : length x - i ≡ length x = omega arith in
    rw (size, start, no_digit rest _ w.place rank below (rw size at w.sum)) at w.here
