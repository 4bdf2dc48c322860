-- The test as the code does it: letters taken one by one from those left, place after place of the word.
-- Assumes nothing.
use mathlib.Core.Path.{◌≡◌, refl}
use mathlib.Core.Bool.{true, false}
use mathlib.Core.List.{List, [], ◌∷◌}
use Prim.Native.Nat.{ℕ, zero, suc, ◌+◌, ◌-◌, ◌≤◌, ◌<◌}
use native.Mathlib.Nat.{zero-add, suc-add}
use native.Mathlib.Numerals.{add-one}
use native.Mathlib.Omega.{arith}
use lib.Dec.{eqb, eqb-zero-suc}
use lib.ListN.{length, drop, get_or, set, drop_of_length-le}
use lib.Seq.{drop-cons}
use borrow.Author.Tests.{ne_eqb}
use Rattle.std.specs.List.{list_all}
use Rattle.basics.specs.Sums.{total}
use Rattle.basics.proofs.Bools.{fails}
use Rattle.numbers.proofs.Laws.{one_less-set}
use Rattle.listings.specs.Bytes.{Bytes}
use Rattle.anagrams.specs.Objects.{is_anagram}
use Rattle.anagrams.proofs.Facts.{without-first, first_off, empty_word}

-- no letter is left where each count is 0
pub all_zero : (cs : List ℕ) → list_all (λ n. eqb n 0) cs ≡ eqb 0 (total cs)
unfolding total
all_zero [] = refl
all_zero (zero ∷ cs) = rw zero-add (all_zero cs)
all_zero (suc c ∷ cs) = rw (suc-add, eqb-zero-suc, ne_eqb (suc c) 0 (omega arith))

-- the word from place i on: its letter, at the place k of the counts, is taken
pub letter_spent : (cs : List ℕ) (x : Bytes) (i k : ℕ) → i < length x → get_or x i 0 ≡ k + 1 → 0 < get_or cs k 0 → is_anagram cs (drop i x) ≡ is_anagram (set cs k (get_or cs k 0 - 1)) (drop (i + 1) x)
letter_spent cs x i k inside is left = rw (add-one, drop-cons x i 0 inside, one_less-set cs k) (without-first cs k (get_or x i 0) (drop (suc i) x) (omega arith) left)

pub letter_there : (cs : List ℕ) (x : Bytes) (i : ℕ) → i < length x → is_anagram cs (drop i x) ≡ true → (k : ℕ) × (get_or x i 0 ≡ k + 1) × (0 < get_or cs k 0)
letter_there cs x i inside o =
    let (k, e, h, _) = first_off cs (get_or x i 0) (drop (suc i) x) (rw (drop-cons x i 0 inside) at o) in
    (k, omega arith, h)

pub no_letter : (cs : List ℕ) (x : Bytes) (i : ℕ) → i < length x → ((k : ℕ) → get_or x i 0 ≡ k + 1 → get_or cs k 0 ≡ 0) → is_anagram cs (drop i x) ≡ false
no_letter cs x i inside none = fails _ (λ o. let (k, e, h) = letter_there cs x i inside o in omega (arith, none k e))

-- at its end
pub no_more : (cs : List ℕ) (x : Bytes) (i : ℕ) → length x ≤ i → is_anagram cs (drop i x) ≡ eqb 0 (total cs)
no_more cs x i all = rw (drop_of_length-le x {i = i} all) (empty_word cs)
