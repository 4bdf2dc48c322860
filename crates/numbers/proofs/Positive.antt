-- Which counts are positive, as tests of n and k: where there is an object, and where there is none.
-- Assumes nothing.
use mathlib.Core.Path.{◌≡◌, refl, sym}
use mathlib.Core.Bool.{true, ◌&&◌, ◌||◌, not}
use mathlib.Core.List.{List}
use Prim.Native.Nat.{ℕ, zero, suc, ◌*◌, ◌≤◌, ◌<◌}
use native.Mathlib.Nat.{zero-mul}
use native.Mathlib.Omega.{arith}
use native.Mathlib.Decide.{dec_le}
use lib.Dec.{leb, ltb, eqb}
use lib.ListN.{replicate}
use borrow.Author.Tests.{lt-ltb, le-leb, lt-leb, ne_eqb}
use Rattle.numbers.specs.Numbers.{choose, multinomial_of, factorial_of, stirling_of, parts_from, catalan_of, derangements_of}
use Rattle.numbers.proofs.Laws.{choose-none, choose-positive, multinomial_positive, multinomial_ones, stirling_corner, stirling_none, stirling_zero, stirling_positive, too_few, nothing, no_parts, parts_positive, catalan_positive, derangement_zero, derangement_one, derangement_positive}

-- a number that is positive where n has the least that k asks for and where k is 0 only for n = 0, and 0 elsewhere
module _ (T : ℕ → ℕ → ℕ) (least : ℕ → ℕ) (nil : least 0 ≡ 0) (above : (n k : ℕ) → n < least k → T n k ≡ 0) (left : (n : ℕ) → 0 < n → T n 0 ≡ 0) (corner : T 0 0 ≡ 1) (inside : (n k : ℕ) → 0 < k → least k ≤ n → 1 ≤ T n k) where
  triangle : (n k : ℕ) → ltb 0 (T n k) ≡ (leb (least k) n && (ltb 0 k || eqb n 0))
  triangle zero zero = rw (corner, nil)
  triangle (suc n) zero = rw (left (suc n) (omega arith), nil, le-leb 0 (suc n) (omega arith), ne_eqb (suc n) 0 (λ e. omega arith))
  triangle n (suc k) =
      elim (dec_le (least (suc k)) n) [
        | yes h ↦ rw (lt-ltb 0 (T n (suc k)) (inside n (suc k) (omega arith) h), le-leb (least (suc k)) n h, lt-ltb 0 (suc k) (omega arith))
        | no h ↦ rw (above n (suc k) (omega arith), lt-leb (least (suc k)) n (omega arith))
      ]

pub choose-some : (n k : ℕ) → ltb 0 (choose n k) ≡ leb k n
choose-some n k =
    elim (dec_le k n) [
      | yes h ↦ rw (lt-ltb 0 (choose n k) (choose-positive n k h), le-leb k n h)
      | no h ↦ rw (choose-none n k (omega arith), lt-leb k n (omega arith))
    ]

pub multinomial_some : (cs : List ℕ) → ltb 0 (multinomial_of cs) ≡ true
multinomial_some cs = lt-ltb 0 (multinomial_of cs) (multinomial_positive cs)

pub factorial_some : (n : ℕ) → ltb 0 (factorial_of n) ≡ true
factorial_some n = lt-ltb 0 (factorial_of n) (rw (sym (multinomial_ones n)) (multinomial_positive (replicate n 1)))

pub stirling_some : (n k : ℕ) → ltb 0 (stirling_of n k) ≡ (leb k n && (ltb 0 k || eqb n 0))
stirling_some n k = triangle stirling_of (λ j. j) refl stirling_none stirling_zero stirling_corner stirling_positive n k

pub parts_some : (f n k : ℕ) → ltb 0 (parts_from f n k) ≡ (leb (k * f) n && (ltb 0 k || eqb n 0))
parts_some f n k = triangle (parts_from f) (λ j. j * f) (zero-mul f) (too_few f) (no_parts f) (nothing f) (parts_positive f) n k

pub catalan_some : (n : ℕ) → ltb 0 (catalan_of n) ≡ true
catalan_some n = lt-ltb 0 (catalan_of n) (catalan_positive n)

pub derangement_some : (n : ℕ) → ltb 0 (derangements_of n) ≡ not (eqb n 1)
derangement_some zero = rw derangement_zero
derangement_some (suc zero) = rw derangement_one
derangement_some (suc (suc n)) = rw (lt-ltb 0 (derangements_of (suc (suc n))) (derangement_positive n), ne_eqb (suc (suc n)) 1 (λ e. omega arith))
