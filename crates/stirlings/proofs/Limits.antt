-- On each row of the band the last column tells where the numbers reach 2^64, and that a band whose last number is below has no more numbers than its room: tested once
-- over the triangle to the last row. Assumes nothing.
use mathlib.Core.Path.{◌≡◌, refl, sym, ◌∙◌, ap}
use mathlib.Core.Bool.{Bool, true, false, ◌&&◌, not, and-eq-true_iff, false≢true}
use mathlib.Core.List.{[], ◌∷◌}
use Prim.Native.Nat.{ℕ, suc, ◌+◌, ◌-◌, ◌*◌, ◌≤◌, ◌<◌, ◌^◌}
use native.Mathlib.Nat.{zero-add}
use native.Mathlib.Omega.{arith}
use lib.Dec.{leb, ltb}
use lib.ListN.{get_or}
use borrow.Author.Tests.{leb-true, lt-ltb}
use Rattle.basics.specs.Limits.{places}
use Rattle.basics.specs.Sums.{range}
use Rattle.numbers.specs.Numbers.{stirling_of}
use Rattle.numbers.proofs.Stirlings.{stirling_weighted}
use Rattle.numbers.proofs.Triangles.{row}
use Rattle.numbers.proofs.Weighted.{step}
use Rattle.stirling_rows.specs.Inner.Stored.{last_row}
use Rattle.stirlings.specs.declared.TheConstants.{LAST_COLUMNS}
use Rattle.stirlings.specs.Inner.Band.{capacity}
use Rattle.numbers.proofs.WeightedTests.{holds, tests, every}

-- below 2^64 up to the limit, and then the band to there has room; not below it past the limit
agree : Bool → Bool → Bool → Bool
agree true b c = b && c
agree false b c = not b

unfoldable right : ℕ → ℕ → ℕ → Bool
unfolding agree
right n k c = agree (ltb c (2 ^ 64)) (leb k (get_or LAST_COLUMNS (n - k) 0)) (leb ((n - k + 1) * (k + 1)) capacity)

tested : tests (λ k. k) right (places + 1) 0 (1 ∷ []) ≡ true
unfolding tests holds right step
tested = refl

pub record Below (n k : ℕ) : Type 0 where
  pub fits : ltb (stirling_of n k) (2 ^ 64) ≡ leb k (get_or LAST_COLUMNS (n - k) 0)
  pub room : stirling_of n k < 2 ^ 64 → (n - k + 1) * (k + 1) ≤ capacity

same : (a b c : Bool) → agree a b c ≡ true → a ≡ b
unfolding agree
same true b c h = sym ((and-eq-true_iff b c).0 h).0
same false true c h = absurd (false≢true h)
same false false c h = refl

third : (a b c : Bool) → agree a b c ≡ true → a ≡ true → c ≡ true
unfolding agree
third true b c h e = ((and-eq-true_iff b c).0 h).1
third false b c h e = absurd (false≢true e)

read : (n k : ℕ) → right n k (stirling_of n k) ≡ true → Below n k
unfolding right
read n k h = record {
  fits = same _ _ (leb ((n - k + 1) * (k + 1)) capacity) h;
  room = λ l. leb-true _ _ (third (ltb (stirling_of n k) (2 ^ 64)) (leb k (get_or LAST_COLUMNS (n - k) 0)) _ h (lt-ltb _ _ l));
}

start : row stirling_of 0 ≡ 1 ∷ []
unfolding row range stirling_of
start = refl

pub below : (n k : ℕ) → n ≤ places → k ≤ n → Below n k
below n k h b =
    let z : 0 + n ≡ n = zero-add n in
    read n k (ap (λ (i : ℕ). right i k (stirling_of i k)) (sym z) ∙ every (λ k. k) stirling_of stirling_weighted right (places + 1) 0 (ap (tests (λ k. k) right (places + 1) 0) start ∙ tested) n k (omega arith) (omega arith))

-- the stored rows are below it

all_small : tests (λ k. k) (λ n k c. ltb c (2 ^ 64)) (suc last_row) 0 (1 ∷ []) ≡ true
unfolding tests holds step
all_small = refl

pub small : (n k : ℕ) → n ≤ last_row → k ≤ n → ltb (stirling_of n k) (2 ^ 64) ≡ true
small n k h b =
    ap (λ (i : ℕ). ltb (stirling_of i k) (2 ^ 64)) (sym (zero-add n))
    ∙ every (λ k. k) stirling_of stirling_weighted (λ n k c. ltb c (2 ^ 64)) (suc last_row) 0 (ap (tests (λ k. k) (λ n k c. ltb c (2 ^ 64)) (suc last_row) 0) start ∙ all_small) n k (omega arith) (omega arith)
