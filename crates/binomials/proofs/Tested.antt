-- Every coefficient within the places that is below 2^64 is what the parts of the factorials make, and the last columns say which are: tested
-- once over the whole triangle. Assumes nothing.
use Rattle.std.proofs.Common.{◌≡◌, ℕ, suc, ◌+◌, ◌-◌, ◌*◌, ◌%◌, ◌^◌, ◌<◌, ◌≤◌, Bool, true, false, ◌&&◌, ◌||◌, eqb, ltb, leb, get_or, sym, refl, ap, ◌∙◌, zero-add, arith, ltb-true, lt-ltb, eqb-true, leb-true}
use mathlib.Core.Bool.{and-eq-true_iff, false≢true}
use Rattle.basics.specs.Limits.{places}
use Rattle.basics.specs.Sums.{range}
use Rattle.numbers.specs.Numbers.{choose}
use Rattle.numbers.proofs.Triangles.{row}
use Rattle.numbers.proofs.Weighted.{step}
use Rattle.numbers.proofs.Binomials.{pascal_weighted}
use Rattle.binomials.specs.declared.factorials.TheConstants.{ODDS, INVERSES, TWOS, LAST_COLUMNS}
use Rattle.numbers.proofs.WeightedTests.{holds, tests, every}

-- the factors 2 of the two factorials that divide, those of k out of n, and the number that these and the odd parts make
abbrev pub taken : ℕ → ℕ → ℕ
taken n k = get_or TWOS k 0 + get_or TWOS (n - k) 0

abbrev pub carries : ℕ → ℕ → ℕ
carries n k = get_or TWOS n 0 - taken n k

abbrev pub made_of : ℕ → ℕ → ℕ
made_of n k = get_or ODDS n 0 * (get_or INVERSES k 0 * get_or INVERSES (n - k) 0 % 2 ^ 64) % 2 ^ 64 * 2 ^ carries n k % 2 ^ 64

-- what the last columns say
unfoldable pub within : ℕ → ℕ → Bool
within n k = ltb n 68 || (leb k (get_or LAST_COLUMNS (n - 68) 0) || leb (n - k) (get_or LAST_COLUMNS (n - 68) 0))

-- a coefficient that fits is what is made, and the last columns say so; of another they say that it does not fit
unfoldable judged : Bool → Bool → Bool → Bool
judged true said made = said && made
judged false true made = false
judged false false made = true

-- is c, the entry k of row n, as the code has it?
unfoldable right : ℕ → ℕ → ℕ → Bool
right n k c =
    leb (taken n k) (get_or TWOS n 0) && (ltb (get_or TWOS n 0) 256 && (ltb (carries n k) 64 && judged (ltb c (2 ^ 64)) (within n k) (eqb (made_of n k) c)))

tested : tests (λ k. 1) right (suc places) 0 (row choose 0) ≡ true
unfolding tests holds right judged within step row range choose
tested = refl

pub record Made (n k : ℕ) : Type 0 where
  pub fewer : taken n k ≤ get_or TWOS n 0
  pub small : get_or TWOS n 0 < 256
  pub few : carries n k < 64
  pub says : within n k ≡ ltb (choose n k) (2 ^ 64)
  pub made : choose n k < 2 ^ 64 → made_of n k ≡ choose n k

judgement : (fits said made : Bool) → judged fits said made ≡ true → (said ≡ fits) × (fits ≡ true → made ≡ true)
unfolding judged
judgement true said made h = let b = (and-eq-true_iff said made).0 h in (b.0, λ e. b.1)
judgement false true made h = absurd (false≢true h)
judgement false false made h = (refl, λ e. absurd (false≢true e))

read : (n k : ℕ) → right n k (choose n k) ≡ true → Made n k
unfolding right
read n k h =
    let a = (and-eq-true_iff (leb (taken n k) (get_or TWOS n 0)) _).0 h in
    let b = (and-eq-true_iff (ltb (get_or TWOS n 0) 256) _).0 a.1 in
    let d = (and-eq-true_iff (ltb (carries n k) 64) _).0 b.1 in
    let j = judgement (ltb (choose n k) (2 ^ 64)) (within n k) (eqb (made_of n k) (choose n k)) d.1 in
    record {
      fewer = leb-true _ _ a.0;
      small = ltb-true _ _ b.0;
      few = ltb-true _ _ d.0;
      says = j.0;
      made = λ l. eqb-true _ _ (j.1 (lt-ltb _ _ l));
    }

pub made_of_lem : (n k : ℕ) → n ≤ places → k ≤ n → Made n k
made_of_lem n k h b =
    read n k (ap (λ (i : ℕ). right i k (choose i k)) (sym (zero-add n)) ∙ every (λ j. 1) choose pascal_weighted right (suc places) 0 tested n k (omega arith) (omega arith))
