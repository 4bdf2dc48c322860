-- What the callers of `fill` need: row 0, and a walk through the band from its last number: one place back where the last model is alone in its
-- block, a row back where it is not. Assumes nothing.
use mathlib.Core.Path.{◌≡◌, refl, sym, ◌∙◌, ap, subst}
use mathlib.Core.List.{List}
use Prim.Native.Nat.{ℕ, suc, ◌+◌, ◌-◌, ◌*◌, ◌≤◌, ◌<◌}
use native.Mathlib.Nat.{suc-mul, mul-le-mul, zero-mul, le_refl}
use native.Mathlib.Omega.{arith}
use lib.ListN.{get_or, replicate, length-replicate, get_or-replicate}
use Rattle.numbers.specs.Numbers.{stirling_of}
use Rattle.stirlings.specs.Inner.Band.{capacity, Filled, Reaches}
use Rattle.stirlings.proofs.Laws.{band, first-row}

-- a list of ones has row 0; its length is a variable here, so that the list is not written out
pub ones : (m w : ℕ) → m ≡ capacity → w ≤ m → Filled (replicate m 1) w 1
ones m w size room = record {
  size = length-replicate m 1 ∙ size;
  room = omega arith;
  there = λ e j a b.
      let z : e ≡ 0 = omega arith in
      let i : e * w + j ≡ j = ap (λ (k : ℕ). k * w + j) z ∙ omega (arith, zero-mul w) in
      ap (λ (k : ℕ). get_or (replicate m 1) k 0) i ∙ get_or-replicate m j 1 0 (omega arith) ∙ sym (first-row j) ∙ ap (λ (k : ℕ). band k j) (sym z);
}

fewer_rows : (t : List ℕ) (w c d : ℕ) → c ≤ d → Filled t w d → Filled t w c
fewer_rows t w c d h f = record { size = f.size; room = omega (arith, f.room, mul-le-mul h (le_refl w)); there = λ e j a. f.there e j (omega arith) }

-- from the end of a band
pub whole : (t : List ℕ) (n k : ℕ) → Filled t (k + 1) (n - k + 1) → Reaches t (k + 1) ((n - k) * (k + 1) + k) n k
whole t n k f = record { filled = f; column = omega arith; here = refl }

module _ (t : List ℕ) (w at n k : ℕ) (r : Reaches t w at n k) where
  pub number : k ≤ n → get_or t at 0 ≡ stirling_of n k
  number h =
      let e : k + (n - k) ≡ n = omega arith in
      ap (λ (i : ℕ). get_or t i 0) r.here ∙ r.filled.there (n - k) k (omega arith) r.column ∙ ap (λ (i : ℕ). stirling_of i k) e

  pub within : at < capacity
  within = let e : n - k + 1 ≡ suc (n - k) = omega arith in omega (arith, r.here, r.column, r.filled.room, ap (λ (i : ℕ). i * w) e, suc-mul (n - k) w)

  pub to_alone : 1 ≤ k → 1 ≤ n → Reaches t w (at - 1) (n - 1) (k - 1)
  to_alone some more =
      let e : n - 1 - (k - 1) ≡ n - k = omega arith in
      record {
        filled = subst (λ (d : ℕ). Filled t w (d + 1)) (sym e) r.filled;
        column = omega (arith, r.column);
        here = omega (arith, r.here, ap (λ (d : ℕ). d * w) e);
      }

  -- a row before
  pub row_back : k < n → w ≤ at
  row_back h = let e : n - k ≡ suc (n - 1 - k) = omega arith in omega (arith, r.here, ap (λ (d : ℕ). d * w) e, suc-mul (n - 1 - k) w)

  pub to_joined : k < n → Reaches t w (at - w) (n - 1) k
  to_joined h =
      let e : n - k ≡ suc (n - 1 - k) = omega arith in
      record {
        filled = fewer_rows t w (n - 1 - k + 1) (n - k + 1) (omega arith) r.filled;
        column = r.column;
        here = omega (arith, r.here, ap (λ (d : ℕ). d * w) e, suc-mul (n - 1 - k) w);
      }
