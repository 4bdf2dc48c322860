-- What a loop over one row keeps, one turn of it, and what a row more makes of a band.
-- Assumes nothing.
use mathlib.Core.Path.{◌≡◌, refl, sym, ◌∙◌, ap}
use mathlib.Core.Logic.{◌⊎◌, inl, inr}
use mathlib.Core.List.{List}
use Prim.Native.Nat.{ℕ, suc, ◌+◌, ◌-◌, ◌*◌, ◌≤◌, ◌<◌}
use native.Mathlib.Nat.{zero-add, suc-mul, mul-le-mul, le_refl}
use native.Mathlib.Decide.{dec_le}
use native.Mathlib.Omega.{arith}
use lib.ListN.{length, get_or, set, replicate, length-set, get_or-replicate}
use lib.Seq.{get_or-set_same, get_or-set_other}
use Rattle.stirlings.specs.Inner.Band.{capacity, Filled, Stands}
use Rattle.stirlings.proofs.Laws.{band, left_of_lem, rule, first-row}

-- the first j numbers of row d + 1 stand from `here` on, left is the last of them, and all before and behind them is as it was
pub record Doing (t₀ t : List ℕ) (d here left j : ℕ) : Type 0 where
  pub same : length t ≡ length t₀
  pub last : left ≡ left_of_lem (suc d) j
  pub done : (i : ℕ) → i < j → get_or t (here + i) 0 ≡ band (suc d) i
  pub before : (m : ℕ) → m < here → get_or t m 0 ≡ get_or t₀ m 0
  pub behind : (m : ℕ) → here + j ≤ m → get_or t m 0 ≡ get_or t₀ m 0

pub begin : (t : List ℕ) (d here j : ℕ) → j ≡ 0 → Doing t t d here 0 j
unfolding left_of_lem
begin t d here j none = rw none record { same = refl; last = refl; done = λ i h. absurd (omega arith); before = λ m h. refl; behind = λ m h. refl }

here_or : (i j : ℕ) → i < suc j → (i ≡ j) ⊎ (i < j)
here_or i j h = elim (dec_le j i) [ yes g ↦ inl (omega arith) | no g ↦ inr (omega arith) ]

-- what a turn stores, j places behind `above`, is the next number of the row; above it stands a number that is as it was
module _ (above stride at : ℕ) {t₀ t : List ℕ} {w d left : ℕ} (p : Doing t₀ t d (above + stride) left (at - above)) (from : above ≤ at) (to : at < above + w) where
  kept_above : (stride ≡ 0) ⊎ (w ≤ stride) → get_or t at 0 ≡ get_or t₀ at 0
  kept_above (inl h) = p.behind at (omega arith)
  kept_above (inr h) = p.before at (omega arith)

  pub next_number : (stride ≡ 0) ⊎ (w ≤ stride) → Stands t₀ above w d → left + (at - above) * get_or t at 0 ≡ band (suc d) (at - above)
  next_number apart row =
      let back : above + (at - above) ≡ at = omega arith in
      let read : get_or t at 0 ≡ band d (at - above) = kept_above apart ∙ ap (λ (i : ℕ). get_or t₀ i 0) (sym back) ∙ row.there (at - above) (omega arith) in
      rw (read, p.last) (rule d (at - above))

module _ {t₀ t : List ℕ} {d here left j : ℕ} (p : Doing t₀ t d here left j) {i v : ℕ} (at : i ≡ here + j) (room : i < length t) (n : v ≡ band (suc d) j) where
  done_more : (m : ℕ) → (m ≡ j) ⊎ (m < j) → get_or (set t i v) (here + m) 0 ≡ band (suc d) m
  done_more m (inl e) = rw (e, ← at, get_or-set_same t i v 0 room) n
  done_more m (inr h) = get_or-set_other t i (here + m) v 0 (λ q. omega (arith, q)) ∙ p.done m h

  pub number_more : (j' : ℕ) → j' ≡ suc j → Doing t₀ (set t i v) d here v j'
  unfolding left_of_lem
  number_more j' e = rw e record {
    same = length-set t i v ∙ p.same;
    last = n;
    done = λ m h. done_more m (here_or m j h);
    before = λ m h. get_or-set_other t i m v 0 (λ q. omega (arith, q)) ∙ p.before m h;
    behind = λ m h. get_or-set_other t i m v 0 (λ q. omega (arith, q)) ∙ p.behind m (omega arith);
  }

-- a band of which row d + 1 comes to stand behind row d

earlier : (w d e j : ℕ) → e < d → j < w → e * w + j < d * w
earlier w d e j h g = omega (arith, mul-le-mul h (le_refl w), suc-mul e w)

pub band_row : {t : List ℕ} {w d : ℕ} → Filled t w (d + 1) → Stands t (d * w) w d
band_row {d = d} f = record { there = λ j h. f.there d j (omega arith) h }

module _ {t₀ t : List ℕ} {w d : ℕ} (f : Filled t₀ w (d + 1)) (same : length t ≡ length t₀) (row : Stands t (d * w + w) w (suc d)) (kept : (m : ℕ) → m < d * w + w → get_or t m 0 ≡ get_or t₀ m 0) where
  both : (e j : ℕ) → j < w → (e ≡ d + 1) ⊎ (e < d + 1) → get_or t (e * w + j) 0 ≡ band e j
  both e j g (inl h) = let at : e ≡ suc d = omega arith in rw (at, suc-mul d w) (row.there j g)
  both e j g (inr h) = kept (e * w + j) (omega (arith, earlier w (d + 1) e j h g, suc-mul d w)) ∙ f.there e j h g

  pub row_more : d * w + w + w ≤ capacity → Filled t w (d + 1 + 1)
  row_more room = record { size = same ∙ f.size; room = omega (arith, room); there = λ e j h g. both e j g (here_or e (d + 1) (omega arith)) }

pub room : (d m w n : ℕ) → d + 1 < m → m * w ≤ n → d * w + w + w ≤ n
room d m w n h g = omega (arith, mul-le-mul h (le_refl w), suc-mul d w)

-- a list of ones is row 0; its length is a variable here, so that the list is not written out
pub row_of_ones : (m w : ℕ) → w ≤ m → Stands (replicate m 1) 0 w 0
row_of_ones m w size = record { there = λ j h. ap (λ (i : ℕ). get_or (replicate m 1) i 0) (zero-add j) ∙ get_or-replicate m j 1 0 (omega arith) ∙ sym (first-row j) }

-- a row that stands from the start on

pub row_of : {t : List ℕ} {w d : ℕ} → Stands t 0 w d → (k : ℕ) → k < w → get_or t k 0 ≡ band d k
row_of {t = t} row k h = ap (λ (i : ℕ). get_or t i 0) (sym (zero-add k)) ∙ row.there k h

pub row_again : {t : List ℕ} {w d : ℕ} → Stands t (d * 0 + 0) w (suc d) → Stands t 0 w (d + 1)
row_again {d = d} row =
    let start : d * 0 + 0 ≡ 0 = omega arith in
    let up : suc d ≡ d + 1 = omega arith in
    rw (start, up) at row
