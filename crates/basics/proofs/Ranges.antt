-- Laws of `sum_over` over any list, and of the members, the length and the parts of a `range`.
-- Assumes nothing.
use mathlib.Core.Path.{◌≡◌, refl, sym, ◌∙◌, ap}
use mathlib.Core.Logic.{◌⊎◌, inl, inr}
use mathlib.Core.List.Memᴰ
use mathlib.Core.List.{List, [], ◌∷◌, ◌++◌, map, Memᴰ}
use Prim.Native.Nat.{ℕ, zero, suc, ◌+◌, ◌*◌, ◌≤◌, ◌<◌}
use native.Mathlib.Nat.{add-zero, add-suc, suc-add, zero-add, eq-or-lt_of_le, mul-zero, mul-add}
use native.Mathlib.Numerals.{add-one}
use native.Mathlib.Omega.{arith}
use lib.ListN.{length, get_or, take}
use Rattle.basics.specs.Sums.{range, sum_over}

-- sums over a list

pub sum_over_cong : (l : List ℕ) {g h : ℕ → ℕ} → ((x : ℕ) → Memᴰ x l → g x ≡ h x) → sum_over l g ≡ sum_over l h
unfolding sum_over
sum_over_cong [] same = refl
sum_over_cong (x ∷ xs) same = rw (same x (Memᴰ.head refl), sum_over_cong xs (λ y m. same y (Memᴰ.tail m)))

pub sum_over-zero : (l : List ℕ) {g : ℕ → ℕ} → ((x : ℕ) → Memᴰ x l → g x ≡ 0) → sum_over l g ≡ 0
unfolding sum_over
sum_over-zero [] none = refl
sum_over-zero (x ∷ xs) none = omega (arith, none x (Memᴰ.head refl), sum_over-zero xs (λ y m. none y (Memᴰ.tail m)))

pub sum_over-append : (l m : List ℕ) (g : ℕ → ℕ) → sum_over (l ++ m) g ≡ sum_over l g + sum_over m g
unfolding sum_over
sum_over-append [] m g = omega arith
sum_over-append (x ∷ xs) m g = omega (arith, sum_over-append xs m g)

-- a constant factor
pub sum_over_times : (l : List ℕ) (c : ℕ) (g : ℕ → ℕ) → c * sum_over l g ≡ sum_over l (λ x. c * g x)
unfolding sum_over
sum_over_times [] c g = mul-zero c
sum_over_times (x ∷ xs) c g = rw (mul-add, sum_over_times xs c g)

pub sum_over-map : (f : ℕ → ℕ) (l : List ℕ) (g : ℕ → ℕ) → sum_over (map f l) g ≡ sum_over l (λ x. g (f x))
unfolding sum_over
sum_over-map f [] g = refl
sum_over-map f (x ∷ xs) g = rw (sum_over-map f xs g)

-- the term of a member is part of the sum
pub member_le : {x : ℕ} {l : List ℕ} (g : ℕ → ℕ) → Memᴰ x l → g x ≤ sum_over l g
unfolding sum_over
member_le g (Memᴰ.head e) = omega (arith, ap g e)
member_le g (Memᴰ.tail m) = omega (arith, member_le g m)

-- ranges

pub length-range : (a m : ℕ) → length (range a m) ≡ m
unfolding range
length-range a zero = refl
length-range a (suc m) = ap suc (length-range (suc a) m)

pub range-add : (a m n : ℕ) → range a (m + n) ≡ range a m ++ range (a + m) n
unfolding range
range-add a zero n = rw (zero-add, add-zero)
range-add a (suc m) n = rw (suc-add, add-suc, range-add (suc a) m n, suc-add)

pub range_snoc : (a m : ℕ) → range a (suc m) ≡ range a m ++ ((a + m) ∷ [])
unfolding range
range_snoc a m = ap (range a) (sym (add-one m)) ∙ range-add a m 1

pub take_range : (a m i : ℕ) → i ≤ m → take i (range a m) ≡ range a i
unfolding range
take_range a m zero h = refl
take_range a zero (suc i) h = absurd (omega arith)
take_range a (suc m) (suc i) h = ap (λ (l : List ℕ). a ∷ l) (take_range (suc a) m i (omega arith))

pub range-suc : (a m : ℕ) → range (suc a) m ≡ map suc (range a m)
unfolding range
range-suc a zero = refl
range-suc a (suc m) = rw (range-suc (suc a) m)

pub get_d_map_range : {A : Type 0} (g : ℕ → A) (a m i : ℕ) (d : A) → i < m → get_or (map g (range a m)) i d ≡ g (a + i)
unfolding range
get_d_map_range g a zero i d lt = absurd (omega arith)
get_d_map_range g a (suc m) zero d lt = rw add-zero
get_d_map_range g a (suc m) (suc i) d lt = rw (get_d_map_range g (suc a) m i d (omega arith), suc-add, add-suc)

-- a table of the values of g reads as g
pub get_d_table : {A : Type 0} (g : ℕ → A) (m i : ℕ) (d : A) → i < m → get_or (map g (range 0 m)) i d ≡ g i
get_d_table g m i d lt = get_d_map_range g 0 m i d lt ∙ ap g (zero-add i)

-- what it says of x that `range a m` has it
pub record Between (a m x : ℕ) : Type 0 where
  pub from : a ≤ x
  pub below : x < a + m

pub between : (a m : ℕ) {x : ℕ} → Memᴰ x (range a m) → Between a m x
unfolding range
between a zero mem = absurd (Memᴰ.not-nil mem)
between a (suc m) {x} mem = step (between (suc a) m) (Memᴰ.cases_cons mem)
  where
    step : (Memᴰ x (range (suc a) m) → Between (suc a) m x) → (x ≡ a) ⊎ Memᴰ x (range (suc a) m) → Between a (suc m) x
    step later (inl e) = omega arith
    step later (inr r) = omega (arith, later r)

pub in_range : (a m : ℕ) {x : ℕ} → a ≤ x → x < a + m → Memᴰ x (range a m)
unfolding range
in_range a zero from below = absurd (omega arith)
in_range a (suc m) {x} from below = step (in_range (suc a) m) (eq-or-lt_of_le from)
  where
    step : (suc a ≤ x → x < suc a + m → Memᴰ x (range (suc a) m)) → (a ≡ x) ⊎ (a < x) → Memᴰ x (a ∷ range (suc a) m)
    step later (inl e) = Memᴰ.head (sym e)
    step later (inr lt) = Memᴰ.tail (later lt (omega arith))

-- sums over a range

pub sum_over-range-suc : (a m : ℕ) (g : ℕ → ℕ) → sum_over (range (suc a) m) g ≡ sum_over (range a m) (λ i. g (suc i))
sum_over-range-suc a m g = rw (range-suc, sum_over-map)

-- terms that are 0 at the end of the range may be left out
pub sum_over-range-cut : (a m n : ℕ) {g : ℕ → ℕ} → ((x : ℕ) → a + m ≤ x → x < a + m + n → g x ≡ 0) → sum_over (range a (m + n)) g ≡ sum_over (range a m) g
sum_over-range-cut a m n {g} none = rw (range-add, sum_over-append, sum_over-zero (range (a + m) n) gone, add-zero)
  where
    gone : (x : ℕ) → Memᴰ x (range (a + m) n) → g x ≡ 0
    gone x mem = let b : Between (a + m) n x = between (a + m) n mem in none x b.from b.below
