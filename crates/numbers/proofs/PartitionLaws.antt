-- The counts of partitions: taking one off each part, the rule by the last part, and what grows and vanishes.
-- Assumes nothing.
use mathlib.Core.Path.{◌≡◌, refl, sym, ◌∙◌, ap, ap₂}
use mathlib.Core.List.{Memᴰ}
use Prim.Native.Nat.{ℕ, zero, suc, ◌+◌, ◌-◌, ◌*◌, ◌≤◌, ◌<◌}
use native.Mathlib.Nat.{add-zero, mul-zero, mul-suc, suc-mul, mul-one, sub_self, sub-zero, mul-le-mul_left}
use native.Mathlib.Decide.{dec_le, le_ind}
use native.Mathlib.Omega.{arith}
use Rattle.basics.specs.Sums.{range, sum_over}
use Rattle.numbers.specs.Numbers.{parts_from, partitions_of}
use Rattle.basics.proofs.Ranges.{Between, between, in_range, member_le, sum_over_cong, sum_over-zero, sum_over-range-suc, sum_over-range-cut}

pub by_last_part : (f n k : ℕ) → parts_from f n (suc k) ≡ sum_over (range f (suc n - f)) (λ p. parts_from p (n - p) k)
unfolding parts_from
by_last_part f n k = refl

-- the floor says nothing where there are no parts
any_floor : (f g n : ℕ) → parts_from f n 0 ≡ parts_from g n 0
unfolding parts_from
any_floor f g zero = refl
any_floor f g (suc n) = refl

pub nothing : (f : ℕ) → parts_from f 0 0 ≡ 1
unfolding parts_from
nothing f = refl

-- the last part lies between the floor and the sum
last_part : (f n p : ℕ) → Memᴰ p (range f (suc n - f)) → (f ≤ p) × (p ≤ n)
last_part f n p mem = let b : Between f (suc n - f) p = between f (suc n - f) mem in omega arith

pub too_few : (f n k : ℕ) → n < k * f → parts_from f n k ≡ 0
too_few f n zero lt = absurd (omega arith)
too_few f n (suc k) lt =
    rw by_last_part
    (sum_over-zero (range f (suc n - f)) λ p mem.
    let b : (f ≤ p) × (p ≤ n) = last_part f n p mem in
    too_few p (n - p) k (omega (arith, suc-mul k f, mul-le-mul_left k b.0)))

-- parts at least f + 1: take one off each part
pub shift : (f n k : ℕ) → parts_from (suc f) (n + k) k ≡ parts_from f n k
shift f n zero = rw add-zero (any_floor (suc f) f n)
shift f n (suc k) =
    let rest : ℕ = suc (n + k) - f - (suc n - f) in
    let size : suc (n + suc k) - suc f ≡ suc n - f + rest = omega arith in
    rw (
      by_last_part (suc f) (n + suc k) k,
      by_last_part f n k,
      size,
      sum_over-range-suc,
      sum_over-range-cut f (suc n - f) rest λ p from below. too_few (suc p) (n + suc k - suc p) k (omega (arith, mul-suc k p)),
    )
    (sum_over_cong (range f (suc n - f)) λ p mem. ap (λ i. parts_from (suc p) i k) (omega (arith, last_part f n p mem)) ∙ shift p (n - p) k)

-- parts at least f + 1: take f off each part
pub floor_shift : (f n k : ℕ) → k * f ≤ n → parts_from (suc f) n k ≡ partitions_of (n - k * f) k
unfolding partitions_of
floor_shift zero n k le = rw (mul-zero, sub-zero)
floor_shift (suc f) n k le =
    let room : k + k * f ≤ n = omega (arith, mul-suc k f) in
    let back : n - k + k ≡ n = omega arith in
    let left : n - k - k * f ≡ n - k * suc f = omega (arith, mul-suc k f) in
    rw (back, left) at (shift (suc f) (n - k) k ∙ floor_shift f (n - k) k (omega arith))

pub next_floor : (f n k : ℕ) → f ≤ n → parts_from f n (suc k) ≡ parts_from f (n - f) k + parts_from (suc f) n (suc k)
unfolding range sum_over
next_floor f n k le =
    let size : suc n - f ≡ suc (suc n - suc f) = omega arith in
    rw (by_last_part, by_last_part (suc f) n k, size)

pub last_part_le : (f n k p : ℕ) → f ≤ p → p ≤ n → parts_from p (n - p) k ≤ parts_from f n (suc k)
last_part_le f n k p from below = rw by_last_part (member_le (λ q. parts_from q (n - q) k) (in_range f (suc n - f) from (omega arith)))

pub floor_le : (f n k : ℕ) → parts_from (suc f) n k ≤ parts_from f n k
floor_le f n zero = omega (arith, any_floor (suc f) f n)
floor_le f n (suc k) =
    elim (dec_le f n) [
      | yes le ↦ omega (arith, next_floor f n k le)
      | no gt ↦ omega (arith, too_few (suc f) n (suc k) (omega (arith, suc-mul k (suc f))))
    ]

pub floor_mono : (n k : ℕ) {f g : ℕ} → f ≤ g → parts_from g n k ≤ parts_from f n k
floor_mono n k {f} {g} le = le_ind (λ m. parts_from m n k ≤ parts_from f n k) (omega arith) (λ m h r. omega (arith, floor_le m n k)) g le

pub partitions_rule : (n k : ℕ) → k ≤ n → partitions_of (suc n) (suc k) ≡ partitions_of n k + partitions_of (n - k) (suc k)
unfolding partitions_of
partitions_rule n k le =
    let back : n - k + suc k ≡ suc n = omega arith in
    let off : suc n - 1 ≡ n = omega arith in
    rw (next_floor 1 (suc n) k (omega arith), off, rw back at (shift 1 (n - k) (suc k)))

pub partitions_none : (n k : ℕ) → n < k → partitions_of n k ≡ 0
unfolding partitions_of
partitions_none n k lt = too_few 1 n k (rw mul-one lt)

pub partitions_corner : partitions_of 0 0 ≡ 1
unfolding partitions_of
partitions_corner = nothing 1

pub no_parts : (f n : ℕ) → 0 < n → parts_from f n 0 ≡ 0
unfolding parts_from
no_parts f zero pos = absurd (omega arith)
no_parts f (suc n) pos = refl

pub partitions_zero : (n : ℕ) → 0 < n → partitions_of n 0 ≡ 0
unfolding partitions_of
partitions_zero n pos = no_parts 1 n pos

pub parts_positive : (f n k : ℕ) → 0 < k → k * f ≤ n → 1 ≤ parts_from f n k
parts_positive f n zero pos le = absurd (omega arith)
parts_positive f n (suc zero) pos le = omega (arith, nothing n, rw sub_self at (last_part_le f n 0 n (omega arith) (omega arith)))
parts_positive f n (suc (suc k)) pos le =
    let more : suc (suc k) * f ≡ suc k * f + f = suc-mul (suc k) f in
    omega (arith, parts_positive f (n - f) (suc k) (omega arith) (omega arith), last_part_le f n (suc k) f (omega arith) (omega arith))

-- with at least as many parts as are left when each has given one, it makes no difference how many there are

more_parts : (m d : ℕ) → partitions_of (m + (m + d)) (m + d) ≡ partitions_of (m + m) m
more_parts m zero = rw add-zero
more_parts m (suc d) =
    let up : m + (m + suc d) ≡ suc (m + (m + d)) = omega arith in
    let k : m + suc d ≡ suc (m + d) = omega arith in
    let left : m + (m + d) - (m + d) ≡ m = omega arith in
    ap₂ partitions_of up k
    ∙ partitions_rule (m + (m + d)) (m + d) (omega arith)
    ∙ ap (λ i. partitions_of (m + (m + d)) (m + d) + partitions_of i (suc (m + d))) left
    ∙ omega (arith, partitions_none m (suc (m + d)) (omega arith), more_parts m d)

pub many_parts : (n k : ℕ) → k ≤ n → n ≤ 2 * k → partitions_of (2 * (n - k)) (n - k) ≡ partitions_of n k
many_parts n k h b =
    let m = n - k in
    let d = k - m in
    let twice : 2 * m ≡ m + m = omega arith in
    let whole : m + (m + d) ≡ n = omega arith in
    let here : m + d ≡ k = omega arith in
    ap (λ i. partitions_of i m) twice ∙ sym (more_parts m d) ∙ ap₂ partitions_of whole here
