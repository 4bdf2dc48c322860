-- Sums of lists joined, and of the first and the last numbers of a list; a sum that is counted to a limit.
-- Assumes nothing.
use mathlib.Core.Path.{◌≡◌, refl, sym, ◌∙◌, ap}
use mathlib.Core.List.{List, [], ◌∷◌, ◌++◌}
use Prim.Native.Nat.{ℕ, zero, suc, ◌+◌, ◌≤◌, ◌<◌, min}
use native.Mathlib.Decide.{dec_le}
use native.Mathlib.Nat.{le_refl, min-eq_left, min-eq_right}
use native.Mathlib.Numerals.{add-one}
use native.Mathlib.Omega.{arith}
use lib.Dec.{leb}
use lib.ListN.{length, get_or, take, drop, take-append-drop, drop_of_length-le}
use lib.Seq.{drop-cons, take-suc}
use borrow.Author.Tests.{lt-leb}
use Rattle.std.specs.List.{sum}
use Rattle.std.proofs.lemmas.List.Recursion.{is_sum_by}
use Rattle.basics.specs.Sums.{total}

pub total-append : (x y : List ℕ) → total (x ++ y) ≡ total x + total y
unfolding total
total-append [] y = omega arith
total-append (a ∷ x) y = omega (arith, total-append x y)

pub total-snoc : (x : List ℕ) (a : ℕ) → total (x ++ (a ∷ [])) ≡ total x + a
unfolding total
total-snoc x a = omega (arith, total-append x (a ∷ []))

pub total_split : (x : List ℕ) (i : ℕ) → total x ≡ total (take i x) + total (drop i x)
total_split x i = ap total (sym (take-append-drop i x)) ∙ total-append (take i x) (drop i x)

pub total_take_more : (x : List ℕ) (i : ℕ) → i < length x → total (take (i + 1) x) ≡ total (take i x) + get_or x i 0
total_take_more x i h = rw add-one (ap total (take-suc x i 0 h) ∙ total-snoc (take i x) (get_or x i 0))

pub total-take-le : (x : List ℕ) (i : ℕ) → total (take i x) ≤ total x
total-take-le x i = omega (arith, total_split x i)

pub total-drop : (cs : List ℕ) (i : ℕ) → i < length cs → total (drop i cs) ≡ get_or cs i 0 + total (drop (i + 1) cs)
unfolding total
total-drop cs i h = rw (add-one, drop-cons cs i 0)

pub total_end : (cs : List ℕ) (i : ℕ) → length cs ≤ i → total (drop i cs) ≡ 0
unfolding total
total_end cs i h = rw drop_of_length-le

pub total-drop-le : (cs : List ℕ) (i : ℕ) → total (drop i cs) ≤ total cs
unfolding total
total-drop-le cs zero = le_refl _
total-drop-le [] (suc i) = le_refl 0
total-drop-le (c ∷ cs) (suc i) = omega (arith, total-drop-le cs i)

-- the library's sum
pub total_is_sum : (x : List ℕ) → total x ≡ sum x
unfolding total
total_is_sum = is_sum_by total (λ x. x) refl (λ x xs. refl)

-- a sum that is counted only to just above a limit is within the limit where the whole sum is
pub to_limit : (v m : ℕ) → leb (min v (suc m)) m ≡ leb v m
to_limit v m =
    elim (dec_le v m) [
      | yes h ↦ rw (min-eq_left {n = v} {m = suc m} (omega arith))
      | no h ↦ rw (min-eq_right {n = suc m} {m = v} (omega arith), lt-leb (suc m) m (omega arith), lt-leb v m (omega arith))
    ]
