-- The number at e of a column, the count of the partitions of e + j into j parts: which columns have the same, and the rule by which an odd column
-- comes from the next. Assumes nothing.
use mathlib.Core.Path.{◌≡◌, sym, ◌∙◌, ap, ap₂}
use Prim.Native.Nat.{ℕ, suc, ◌+◌, ◌*◌, ◌-◌, ◌≤◌, ◌<◌}
use native.Mathlib.Numerals.{add-one}
use native.Mathlib.Omega.{arith}
use Rattle.numbers.specs.Numbers.{partitions_of}
use Rattle.numbers.proofs.PartitionLaws.{partitions_rule, partitions_none, many_parts}

fewest : (e j : ℕ) → e ≤ j → partitions_of (2 * e) e ≡ partitions_of (e + j) j
fewest e j h =
    let back : e + j - j ≡ e = omega arith in
    ap (λ (i : ℕ). partitions_of (2 * i) i) (sym back) ∙ many_parts (e + j) j (omega arith) (omega arith)

pub same_number : (e i j : ℕ) → e ≤ i → e ≤ j → partitions_of (e + i) i ≡ partitions_of (e + j) j
same_number e i j h g = sym (fewest e i h) ∙ fewest e j g

next-column : (n k : ℕ) → k ≤ n → partitions_of (n - k + (k + 1)) (k + 1) ≡ partitions_of n k + partitions_of (n - k) (k + 1)
next-column n k h =
    let up : n - k + (k + 1) ≡ suc n = omega arith in
    ap₂ partitions_of up (add-one k) ∙ partitions_rule n k h ∙ ap (λ (j : ℕ). partitions_of n k + partitions_of (n - k) j) (sym (add-one k))

module _ (n k : ℕ) (h : k ≤ n) where
  pub one_read : n - k < k + 1 → partitions_of (n - k + (k + 1)) (k + 1) ≡ partitions_of n k
  one_read l = omega (arith, next-column n k h, partitions_none (n - k) (k + 1) l)

  pub two_reads : k + 1 ≤ n - k → partitions_of (n - k + (k + 1)) (k + 1) ≡ partitions_of n k + partitions_of (n - k - (k + 1) + (k + 1)) (k + 1)
  two_reads l =
      let back : n - k - (k + 1) + (k + 1) ≡ n - k = omega arith in
      rw back (next-column n k h)
