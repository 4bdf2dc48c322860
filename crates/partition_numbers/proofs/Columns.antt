-- The counts of partitions column after column, each worked out from the one before it, and that a test of every number worked out so is one of
-- every count. Assumes nothing.
use mathlib.Core.Path.{◌≡◌, refl, sym, ◌∙◌, ap}
use mathlib.Core.Bool.{Bool, true, ◌&&◌, and-eq-true_iff}
use mathlib.Core.List.{List, [], ◌∷◌, ◌++◌, map}
use Prim.Native.Nat.{ℕ, zero, suc, ◌+◌, ◌-◌, ◌≤◌, ◌<◌}
use native.Mathlib.Nat.{add-zero}
use native.Mathlib.Omega.{arith}
use lib.ListN.{replicate}
use Rattle.basics.specs.Sums.{range}
use Rattle.numbers.specs.Numbers.{partitions_of}
use Rattle.numbers.proofs.PartitionLaws.{partitions_rule, partitions_none}

-- m numbers of column k, of the sums n, n + 1, ..
abbrev pub column : ℕ → ℕ → ℕ → List ℕ
column k n m = map (λ i. partitions_of i k) (range n m)

-- the next column: to each number comes the new one that stands as many places in front of it as there are parts; ds are those that come next
unfoldable pub grow : List ℕ → List ℕ → List ℕ
grow [] ds = []
grow (x ∷ xs) [] = []
grow (x ∷ xs) (d ∷ ds) = (x + d) ∷ grow xs (ds ++ ((x + d) ∷ []))

one_more : (f : ℕ → ℕ) (a m n : ℕ) → n ≡ a + m → map f (range a m) ++ (f n ∷ []) ≡ map f (range a (suc m))
unfolding range
one_more f a zero n e = ap (λ (i : ℕ). f i ∷ []) (e ∙ add-zero a)
one_more f a (suc m) n e = ap (λ (l : List ℕ). f a ∷ l) (one_more f (suc a) m n (omega arith))

rule : (k d n : ℕ) → n ≡ d + k → partitions_of n k + partitions_of d (suc k) ≡ partitions_of (suc n) (suc k)
rule k d n e =
    let back : n - k ≡ d = omega arith in
    sym (partitions_rule n k (omega arith) ∙ ap (λ (i : ℕ). partitions_of n k + partitions_of i (suc k)) back)

grown : (k d n m : ℕ) → n ≡ d + k → grow (column k n m) (column (suc k) d (suc k)) ≡ column (suc k) (suc n) m
unfolding grow range
grown k d n zero e = refl
grown k d n (suc m) e =
    rw (rule k d n e, one_more (λ i. partitions_of i (suc k)) (suc d) k (suc n) (omega arith), grown k (suc d) (suc n) m (omega arith))

zeros : (k d m : ℕ) → d + m ≤ k → column k d m ≡ replicate m 0
unfolding range
zeros k d zero h = refl
zeros k d (suc m) h = rw (partitions_none d k (omega arith), zeros k (suc d) m (omega arith))

next-column : (k m : ℕ) → grow (column k k m) (replicate (suc k) 0) ≡ column (suc k) (suc k) m
next-column k m = ap (grow (column k k m)) (sym (zeros (suc k) 0 (suc k) (omega arith))) ∙ grown k 0 k m (omega arith)

-- a test of the number at e of column k, which is the count of the partitions of e + k into k parts
module _ (right : ℕ → ℕ → ℕ → Bool) where
  -- does it hold of the numbers of a column, from the number at e on?
  unfoldable pub holds : ℕ → ℕ → List ℕ → Bool
  holds k e [] = true
  holds k e (c ∷ l) = right e k c && holds k (suc e) l

  -- and of m columns, from column k on?
  unfoldable pub tests : ℕ → ℕ → List ℕ → Bool
  tests zero k l = true
  tests (suc m) k l = holds k 0 l && tests m (suc k) (grow l (replicate (suc k) 0))

  in_column : (k e n w d i : ℕ) → holds k e (column k n w) ≡ true → d < w → n ≡ e + k → i ≡ e + d → right i k (partitions_of (i + k) k) ≡ true
  unfolding holds range
  in_column k e n zero d i h b at on = absurd (omega arith)
  in_column k e n (suc w) zero i h b at on =
      rw (on ∙ add-zero e, ← at) ((and-eq-true_iff (right e k (partitions_of n k)) (holds k (suc e) (column k (suc n) w))).0 h).0
  in_column k e n (suc w) (suc d) i h b at on =
      in_column k (suc e) (suc n) w d i ((and-eq-true_iff (right e k (partitions_of n k)) (holds k (suc e) (column k (suc n) w))).0 h).1 (omega arith) (omega arith) (omega arith)

  both : (m k w : ℕ) → tests (suc m) k (column k k w) ≡ true → (holds k 0 (column k k w) ≡ true) × (tests m (suc k) (column (suc k) (suc k) w) ≡ true)
  unfolding tests
  both m k w h = rw (next-column k w) at ((and-eq-true_iff (holds k 0 (column k k w)) (tests m (suc k) (grow (column k k w) (replicate (suc k) 0)))).0 h)

  -- m columns of w numbers: the number at e of the column j behind the first
  pub every : (m k w j e i : ℕ) → tests m k (column k k w) ≡ true → j < m → e < w → i ≡ k + j → right e i (partitions_of (e + i) i) ≡ true
  every zero k w j e i h a b on = absurd (omega arith)
  every (suc m) k w zero e i h a b on = rw (on ∙ add-zero k) (in_column k 0 k w e e (both m k w h).0 b (omega arith) (omega arith))
  every (suc m) k w (suc j) e i h a b on = every m (suc k) w j e i (both m k w h).1 (omega arith) b (omega arith)
