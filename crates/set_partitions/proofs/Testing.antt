-- The test of a set partition, read from the front: what the next model says.
-- Assumes nothing.
use mathlib.Core.Path.{◌≡◌}
use mathlib.Core.Bool.{false}
use mathlib.Core.List.{◌∷◌}
use Prim.Native.Nat.{ℕ, suc, ◌≤◌, ◌<◌, max}
use lib.Dec.{eqb}
use lib.ListN.{length, drop, get_or, drop_of_length-le}
use lib.Seq.{drop-cons}
use borrow.Author.Tests.{eq-eqb, ne_eqb, le-leb}
use Rattle.listings.specs.Bytes.{Bytes}
use Rattle.basics.proofs.Bools.{fails}
use Rattle.set_partitions.specs.Objects.{opens, is_set_partition}
use Rattle.set_partitions.proofs.Facts.{opens-cases}

pub wrong_length : (n k : ℕ) (x : Bytes) → (length x ≡ n → ⊥) → is_set_partition n k x ≡ false
unfolding is_set_partition
wrong_length n k x h = rw (ne_eqb (length x) n h)

pub right_length : (n k : ℕ) (x : Bytes) → length x ≡ n → is_set_partition n k x ≡ opens 0 k x
unfolding is_set_partition
right_length n k x h = rw (eq-eqb (length x) n h)

-- the model at place i, with u blocks used before it

module _ (k u i : ℕ) (x : Bytes) where
  pub block_wrong : i < length x → (1 ≤ get_or x i 0 → get_or x i 0 ≤ suc u → ⊥) → opens u k (drop i x) ≡ false
  block_wrong h wrong = rw (drop-cons x i 0 h) (fails (opens u k (get_or x i 0 ∷ drop (suc i) x)) (λ o. let f = opens-cases u k (get_or x i 0) (drop (suc i) x) o in wrong f.from f.upto))

  pub block_read : i < length x → 1 ≤ get_or x i 0 → get_or x i 0 ≤ suc u → opens u k (drop i x) ≡ opens (max u (get_or x i 0)) k (drop (suc i) x)
  unfolding opens
  block_read h from upto = rw (drop-cons x i 0 h, le-leb 1 (get_or x i 0) from, le-leb (get_or x i 0) (suc u) upto)

  pub all_read : length x ≤ i → opens u k (drop i x) ≡ eqb u k
  unfolding opens
  all_read h = rw (drop_of_length-le x {i = i} h)

-- all of them, for the test
pub ruleset test_steps = (wrong_length, right_length, block_wrong, block_read, all_read)
