-- How many partitions have a key of the last model, and how many an earlier one, by the edition; where a rank comes among the keys.
-- Assumes nothing.
use Rattle.std.specs.Prelude.{◌≡◌, ℕ, zero, suc, ◌+◌, ◌*◌, ◌≤◌, ◌<◌}
use Rattle.set_partitions.specs.KeyOrder.{Edition, one, two}

-- how many partitions have the key, out of those with the last model alone and those with it in a given block of the others
unfoldable pub having : ℕ → ℕ → ℕ → ℕ
having zero alone joined = alone
having (suc b) alone joined = joined

-- how many come before those, in k blocks
unfoldable pub earlier_by : Edition → ℕ → ℕ → ℕ → ℕ → ℕ
earlier_by one k zero alone joined = 0
earlier_by one k (suc b) alone joined = alone + b * joined
earlier_by two k zero alone joined = k * joined
earlier_by two k (suc b) alone joined = b * joined

-- the partition of a rank has the key, and is so far among those that have it
pub record Placed (e : Edition) (k rank alone joined key rest : ℕ) : Type 0 where
  pub upto : key ≤ k
  pub whole : earlier_by e k key alone joined + rest ≡ rank
  pub within : rest < having key alone joined
