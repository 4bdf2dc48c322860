-- How many derangements of n places have a key, how many a smaller one, and where a rank comes among the keys. There are `longer` derangements of n - 1
-- places, left with each key below n, and `shorter` of n - 2, left with each key from n on.
-- Assumes nothing.
use Rattle.std.specs.Prelude.{◌≡◌, cond, ℕ, ◌+◌, ◌-◌, ◌*◌, ◌≤◌, ◌<◌, ltb}

unfoldable pub having : ℕ → ℕ → ℕ → ℕ → ℕ
having n key longer shorter = cond (ltb key n) longer shorter

unfoldable pub earlier_by : ℕ → ℕ → ℕ → ℕ → ℕ
earlier_by n key longer shorter = cond (ltb key n) ((key - 1) * longer) ((n - 1) * longer + (key - n) * shorter)

-- the derangement of a rank has the key, and is so far among those that have it
pub record Placed (n rank longer shorter key rest : ℕ) : Type 0 where
  pub from : 1 ≤ key
  pub upto : key ≤ 2 * (n - 1)
  pub whole : earlier_by n key longer shorter + rest ≡ rank
  pub within : rest < having n key longer shorter
