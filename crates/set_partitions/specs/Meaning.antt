-- Kind 4 by membership and places: what a set partition is (SCOPE 1.4), and which models have key 0 (SCOPE 2.4).
-- That the definitions of Objects say this: proofs/Meaning.antt.
-- Assumes nothing.
use Rattle.std.specs.Prelude.{◌≡◌, ℕ, ◌≤◌, ◌<◌, length}
use mathlib.Core.List.{Memᴰ}
use Rattle.listings.specs.Bytes.{Bytes}
use Rattle.listings.specs.Places.{At}

-- "byte i is the block of model i" (SCOPE 1.4), with places counted from 0: the model at place i is "the smallest of its block" (SCOPE 2.4), b, so none
-- before it is in b
pub record Smallest (x : Bytes) (i b : ℕ) : Type 0 where
  pub here : At x b i
  pub first : (j : ℕ) → j < i → At x b j → ⊥

-- "else" (SCOPE 2.4): the model at place i is in block b, and so is one before it
pub record Later (x : Bytes) (i b : ℕ) : Type 0 where
  pub here : At x b i
  pub earlier : ℕ
  pub before : earlier < i
  pub there : At x b earlier

-- n models into k blocks (SCOPE 1.4)
pub record SetPartition (n k : ℕ) (x : Bytes) : Type 0 where
  -- a byte a model
  pub models : length x ≡ n
  -- "blocks are 1 to k"
  pub blocks : (b : ℕ) → Memᴰ b x → (1 ≤ b) × (b ≤ k)
  -- "all used"
  pub used : (b : ℕ) → 1 ≤ b → b ≤ k → Memᴰ b x
  -- "numbered by their smallest model": of two blocks, the one with the lower number has the earlier smallest model
  pub numbered : (b c i j : ℕ) → b < c → Smallest x i b → Smallest x j c → i < j
