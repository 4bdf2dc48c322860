-- Kind 4, set partitions ("flask sharing"): the test of being one of n models into k blocks, the keys, and the order (SCOPE 1.4, 2.4).
-- Meaning says the test and the keys by membership and places; the theorems named below, of proofs/Meaning.antt, show that it is the same.
-- Assumes nothing.
use Rattle.std.specs.Prelude.{Bool, cond, ◌&&◌, [], ◌∷◌, ℕ, suc, max, leb, ltb, eqb, length}
use Rattle.listings.specs.Bytes.{Bytes}
use Rattle.listings.specs.Orders.{colex_by}
use Rattle.set_partitions.specs.KeyOrder.{Edition, key_before}

-- with the blocks 1 to m used so far, the next model is in one of them or is the smallest of block m + 1; at the end all k are used (SCOPE 1.c;
-- `means`, `meant`)
unfoldable pub opens : ℕ → ℕ → Bytes → Bool
opens m k [] = eqb m k
opens m k (b ∷ x) = leb 1 b && leb b (suc m) && opens (max m b) k x

-- "byte i is the block of model i; blocks are 1 to k, all used, numbered by their smallest model" (SCOPE 1.4): `SetPartition` of Meaning, by `means`
-- and `meant`
unfoldable pub is_set_partition : ℕ → ℕ → Bytes → Bool
is_set_partition n k x = eqb (length x) n && opens 0 k x

-- "model i has key 0 if it is the smallest of its block, else its block number" (SCOPE 2.4; `key_of_smallest`, `key_of_other`;
-- each model is one of the two, `smallest_or_later`), with the blocks 1 to m used so far: a block above them is a new one
unfoldable pub keys : ℕ → Bytes → Bytes
keys m [] = []
keys m (b ∷ x) = cond (ltb m b) 0 b ∷ keys (max m b) x

-- "At the largest i whose keys differ" (SCOPE 2.4), the key that the edition puts first
unfoldable pub set_partition_before : Edition → Bytes → Bytes → Bool
set_partition_before e x y = colex_by (key_before e) (keys 0 x) (keys 0 y)
