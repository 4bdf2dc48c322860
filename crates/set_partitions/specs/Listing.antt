-- The listing (SCOPE 5.1) of set partitions, after Loehr: by the key of the last model, over the list of the keys in their order.
-- Assumes nothing.
use Rattle.std.specs.Prelude.{List, [], ◌∷◌, ◌++◌, ℕ, zero, suc}
use Rattle.listings.specs.Bytes.{Bytes}
use Rattle.listings.specs.Choices.{by_choice}
use Rattle.set_partitions.specs.KeyOrder.{Edition, keys_in_order}

-- what the key of the last model says, of a partition into k + 1 blocks. Key 0: it is alone in block k + 1, behind a partition of the others into k;
-- key b: it is in block b of a partition into k + 1

-- the number of the others' blocks
unfoldable pub others_in : ℕ → ℕ → ℕ
others_in k zero = k
others_in k (suc b) = suc k

-- the block of the last model
unfoldable pub block_of : ℕ → ℕ → ℕ
block_of k zero = suc k
block_of k (suc b) = suc b

-- n models in k blocks, in the order by the keys (SCOPE 1.4, 2.4)
unfoldable pub set_partitions : Edition → ℕ → ℕ → List Bytes
set_partitions e zero zero = [] ∷ []
set_partitions e zero (suc k) = []
set_partitions e (suc n) zero = []
set_partitions e (suc n) (suc k) = by_choice (keys_in_order e (suc k)) (λ c. set_partitions e n (others_in k c)) (λ c x. x ++ (block_of k c ∷ []))
