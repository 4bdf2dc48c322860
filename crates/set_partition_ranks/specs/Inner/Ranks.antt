-- What the ranks' functions say to each other: the keys and the numbers that they read, and what has been written.
-- Assumes nothing.
use Rattle.std.specs.Prelude.{◌≡◌, true, ℕ, ◌-◌, length, take, drop}
use Rattle.numbers.specs.Numbers.{stirling_of}
use Rattle.listings.specs.Bytes.{Bytes}
use Rattle.listings.specs.Places.{At}
use Rattle.set_partitions.specs.declared.edition.Edition.{Edition}
use Rattle.set_partitions.specs.Objects.{is_set_partition, keys}
use Rattle.set_partitions.specs.Listing.{set_partitions}

-- of n models in k blocks, so many partitions have the last one alone, and so many have it in a given block of the others
abbrev pub Numbers : ℕ → ℕ → ℕ → ℕ → Type 0
Numbers n k alone joined = (alone ≡ stirling_of (n - 1) (k - 1)) × (joined ≡ stirling_of (n - 1) k)

-- the partition of a rank has been written to the first n places, and to no other
pub record Written (e : Edition) (rank n k : ℕ) (from to : Bytes) : Type 0 where
  pub there : At (set_partitions e n k) (take n to) rank
  pub size : length to ≡ length from
  pub kept : drop n to ≡ drop n from

-- ks are the keys of a partition of n models into k blocks
pub record KeysOf (n k : ℕ) (ks : Bytes) : Type 0 where
  pub object : Bytes
  pub parted : is_set_partition n k object ≡ true
  pub same : ks ≡ keys 0 object
