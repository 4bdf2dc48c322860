-- A derangement of n places taken apart: how many places are left with a key, and which keys there are.
-- Assumes nothing.
use Rattle.std.specs.Prelude.{◌≡◌, true, cond, ℕ, ◌-◌, ◌*◌, ◌≤◌, ltb, eqb, take}
use Rattle.listings.specs.Bytes.{Bytes}
use Rattle.derangements.specs.Objects.{is_derangement}
use Rattle.derangements.specs.Listing.{join}

-- below n the key is c, and n alone is taken out; from n on c is, too
unfoldable pub left_of : ℕ → ℕ → ℕ
left_of n key = cond (ltb key n) (n - 1) (n - 2)

-- of one place there is no derangement, so no key leaves one place: of two places there is key 2 alone, of three there are 1 and 2

unfoldable pub low_key : ℕ → ℕ
low_key n = cond (eqb n 2) 2 1

unfoldable pub high_key : ℕ → ℕ
high_key n = cond (eqb n 3) 2 (2 * (n - 1))

-- a key of n places, and in front the derangement left with it
pub record Keyed (n key : ℕ) (z : Bytes) : Type 0 where
  pub from : 1 ≤ key
  pub upto : key ≤ 2 * (n - 1)
  pub object : is_derangement (left_of n key) (take (left_of n key) z) ≡ true

-- they make x
pub record TakenApart (n : ℕ) (x : Bytes) (key : ℕ) (z : Bytes) : Type 0 where
  pub keyed : Keyed n key z
  pub whole : join n key (take (left_of n key) z) ≡ x
