-- What the search behind a step looks for, the first model whose key can move, and where the key goes.
-- Assumes nothing.
use Rattle.std.specs.Prelude.{◌≡◌, Bool, true, false, cond, not, ◌&&◌, ℕ, zero, suc, ◌+◌, ◌-◌, ◌<◌, max, ltb, eqb, length, get_or, Option, None, Some}
use Rattle.listings.specs.Bytes.{Bytes}
use Rattle.set_partitions.specs.declared.stepping.Spot.{Spot}
use Rattle.set_partitions.specs.KeyOrder.{Edition, one, two}

-- at the end of the listing, or, going back, at its beginning, all are in block 1 but the last models, which open the others, 1, .., 1, 2, .., k; else
-- the first models open all blocks, 1, 2, .., k, and the others are all in one
unfoldable pub opens_late : Edition → Bool → Bool
opens_late one up = not up
opens_late two up = up

-- that one, out of u blocks
abbrev pub rest_block : Bool → ℕ → ℕ
rest_block up u = cond up u 1

-- i models in front stand so, in the blocks 1 to u; the next one is in block b. Can its key go on, or, going back, back? From a new block, where blocks don't
-- open late and those in front can fill one block more. From another: where blocks open late, if those in front can do with one block less; else if
-- it isn't the last to go to
unfoldable pub moves : Bool → Bool → ℕ → ℕ → ℕ → Bool
moves late up i u b = cond (ltb u b) (not late && ltb u i) (cond late (ltb 1 u) (not (eqb b (rest_block up u))))

-- the key beside c, of k blocks: in both editions the keys come in one ring, 0, 1, .., k and 0 again
abbrev pub key_beside : Bool → ℕ → ℕ → ℕ
key_beside up k c = cond up (cond (eqb c k) 0 (c + 1)) (cond (eqb c 0) k (c - 1))

-- the key that the model in block b goes to
abbrev pub key_to : Bool → ℕ → ℕ → ℕ
key_to up u b = key_beside up (max u b) (cond (ltb u b) 0 b)

-- the highest block of the first i models, or 0
unfoldable pub used_before : Bytes → ℕ → ℕ
used_before x zero = 0
used_before x (suc i) = max (used_before x i) (get_or x i 0)

abbrev pub moves_at : Bool → Bool → Bytes → ℕ → Bool
moves_at late up x i = moves late up i (used_before x i) (get_or x i 0)

-- r is the first place at which a key can move, and in front of it the blocks 1 to u are used
pub record FirstMove (late up : Bool) (x : Bytes) (r u : ℕ) : Type 0 where
  pub inside : r < length x
  pub passed : (i : ℕ) → i < r → moves_at late up x i ≡ false
  pub found : moves_at late up x r ≡ true
  pub used : u ≡ used_before x r

-- what a search for it says
abbrev pub Searched : Bool → Bool → Bytes → Option Spot → Type 0
Searched late up x None = (i : ℕ) → i < length x → moves_at late up x i ≡ false
Searched late up x (Some s) = FirstMove late up x s.place s.used
