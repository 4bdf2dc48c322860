-- Kind 6, Dyck words ("branch plan"): the test of being one with n of each (SCOPE 1.6).
-- Assumes nothing.
use Rattle.std.specs.Prelude.{Bool, false, ◌&&◌, [], ◌∷◌, ℕ, zero, suc, ◌*◌, eqb, length}
use Rattle.listings.specs.Bytes.{Bytes}

-- from the height h, which is the 1s so far less the 0s, no step leads below 0 and the last leads to 0
unfoldable pub balanced_from : ℕ → Bytes → Bool
balanced_from h [] = eqb h 0
balanced_from zero (zero ∷ x) = false
balanced_from (suc h) (zero ∷ x) = balanced_from h x
balanced_from h (suc zero ∷ x) = balanced_from (suc h) x
balanced_from h (suc (suc b) ∷ x) = false

-- "2n bytes 1 .. and 0 .., as many of each, no prefix with more 0 than 1" (SCOPE 1.6)
unfoldable pub is_dyck_word : ℕ → Bytes → Bool
is_dyck_word n x = eqb (length x) (2 * n) && balanced_from 0 x
