-- What a count's answer says: exactly a number below 2^64 (SCOPE 6), or that it is too large, or that paper 01 doesn't speak of the arguments.
-- Assumes nothing.
use Rattle.std.specs.Prelude.{ℕ, ◌^◌, cond, ltb, Result, Ok, Err}
use Rattle.counting.specs.declared.CountError.{CountError}
use Rattle.counting.specs.declared.CountError.TheVariants.{TooLarge}

-- question 5, "is the count below 2^64?" (SCOPE 4.5): the count itself, or too large
unfoldable pub fits : ℕ → Result ℕ CountError
fits v = cond (ltb v (2 ^ 64)) (Ok v) (Err TooLarge)

-- the same as a plain number: the count itself where it is below 2^64, else 0
unfoldable pub if_fits : ℕ → ℕ
if_fits v = cond (ltb v (2 ^ 64)) v 0
