-- Questions 5 and 8 as the code puts them, for a rank and a count that is worked out once.
-- Assumes nothing.
use Rattle.std.specs.Prelude.{Bool, ℕ, ◌^◌, cond, ltb, Result, Ok, Err}
use Rattle.families.specs.declared.refusal.Refusal.{Refusal}

-- is the rank below a count that is below 2^64? (SCOPE 4.5, 4.8)
abbrev pub below_count : ℕ → ℕ → Result Bool Refusal
below_count r count = cond (ltb count (2 ^ 64)) (Ok (ltb r count)) (Err Refusal.TooMany)
