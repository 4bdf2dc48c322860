-- The largest n and k of a kind's row, by the kind's number: "n branches, 0 to 40" of kind 6, and k only of kinds 1, 4 and 5 (SCOPE 1.1 to 1.7).
-- Assumes nothing.
use Rattle.std.specs.Prelude.{cond, ◌||◌, ℕ, eqb}
use Rattle.basics.specs.Limits.{places, branches}

abbrev pub most_n : ℕ → ℕ
most_n kind = cond (eqb kind 6) branches places

abbrev pub most_k : ℕ → ℕ
most_k kind = cond (eqb kind 1 || eqb kind 4 || eqb kind 5) places 0
