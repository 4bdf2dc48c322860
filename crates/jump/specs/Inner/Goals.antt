-- A rank that a jump aims at, as the code says it.
-- Assumes nothing.
use Rattle.std.proofs.Math.Option.{Option, none, some}
use Rattle.std.specs.Prelude.{ℕ, Some, None}
use Rattle.std.specs.Prelude.{Option as Found}

-- a rank, or none
abbrev pub goal_as : Found ℕ → Option ℕ
goal_as (Some p) = some p
goal_as None = none
