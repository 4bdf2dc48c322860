-- The first place at which two lists differ, by definition and as the code says it: what the loop of a check finds.
-- Assumes nothing.
use Rattle.std.specs.Prelude.{cond, List, [], ◌∷◌, ℕ, suc, Some, None}
use Rattle.std.specs.Prelude.{Option as Found}
use Rattle.std.proofs.Math.Option.{Option, none, some, map}
use Rattle.listings.specs.Bytes.{Bytes, same}

-- the smallest place that is wrong: here, or one place behind where the rest of both lists has it
unfoldable pub first_wrong : List Bytes → List Bytes → Option ℕ
first_wrong [] [] = none
first_wrong [] (e ∷ es) = some 0
first_wrong (x ∷ l) [] = some 0
first_wrong (x ∷ l) (e ∷ es) = cond (same e x) (map suc (first_wrong l es)) (some 0)

-- none, or a place
abbrev pub difference_as : Found ℕ → Option ℕ
difference_as None = none
difference_as (Some p) = some p
