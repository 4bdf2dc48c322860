-- The addition rule, tested once over the whole table, is carried to each entry.
-- Assumes nothing.
use mathlib.Core.Path.{◌≡◌, refl, ◌∙◌}
use mathlib.Core.Bool.{true}
use mathlib.Core.List.{List, [], ◌∷◌}
use Prim.Native.Nat.{ℕ}
use native.Mathlib.Omega.{arith}
use Rattle.numbers.specs.Numbers.{choose}
use Rattle.numbers.proofs.Binomials.{pascal_weighted}
use Rattle.numbers.proofs.Tables.{same, carried}
use Rattle.numbers.proofs.Weighted.{rows, computed_at}
use Rattle.pascal.specs.Inner.Triangle.{Triangle}

-- each number is what the addition rule makes of the row above it
pub ruled : (t : List ℕ) → same t (rows (λ k. 1) 68 (1 ∷ [])) ≡ true → Triangle t
ruled t tested =
    record {
      there = λ n k h b. carried t (rows (λ k. 1) 68 (1 ∷ [])) tested refl ∙ computed_at (λ k. 1) choose pascal_weighted 68 n k (omega arith) b;
    }
