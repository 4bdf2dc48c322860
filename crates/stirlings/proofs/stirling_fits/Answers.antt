-- `stirlings::stirling_fits` meets its contract: a stored row, 0 where there are more blocks than models, or by the last column of the row.
use Rattle.std.proofs.Common.{◌≡◌, ℕ, ◌≤◌, ◌<◌, ◌^◌, ltb, true, sym, lt-ltb, arith}
use native.Mathlib.Decide.{dec_lt}
use Rattle.numbers.specs.Numbers.{stirling_of}
use Rattle.numbers.proofs.Stirlings.{stirling_none}
use Rattle.stirling_rows.specs.Inner.Stored.{last_row}
use Rattle.stirlings.proofs.Limits.{small, below}
use Rattle.stirlings.proofs.stirling_fits.Goals.{then-n-le-LAST_ROW-via-then-n-le-LAST_ROW, then-n-le-LAST_ROW-via-else-n-le-LAST_ROW+then-n-k}
use Rattle.stirlings.proofs.stirling_fits.Goals as goal

none_fit : (n k : ℕ) → n < k → true ≡ ltb (stirling_of n k) (2 ^ 64)
none_fit n k h = sym (lt-ltb (stirling_of n k) (2 ^ 64) (omega (arith, stirling_none n k h)))

few_fit : (n k : ℕ) → n ≤ last_row → true ≡ ltb (stirling_of n k) (2 ^ 64)
few_fit n k h = elim (dec_lt n k) [ yes g ↦ none_fit n k g | no g ↦ sym (small n k h (omega arith)) ]

pub returns-then-n-le-LAST_ROW : goal.returns-then-n-le-LAST_ROW
returns-then-n-le-LAST_ROW c =
    elim c.then-n-le-LAST_ROW.branch [
      | then-n-le-LAST_ROW-via-then-n-le-LAST_ROW w ↦ few_fit c.args.n c.args.k w.if-n-le-LAST_ROW.true
      | then-n-le-LAST_ROW-via-else-n-le-LAST_ROW+then-n-k w ↦ none_fit c.args.n c.args.k w.if-n-k.true
    ]

pub returns : goal.returns
returns c = sym (below c.args.n c.args.k c.requires (omega arith)).fits
