-- `binomials::coefficient_fits` meets its contract: the number is 0, its row fits whole, or the last column that fits decides.
use Rattle.std.proofs.Common.{ℕ, ◌^◌, nat_lt, sym, ap, arith}
use Rattle.numbers.proofs.Binomials.{choose-none}
use Rattle.binomials.proofs.Columns.{early, on_the_left, on_the_right}
use Rattle.binomials.proofs.coefficient_fits.Goals.{then-n-k-via-then-n-k, then-n-k-via-else-n-k+then-n-lt-FIRST_SHORT_ROW}
use Rattle.binomials.proofs.coefficient_fits.Goals as goal

pub returns-then-n-k : goal.returns-then-n-k
returns-then-n-k c =
    elim c.then-n-k.branch [
      | then-n-k-via-then-n-k w ↦ ap (λ (v : ℕ). nat_lt v (2 ^ 64)) (sym (choose-none c.args.n c.args.k w.if-n-k.true))
      | then-n-k-via-else-n-k+then-n-lt-FIRST_SHORT_ROW w ↦ early c.args.n c.args.k c.requires (omega arith) w.if-n-lt-FIRST_SHORT_ROW.true
    ]

pub returns-then-k-last : goal.returns-then-k-last
returns-then-k-last c = on_the_left c.args.n c.args.k c.requires (omega arith) (omega arith) c.last_column-last.ensures c.if-k-last.true

pub returns-else-k-last : goal.returns-else-k-last
returns-else-k-last c = on_the_right c.args.n c.args.k c.requires (omega arith) (omega arith) c.last_column-last.ensures (omega arith)
