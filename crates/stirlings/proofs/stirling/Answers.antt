-- `stirlings::stirling` meets its contract: a stored number, or the last number of the last row, and 0 where there are more blocks than models.
use Rattle.std.proofs.Common.{◌≡◌, ℕ, ◌+◌, ◌∙◌, suc, sym, refl, ap, inl, mul-zero, arith}
use Rattle.basics.specs.Limits.{places}
use Rattle.numbers.proofs.Stirlings.{stirling_none}
use Rattle.numbers.specs.Numbers.{stirling_of}
use Rattle.stirlings.proofs.Laws.{all_fit}
use Rattle.stirlings.proofs.Rows.{row_of_ones, row_of, row_again}
use Rattle.stirlings.proofs.stirling.Goals as goal

pub returns-then-n-k : goal.returns-then-n-k
returns-then-n-k c = sym (stirling_none c.args.n c.args.k c.if-n-k.true)

pub loop-d-init : goal.loop-d-init
loop-d-init c = row_of_ones (places + 1) (c.args.k + 1) (omega arith)

pub next_row-requires : goal.next_row-requires
next_row-requires c =
    record {
      apart = inl refl;
      room = omega arith;
      by_index = λ j h. all_fit c.args.n c.args.k (suc c.loop-d.d) j (omega arith) (omega arith) (omega arith) (omega arith) (omega arith);
      row = rw mul-zero c.loop-d.invariant;
    }

pub loop-d-preserved : goal.loop-d-preserved
loop-d-preserved c = row_again c.next_row.ensures.row

pub returns : goal.returns
returns c =
    let all : c.args.k + c.loop-d.d ≡ c.args.n = omega arith in
    row_of c.loop-d.invariant c.args.k (omega arith) ∙ ap (λ (i : ℕ). stirling_of i c.args.k) all
