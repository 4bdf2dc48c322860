-- `stirlings::fill` meets its contract: the band has room for a row more, and its numbers fit.
use Rattle.std.proofs.Common.{◌+◌, ◌-◌, ◌*◌, ◌≤◌, suc, inr, arith}
use Rattle.stirlings.specs.Inner.Band.{capacity}
use Rattle.stirlings.proofs.Laws.{all_fit}
use Rattle.stirlings.proofs.Limits.{below}
use Rattle.stirlings.proofs.Rows.{room, band_row, row_more}
use Rattle.stirlings.proofs.fill.Goals as goal

pub next_row-requires : goal.next_row-requires
next_row-requires c =
    let all : (c.args.n - c.args.k + 1) * (c.args.k + 1) ≤ capacity = (below c.args.n c.args.k (omega arith) (omega arith)).room (omega arith) in
    record {
      apart = inr (omega arith);
      room = omega (arith, room c.loop-d.d (c.args.n - c.args.k + 1) (c.args.k + 1) capacity (omega arith) all);
      by_index = λ j h. all_fit c.args.n c.args.k (suc c.loop-d.d) j (omega arith) (omega arith) (omega arith) (omega arith) (omega arith);
      row = band_row c.loop-d.invariant;
    }

pub loop-d-preserved : goal.loop-d-preserved
loop-d-preserved c =
    let all : (c.args.n - c.args.k + 1) * (c.args.k + 1) ≤ capacity = (below c.args.n c.args.k (omega arith) (omega arith)).room (omega arith) in
    row_more c.loop-d.invariant (omega arith) c.next_row.ensures.row c.next_row.ensures.before (room c.loop-d.d (c.args.n - c.args.k + 1) (c.args.k + 1) capacity (omega arith) all)
