-- `stirlings::next_row` meets its contract: what a turn stores is the next number of the row, and fits.
use Rattle.std.proofs.Common.{◌-◌, ◌*◌, arith}
use Rattle.stirlings.proofs.Rows.{begin, next_number, number_more}
use Rattle.stirlings.proofs.next_row.Goals as goal

pub loop-at-init : goal.loop-at-init
loop-at-init c = begin _ _ _ _ (omega arith)

pub overflow_mul-left : goal.overflow_mul-left
overflow_mul-left c =
    let a = c.args in
    let l = c.loop-at in
    let next = next_number (a.d * a.stride) a.stride l.at l.invariant (omega arith) c.loop-at-test.true c.requires.apart c.requires.row in
    record { fits = omega (arith, next, c.requires.by_index (l.at - a.d * a.stride) (omega arith)) }

pub overflow_add-left : goal.overflow_add-left
overflow_add-left c =
    let a = c.args in
    let l = c.loop-at in
    let next = next_number (a.d * a.stride) a.stride l.at l.invariant (omega arith) c.loop-at-test.true c.requires.apart c.requires.row in
    record { fits = omega (arith, next, c.requires.by_index (l.at - a.d * a.stride) (omega arith)) }

pub loop-at-preserved : goal.loop-at-preserved
loop-at-preserved c =
    let a = c.args in
    let l = c.loop-at in
    let next = next_number (a.d * a.stride) a.stride l.at l.invariant (omega arith) c.loop-at-test.true c.requires.apart c.requires.row in
    number_more l.invariant (omega arith) (omega arith) next _ (omega arith)

pub returns-clause-row : goal.returns-clause-row
returns-clause-row c = record { there = λ j h. c.loop-at.invariant.done j (omega arith) }
