-- `families::table::in_table`: the bounds of every row are two limits by the kind's number.
use borrow.Author.Tests.{le-leb, lt-leb}
use Rattle.families.proofs.Dispatch.{kind_limits}
use Rattle.families.proofs.table.in_table.Goals as goal

pub returns-then-f-most_n : goal.returns-then-f-most_n
returns-then-f-most_n c = λ e.
    let low = rw c.most_n.ensures at c.if-f-most_n.true in
    rw (kind_limits c.args.f _ c.args.kind e, c.most_k.ensures, le-leb _ _ low)

pub returns-else-f-most_n : goal.returns-else-f-most_n
returns-else-f-most_n c = λ e.
    let high = rw c.most_n.ensures at c.if-f-most_n.false in
    rw (kind_limits c.args.f _ c.args.kind e, c.most_n.ensures, lt-leb _ _ high)
