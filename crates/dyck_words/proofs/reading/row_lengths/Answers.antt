-- `reading::row_lengths` meets its contract: each row is told by how many bytes are left where it starts.
use Rattle.std.proofs.Common.{arith, length}
use Rattle.dyck_words.proofs.RowTable.{turned_none, turned_more, turned_all}
use Rattle.dyck_words.proofs.reading.row_lengths.Goals as goal

pub loop-left-init : goal.loop-left-init
loop-left-init c = turned_none (length c.args.object.now) c.rows_by_place-by_place.result

pub returns-2 : goal.returns-2
returns-2 c =
    let rows = c.rows_by_place-by_place.ensures in
    turned_all rows.told rows.low (turned_more (omega arith) (omega arith) c.loop-left.invariant) (omega arith)
