-- The rows where less than `left` bytes are left are in the table.
use Rattle.std.proofs.Common.{length}
use Rattle.dyck_words.proofs.RowTable.{Turned}
use Rattle.dyck_words.proofs.reading.row_lengths.Given as goal

abbrev pub invariant-loop-left : goal.invariant-loop-left
invariant-loop-left l = Turned (length l.object) l.by_place l.rows l.left
