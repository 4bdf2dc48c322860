-- The rows from the place `at` on are in the table.
use Rattle.dyck_words.proofs.RowTable.{Built}
use Rattle.dyck_words.proofs.reading.rows_by_place.Given as goal

abbrev pub invariant-loop-at : goal.invariant-loop-at
invariant-loop-at l = Built l.object l.rows l.at
