use Rattle.dyck_words.proofs.RowTable.{built_none, built_more}
use Rattle.dyck_words.proofs.reading.rows_by_place.Goals as goal

pub loop-at-init : goal.loop-at-init
loop-at-init c = built_none c.args.object.now c.requires

pub loop-at-preserved : goal.loop-at-preserved
loop-at-preserved c = built_more c.loop-at-test.true c.loop-at.invariant c.row_here.ensures
