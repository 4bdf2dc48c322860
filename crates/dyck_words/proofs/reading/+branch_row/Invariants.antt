-- The measures of `reading::row` and `reading::branch`: twice the bytes that are left, and one more for a row.
use Rattle.std.proofs.Common.{◌+◌, ◌*◌, ◌-◌, length}
use Rattle.dyck_words.proofs.reading.+branch_row.Given as goal

abbrev pub decreases-branch : goal.decreases-branch
decreases-branch l = 2 * (length l.object.now - l.at)

abbrev pub decreases-row : goal.decreases-row
decreases-row l = 2 * (length l.object.now - l.at) + 1
