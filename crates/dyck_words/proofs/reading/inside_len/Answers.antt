-- `reading::inside_len` meets its contract: the inside is the row that starts behind the first byte.
use Rattle.std.proofs.Common.{◌∙◌}
use Rattle.dyck_words.proofs.RowTable.{told-inside}
use Rattle.dyck_words.proofs.reading.inside_len.Goals as goal

pub returns : goal.returns
returns c = λ i u e. c.from.ensures ∙ told-inside i u c.requires.told e
