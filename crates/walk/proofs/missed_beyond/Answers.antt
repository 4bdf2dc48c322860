-- No object is so long, so question 6 is missed where none before it is.
use mathlib.Core.Path.{sym}
use Rattle.walk.proofs.Asked.{rank_missed, family_missed, count_missed, size_missed}
use Rattle.walk.proofs.missed_beyond.Goals as goal

pub returns-in-Err : goal.returns-in-Err
returns-in-Err c size holds number large = rank_missed _ _ _ _ number (family_missed _ _ _ _ (sym c.in-Err.ensures))

pub returns-in-Ok : goal.returns-in-Ok
returns-in-Ok c size holds number large =
    rank_missed _ _ _ _ number (size_missed _ _ _ _ (sym c.in_default.ensures) (sym c.in-Ok.ensures) large)

pub returns-in-Err-rank_below : goal.returns-in-Err-rank_below
returns-in-Err-rank_below c size holds number large =
    rank_missed _ _ _ _ number (count_missed _ _ _ _ (sym c.in_default.ensures) (sym c.in-Err-rank_below.ensures))
