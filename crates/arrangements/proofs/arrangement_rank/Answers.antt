-- The code of what `families::rank` answers, and its number where it has one.
use mathlib.Core.Path.{◌∙◌, ap}
use Rattle.listings.specs.Calls.{RANK, Answer}
use Rattle.arrangements.specs.Told.{valued}
use Rattle.arrangements.proofs.Telling.{answering, told_ranked}
use Rattle.arrangements.proofs.arrangement_rank.Goals as goal

pub returns : goal.returns
returns c =
    let v = c.args.value.now in
    c.tell.ensures ∙ told_ranked v c.rank.result ∙ ap (λ (a : Answer). valued a v) (answering _ _ RANK _ c.rank.ensures)
