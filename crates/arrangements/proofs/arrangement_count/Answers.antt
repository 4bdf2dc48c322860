-- The code of what `families::count` answers, and its number where it has one.
use mathlib.Core.Path.{◌∙◌, ap}
use Rattle.listings.specs.Calls.{COUNT, Answer}
use Rattle.arrangements.specs.Told.{valued}
use Rattle.arrangements.proofs.Telling.{answering, told_counted}
use Rattle.arrangements.proofs.arrangement_count.Goals as goal

pub returns : goal.returns
returns c =
    let v = c.args.value.now in
    c.tell.ensures ∙ told_counted v c.count.result ∙ ap (λ (a : Answer). valued a v) (answering _ _ COUNT _ c.count.ensures)
