-- The code of what `families::object_length` answers, and the length where it has one.
use mathlib.Core.Path.{◌∙◌, ap}
use Rattle.listings.specs.Calls.{Answer}
use Rattle.arrangements.specs.Told.{valued}
use Rattle.arrangements.proofs.Telling.{told_long}
use Rattle.arrangements.proofs.arrangement_object_length.Goals as goal

pub returns : goal.returns
returns c =
    let v = c.args.value.now in
    c.tell.ensures ∙ told_long v c.object_length.result
    ∙ ap (λ (a : Answer). valued a v) c.object_length.ensures
