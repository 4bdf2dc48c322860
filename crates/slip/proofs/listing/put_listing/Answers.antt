-- `slip::listing::put_listing` meets its contract: FIRST writes the object at place 0, or there is none and END is all.
use mathlib.Core.List.{map}
use Rattle.families.specs.Table.{lent}
use Rattle.families.specs.Families.{listing}
use Rattle.families.proofs.Going.{not_written, starts, starts_none}
use Rattle.slip.proofs.Lines.{nothing_listed}
use Rattle.slip.proofs.listing.put_listing.Goals as goal

pub returns-in-Err : goal.returns-in-Err
returns-in-Err c =
    let a = c.args in
    let b = lent (map (λ x. x.now) a.lists) in
    nothing_listed a.start (listing a.f b) (starts_none a.f b a.object.now c.requires.lists_value c.requires.object_len not_written c.in-Err.ensures) c.put_last.ensures

pub put_objects-requires-clause-first : goal.put_objects-requires-clause-first
put_objects-requires-clause-first c = let a = c.args in starts a.f (lent (map (λ x. x.now) a.lists)) a.object.now c.in-Ok.ensures
