-- `slip::listing::put_text` meets its contract, by what COUNT answers.
use Rattle.std.proofs.Common.{sym, ◌∙◌}
use mathlib.Core.List.{map}
use Rattle.families.specs.Table.{lent}
use Rattle.families.proofs.Going.{counted-allowed, many_allowed}
use Rattle.slip.proofs.Lines.{text_counted, text_refused}
use Rattle.slip.proofs.listing.put_text.Goals as goal

pub put_counted-requires-clause-lists_value : goal.put_counted-requires-clause-lists_value
put_counted-requires-clause-lists_value c = counted-allowed c.args.f (lent (map (λ x. x.now) c.args.lists)) c.in-Ok.ensures

pub put_uncounted-requires-clause-lists_value : goal.put_uncounted-requires-clause-lists_value
put_uncounted-requires-clause-lists_value c = λ q. many_allowed c.args.f (lent (map (λ x. x.now) c.args.lists)) (rw q at c.in-Err.ensures)

pub returns-in-Ok : goal.returns-in-Ok
returns-in-Ok c = let a = c.args in rw (text_counted a.start a.f (lent (map (λ x. x.now) a.lists)) c.in-Ok.ensures) c.put_counted.ensures

pub returns-in-Err : goal.returns-in-Err
returns-in-Err c = let a = c.args in rw (text_refused a.start a.f (lent (map (λ x. x.now) a.lists)) c.in-Err.ensures) c.put_uncounted.ensures
