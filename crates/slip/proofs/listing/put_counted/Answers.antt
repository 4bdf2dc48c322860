-- `slip::listing::put_counted` meets its contract: the first line with the count, and the body.
use mathlib.Core.List.{map}
use Rattle.families.specs.Table.{lent}
use Rattle.slip.proofs.Lines.{headed}
use Rattle.slip.proofs.listing.put_counted.Goals as goal

pub returns : goal.returns
returns c = let a = c.args in headed a.start a.f (lent (map (λ x. x.now) a.lists)) c.put_family.ensures.wrote c.put_column.ensures.wrote c.put_byte.ensures.wrote c.put_body.ensures
