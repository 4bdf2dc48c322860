-- `slip::listing::put_uncounted` meets its contract: the first line with MANY, and the body, or the refusal.
use mathlib.Core.List.{map}
use borrow.Author.Tests.{eq-eqb, ne_eqb}
use Rattle.families.specs.Answers.{number_of}
use Rattle.families.specs.Table.{lent}
use Rattle.slip.specs.Text.{said}
use Rattle.slip.proofs.Lines.{headed}
use Rattle.slip.proofs.listing.put_uncounted.Goals as goal

pub returns-then-number-ne5 : goal.returns-then-number-ne5
unfolding said
returns-then-number-ne5 c =
    let h = rw c.from-number.ensures at c.if-number-ne5.true in
    rw (ne_eqb (number_of c.args.refusal) 5 h) (rw c.from-number.ensures at (rw c.from.ensures at c.put_refused.ensures))

pub returns : goal.returns
unfolding said
returns c =
    let a = c.args in
    let h = rw c.from-number.ensures at c.if-number-ne5.false in
    rw (eq-eqb (number_of a.refusal) 5 h) (headed a.start a.f (lent (map (λ x. x.now) a.lists)) c.put_family.ensures.wrote c.put_justified.ensures.wrote c.put_byte.ensures.wrote c.put_body.ensures)
