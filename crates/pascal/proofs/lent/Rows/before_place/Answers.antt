-- `pascal::lent::Rows::before_place` meets its contract: before the row's first entry and behind its last the window has 0.
use Rattle.std.proofs.Common.{sym, ◌∙◌, ap, arith}
use Rattle.numbers.specs.Numbers.{choose}
use Rattle.numbers.proofs.Binomials.{choose-none}
use Rattle.pascal.specs.Inner.Triangle.{last_row}
use Rattle.pascal.proofs.Windows.{back-before, back-within}
use Rattle.pascal.proofs.lent.Rows.before_place.Goals as goal

pub returns-in_default : goal.returns-in_default
returns-in_default c = sym (back-before last_row _ _ (omega (arith, c.in_default.ensures)))

pub returns-then-at-gt-LAST_ROW : goal.returns-then-at-gt-LAST_ROW
returns-then-at-gt-LAST_ROW c =
    let h = c.in-Some.ensures in
    sym (back-within last_row _ _ h.0 ∙ ap (choose last_row) (sym h.1) ∙ choose-none last_row _ c.if-at-gt-LAST_ROW.true)

pub returns : goal.returns
returns c = let h = c.in-Some.ensures in c.entry.ensures ∙ ap (choose last_row) h.1 ∙ sym (back-within last_row _ _ h.0)
