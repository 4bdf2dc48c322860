-- `columns::fields::digits` meets its contract: a digit more is read, and the number is one place wider.
use Rattle.std.proofs.Common.{◌≤◌, get_or, sym, ◌∙◌, rules}
use Rattle.columns.proofs.FieldLaws.{digits_at, grown}
use Rattle.columns.proofs.fields.digits.Goals as goal

pub loop-digit-preserved : goal.loop-digit-preserved
loop-digit-preserved c =
    let x = c.args.part.now in
    let l = c.loop-digit in
    let digit : (48 ≤ get_or x l.digit-index 0) × (get_or x l.digit-index 0 ≤ 57) = search rules in
    rw c.from.ensures (grown l.value _ l.digit-index l.invariant.0 digit.1, sym (digits_at x l.digit-index l.value (search rules) digit.0 digit.1) ∙ l.invariant.1)
