-- The code of what `checker::check` answers, and its place where it has one.
use Rattle.arrangements.proofs.Telling.{telling_check}
use Rattle.arrangements.proofs.arrangement_check.Goals as goal

pub returns-in-Ok : goal.returns-in-Ok
returns-in-Ok c = telling_check _ _ _ _ _ _ c.in-Ok.ensures

pub returns-in-Err-Wrong : goal.returns-in-Err-Wrong
returns-in-Err-Wrong c =
    telling_check _ _ _ _ _ _ (rw c.in-Err-Wrong.field-0-is at c.in-Err-Wrong.ensures)

pub returns-in-Err-Entries : goal.returns-in-Err-Entries
returns-in-Err-Entries c =
    telling_check _ _ _ _ _ _ (rw c.in-Err-Entries.field-0-is at c.in-Err-Entries.ensures)

pub returns-in-Err-Refused : goal.returns-in-Err-Refused
returns-in-Err-Refused c =
    rw (c.from-in-Err-Refused.ensures, c.from.ensures) (telling_check _ _ _ _ _ _ (rw c.in-Err-Refused.field-0-is at c.in-Err-Refused.ensures))
