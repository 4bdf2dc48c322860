-- FIRST writes the object at place 0, or its refusal is the check's.
use borrow.Author.Rules.{rules}
use Rattle.families.proofs.Going.{starts}
use Rattle.checker.proofs.Answering.{no_first}
use Rattle.checker.proofs.check_in.Goals as goal

pub returns-in_err-first : goal.returns-in_err-first
returns-in_err-first c =
    let refused = no_first _ _ c.args.entries c.args.bytes.now _ _ c.requires c.in_err-first.ensures in
    search (rules, refused)

pub check_from-requires : goal.check_from-requires
check_from-requires c = starts _ _ _ c.in_ok-first.ensures
