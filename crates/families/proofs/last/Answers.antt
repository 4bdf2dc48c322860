-- `families::last`: what is written stands at the last place.
use Rattle.families.proofs.Verdicts.{verdict}
use Rattle.families.proofs.Responses.{writes_last}
use Rattle.families.proofs.last.Goals as goal

pub returns : goal.returns
returns c =
    let same = c.in_ok-a.ensures.same in
    rw (← same.0, ← same.1) (writes_last _ _ _ c.last.ensures (verdict c.ask_others.ensures c.in_ok-ask_others.was))
