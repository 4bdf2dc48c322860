-- The code of what `families::next` answers, and the bytes that it leaves.
use Rattle.listings.specs.Calls.{NEXT}
use Rattle.arrangements.proofs.Telling.{telling}
use Rattle.families.proofs.CodeLaws.{stepped_code}
use Rattle.arrangements.proofs.arrangement_next.Goals as goal

pub returns : goal.returns
returns c = telling _ _ NEXT _ c.next.ensures (stepped_code _ c.stepped.ensures) c.plain.ensures
