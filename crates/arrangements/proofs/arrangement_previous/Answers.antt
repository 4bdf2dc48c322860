-- The code of what `families::previous` answers, and the bytes that it leaves.
use Rattle.listings.specs.Calls.{PREVIOUS}
use Rattle.arrangements.proofs.Telling.{telling}
use Rattle.families.proofs.CodeLaws.{stepped_code}
use Rattle.arrangements.proofs.arrangement_previous.Goals as goal

pub returns : goal.returns
returns c = telling _ _ PREVIOUS _ c.previous.ensures (stepped_code _ c.stepped.ensures) c.plain.ensures
