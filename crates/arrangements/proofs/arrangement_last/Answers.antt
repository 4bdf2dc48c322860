-- The code of what `families::last` answers, and the bytes that it leaves.
use Rattle.listings.specs.Calls.{LAST}
use Rattle.arrangements.proofs.Telling.{telling}
use Rattle.families.proofs.CodeLaws.{written_code}
use Rattle.arrangements.proofs.arrangement_last.Goals as goal

pub returns : goal.returns
returns c = telling _ _ LAST _ c.last.ensures (written_code _ c.written.ensures) c.plain.ensures
