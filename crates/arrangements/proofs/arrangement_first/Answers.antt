-- The code of what `families::first` answers, and the bytes that it leaves.
use Rattle.listings.specs.Calls.{FIRST}
use Rattle.arrangements.proofs.Telling.{telling}
use Rattle.families.proofs.CodeLaws.{written_code}
use Rattle.arrangements.proofs.arrangement_first.Goals as goal

pub returns : goal.returns
returns c = telling _ _ FIRST _ c.first.ensures (written_code _ c.written.ensures) c.plain.ensures
