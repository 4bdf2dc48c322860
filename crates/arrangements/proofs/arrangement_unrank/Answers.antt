-- The code of what `families::unrank` answers, and the bytes that it leaves.
use Rattle.listings.specs.Calls.{UNRANK}
use Rattle.arrangements.proofs.Telling.{telling}
use Rattle.families.proofs.CodeLaws.{written_code}
use Rattle.arrangements.proofs.arrangement_unrank.Goals as goal

pub returns : goal.returns
returns c = telling _ _ (UNRANK _) _ c.unrank.ensures (written_code _ c.written.ensures) c.plain.ensures
