-- Paper 01's marker on the listing of a family (SCOPE 5).
-- Assumes nothing.
use Rattle.std.specs.Prelude.{List}
use Rattle.listings.specs.Bytes.{Bytes}
use Rattle.listings.specs.Calls.{Call, Said}
use Rattle.listings.specs.Marker.{marker_run}
use Rattle.families.specs.declared.Family.{Family}
use Rattle.families.specs.Table.{Lent}
use Rattle.families.specs.Families.{listing}
use Rattle.families.specs.Questions.{refusal}

-- "It is fed the family with everything lent beside it, the lent bytes before the first call, and the calls with their arguments" (SCOPE 5.2)
unfoldable pub marker : List Call → Family → Lent → Bytes → List Said
marker cs f b s = marker_run (λ c. refusal c f b) (listing f b) s cs
