-- What every call answers and leaves, for any family, any lists and any bytes (SCOPE 0.1, 3).
-- Assumes nothing.
use Rattle.std.proofs.Math.Option.{Option, none, some}
use Rattle.std.specs.Prelude.{List, ℕ, length}
use Rattle.listings.specs.Bytes.{Bytes}
use Rattle.listings.specs.Calls.{Call, Answer, REFUSED, MEASURED, Said, first_no, judged, act, responses}
use Rattle.families.specs.declared.Family.{Family}
use Rattle.families.specs.Table.{Lent}
use Rattle.families.specs.Families.{asked_of_all, object_length, is_object, comes_before, listing}
use Rattle.families.specs.Questions.{refusal}

-- the questions of the call (SCOPE 4.a), and where all pass what it does to the object in the listing (SCOPE 3)
unfoldable pub respond : Call → Family → Lent → Bytes → Said
respond c f b x = judged (refusal c f b (length x) (is_object f b x)) x (act c (comes_before f b) (listing f b) x)

-- "Such a list of calls keeps to one family, one buffer and unchanged lists beside the family" (SCOPE 5.7)
unfoldable pub run : List Call → Family → Lent → Bytes → List Said
run cs f b s = responses (λ c x. respond c f b x) s cs

-- an answer where no question is answered by no, and the refusal otherwise
unfoldable pub unless_refused : Option ℕ → Answer → Answer
unless_refused none a = a
unless_refused (some q) a = REFUSED q

-- "the length in the table" that a buffer must have (SCOPE 4.6), after the questions that are put to all
unfoldable pub measured : Family → Lent → Answer
measured f b = unless_refused (first_no (asked_of_all f b)) (MEASURED (object_length f b))
