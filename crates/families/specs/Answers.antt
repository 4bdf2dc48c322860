-- The calls and the answers of the code, as paper 01 says them (SCOPE 3, 4.a).
-- Assumes nothing.
use Rattle.std.proofs.Math.Option.{Option, none, some}
use Rattle.std.specs.Prelude.{ℕ, Result, Ok, Err}
use Rattle.listings.specs.Calls.{COUNT, FIRST, LAST, NEXT, PREVIOUS, RANK, UNRANK, Answer, REFUSED, COUNTED, RANKED, WRITTEN, MEASURED}
use Rattle.listings.specs.Calls.{Call as CallOf}
use Rattle.listings.specs.declared.Step.{Step}
use Rattle.listings.specs.Steps.{step_as}
use Rattle.families.specs.declared.questions.Call.{Call}
use Rattle.families.specs.declared.refusal.Refusal.{Refusal}

-- a call of the code (SCOPE 3.1 to 3.7)
abbrev pub call_as : Call → CallOf
call_as Call.Count = COUNT
call_as Call.First = FIRST
call_as Call.Last = LAST
call_as Call.Next = NEXT
call_as Call.Previous = PREVIOUS
call_as Call.Rank = RANK
call_as (Call.Unrank r) = UNRANK r

-- the number of the question that is answered by no (SCOPE 4.1 to 4.8, 4.10, 4.11)
abbrev pub number_of : Refusal → ℕ
number_of Refusal.Kind = 1
number_of Refusal.Sizes = 2
number_of Refusal.Counts = 3
number_of Refusal.NoObject = 4
number_of Refusal.TooMany = 5
number_of Refusal.Length = 6
number_of Refusal.NotAnObject = 7
number_of Refusal.Rank = 8
number_of Refusal.Floor = 10
number_of Refusal.Edition = 11

-- no question is answered by no, or the first is of this number (SCOPE 4.a)
abbrev pub verdict_as : Result (Unit {0}) Refusal → Option ℕ
verdict_as (Ok _) = none
verdict_as (Err q) = some (number_of q)

-- COUNT's answers (SCOPE 3.1)
abbrev pub counted_as : Result ℕ Refusal → Answer
counted_as (Ok n) = COUNTED n
counted_as (Err q) = REFUSED (number_of q)

-- RANK's (SCOPE 3.6)
abbrev pub ranked_as : Result ℕ Refusal → Answer
ranked_as (Ok r) = RANKED r
ranked_as (Err q) = REFUSED (number_of q)

-- those of FIRST, LAST and UNRANK: "their answer is that it is written" (SCOPE 5.5)
abbrev pub written_as : Result (Unit {0}) Refusal → Answer
written_as (Ok _) = WRITTEN
written_as (Err q) = REFUSED (number_of q)

-- those of NEXT and PREVIOUS (SCOPE 3.4, 3.5)
abbrev pub stepped_as : Result Step Refusal → Answer
stepped_as (Ok s) = step_as s
stepped_as (Err q) = REFUSED (number_of q)

-- how long the family's objects are, which is told beyond the seven calls (SCOPE 3.11)
abbrev pub length_as : Result ℕ Refusal → Answer
length_as (Ok n) = MEASURED n
length_as (Err q) = REFUSED (number_of q)
