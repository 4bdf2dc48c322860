-- Jump by a signed distance (SCOPE 13): where it leads, and what it answers and leaves, for any family, lists, distance and bytes.
-- Assumes nothing.
use Rattle.std.specs.Prelude.{Result, Ok, Err, cond, List, ℕ, ltb, ℤ, pos, negsuc, ◌+ℤ◌, length, get_or}
use Rattle.std.proofs.Math.Option.{Option, none, some}
use Rattle.listings.specs.Bytes.{Bytes}
use Rattle.listings.specs.Calls.{RANK, Answer, REFUSED, COUNTED, RANKED, MEASURED, WRITTEN, STEPPED, END, Said, judged}
use Rattle.families.specs.declared.Family.{Family}
use Rattle.families.specs.declared.refusal.Refusal.{Refusal}
use Rattle.families.specs.Answers.{number_of}
use Rattle.families.specs.Table.{Lent}
use Rattle.families.specs.Families.{is_object, listing, count_of, rank_of}
use Rattle.families.specs.Questions.{refusal}
use Rattle.jump.specs.declared.Jumped.{Jumped}

-- an integer as a rank, "when that sum lies from 0 to the count less one" (SCOPE 13.1); negsuc m is - (m + 1), below 0
unfoldable pub rank_in : ℕ → ℤ → Option ℕ
rank_in count (pos p) = cond (ltb p count) (some p) none
rank_in count (negsuc m) = none

-- "the object of rank r + d" (SCOPE 13.1): that rank among so many objects, if there is one
unfoldable pub target : ℕ → ℕ → ℤ → Option ℕ
target r count d = rank_in count (pos r +ℤ d)

-- the object of that rank "is written", and "In all other cases the answer is END and the bytes stay" (SCOPE 13.1)
unfoldable pub jumped : Bytes → List Bytes → Option ℕ → Said
jumped x l none = (END, x)
jumped x l (some p) = (WRITTEN, get_or l p x)

-- a jump: "The counter's questions 1 to 7 apply as for RANK" (SCOPE 13.2), and where all pass it goes d places on or back from the rank of x
unfoldable pub jump : Family → Lent → ℤ → Bytes → Said
jump f b d x =
    judged (refusal RANK f b (length x) (is_object f b x)) x
    (jumped x (listing f b) (target (rank_of f b x) (count_of f b) d))

-- a jump's answers (SCOPE 13.1, 13.2)
abbrev pub jumped_as : Result Jumped Refusal → Answer
jumped_as (Ok Jumped.Written) = WRITTEN
jumped_as (Ok Jumped.End) = END
jumped_as (Err q) = REFUSED (number_of q)

-- what a step answers and leaves, in the words of a jump: the neighbour "is written" (SCOPE 13.4)
unfoldable pub as_jump : Said → Said
as_jump (STEPPED, y) = (WRITTEN, y)
as_jump (REFUSED q, y) = (REFUSED q, y)
as_jump (COUNTED n, y) = (COUNTED n, y)
as_jump (RANKED n, y) = (RANKED n, y)
as_jump (MEASURED n, y) = (MEASURED n, y)
as_jump (WRITTEN, y) = (WRITTEN, y)
as_jump (END, y) = (END, y)
