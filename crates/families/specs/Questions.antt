-- "Questions at the counter" (SCOPE 4), in the order in which they are put. A question that a call isn't asked counts as a yes.
-- Assumes nothing.
use Rattle.std.specs.Prelude.{Bool, false, not, ◌||◌, List, [], ◌∷◌, ◌++◌, ℕ, ◌^◌, ltb, eqb}
use Rattle.std.proofs.Math.Option.{Option}
use Rattle.listings.specs.Calls.{Call, COUNT, FIRST, LAST, NEXT, PREVIOUS, RANK, UNRANK, Question, first_no}
use Rattle.families.specs.declared.Family.{Family}
use Rattle.families.specs.Table.{Lent}
use Rattle.families.specs.Families.{always, asked_of_all, object_length, count_of}

-- of the questions that aren't put to all, the numbers of those that are put to a call: 4 and 6 to "All calls but COUNT"; 5 to "COUNT, RANK,
-- UNRANK"; 7 to "RANK, NEXT, PREVIOUS"; 8 to "UNRANK" (SCOPE 4.b)
unfoldable pub asked : Call → List ℕ
asked COUNT = 5 ∷ []
asked FIRST = 4 ∷ 6 ∷ []
asked LAST = 4 ∷ 6 ∷ []
asked NEXT = 4 ∷ 6 ∷ 7 ∷ []
asked PREVIOUS = 4 ∷ 6 ∷ 7 ∷ []
asked RANK = 4 ∷ 5 ∷ 6 ∷ 7 ∷ []
asked (UNRANK r) = 4 ∷ 5 ∷ 6 ∷ 8 ∷ []

-- is the number in the list?
unfoldable pub is_in : ℕ → List ℕ → Bool
is_in q [] = false
is_in q (p ∷ ps) = eqb q p || is_in q ps

-- question q as it is put to a call (SCOPE 4.a)
unfoldable pub put : Call → ℕ → Bool → Question
put c q answer = record { number = q; yes? = not (is_in q (asked c)) || answer }

-- the rank that UNRANK is handed; question 8 is put to no other call, so that of the others is never asked
unfoldable pub rank_given : Call → ℕ
rank_given COUNT = 0
rank_given FIRST = 0
rank_given LAST = 0
rank_given NEXT = 0
rank_given PREVIOUS = 0
rank_given RANK = 0
rank_given (UNRANK r) = r

-- the questions about the family alone: those put to all (SCOPE 4.1 to 4.3, 4.10, 4.11), and "has the family an object?" (SCOPE 4.4)
unfoldable pub opening : Call → Family → Lent → List Question
opening c f b = asked_of_all f b ++ (put c 4 (ltb 0 (count_of f b)) ∷ [])

-- the others, of a count, an object's length, a buffer of some size that holds an object or doesn't: "is the count below 2^64?", "has the lent
-- object buffer the length in the table?", "does it hold an object of the family?", "is the rank below the count?" (SCOPE 4.5 to 4.8)
unfoldable pub closing_for : Call → ℕ → ℕ → ℕ → Bool → List Question
closing_for c count long size holds =
    put c 5 (ltb count (2 ^ 64)) ∷ put c 6 (eqb size long) ∷ put c 7 holds ∷ put c 8 (ltb (rank_given c) count) ∷ []

-- the number of the first no, for a buffer of that size that holds an object or doesn't (SCOPE 4.a)
unfoldable pub refusal : Call → Family → Lent → ℕ → Bool → Option ℕ
refusal c f b size holds = first_no (opening c f b ++ closing_for c (count_of f b) (object_length f b) size holds)

-- the largest number of a question that a call is put (SCOPE 4.11)
abbrev pub last_question : ℕ
last_question = 11

-- questions 5 and 8 for a rank and a count, whatever the call (SCOPE 4.5, 4.8)
unfoldable pub rank_refusal : ℕ → ℕ → Option ℕ
rank_refusal r count = first_no (always 5 (ltb count (2 ^ 64)) ∷ always 8 (ltb r count) ∷ [])
