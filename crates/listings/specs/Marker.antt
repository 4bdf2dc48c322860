-- Paper 01's marker on a listing (SCOPE 5). It is fed the bytes before the first call and the calls, but none of their answers.
-- Assumes nothing.
use Rattle.std.specs.Prelude.{Bool, true, false, cond, List, [], ◌∷◌, ℕ, zero, suc, ◌-◌, ltb, length, get_or}
use Rattle.std.proofs.Math.Option.{Option, none, some}
use Rattle.listings.specs.Bytes.{Bytes}
use Rattle.listings.specs.Calls.{Call, COUNT, FIRST, LAST, NEXT, PREVIOUS, RANK, UNRANK, Answer, REFUSED, COUNTED, RANKED, WRITTEN, STEPPED, END, Said, place_of}

-- the place of the object at which the marker stands, or nowhere (SCOPE 5.2, 5.3)
abbrev pub Mark : Type 0
Mark = Option ℕ

-- "It starts at the object that equals these bytes, or nowhere if none does" (SCOPE 5.3)
abbrev pub start : List Bytes → Bytes → Mark
start l s = place_of l s

-- "question 7 being whether the marker stands at an object" (SCOPE 5.4)
unfoldable pub stands : Mark → Bool
stands none = false
stands (some p) = true

-- "The bytes after a call are the object it stands at or, while it stands nowhere, those before the first call" (SCOPE 5.6)
unfoldable pub shown : List Bytes → Bytes → Mark → Bytes
shown l s none = s
shown l s (some p) = get_or l p s

-- "NEXT moves it one on", "the answer is that it stepped; with no object there the answer is END and it stays" (SCOPE 5.5). Nowhere, it is refused by
-- question 7 before: the first case of this, of `one_back` and of `rank_at` is never reached
unfoldable pub one_on : List Bytes → Mark → Answer × Mark
one_on l none = (END, none)
one_on l (some p) = cond (ltb (suc p) (length l)) (STEPPED, some (suc p)) (END, some p)

-- "PREVIOUS one back" (SCOPE 5.5)
unfoldable pub one_back : List Bytes → Mark → Answer × Mark
one_back l none = (END, none)
one_back l (some zero) = (END, some zero)
one_back l (some (suc p)) = (STEPPED, some p)

-- as many objects come before it as its place says (SCOPE 2.a)
unfoldable pub rank_at : Mark → ℕ
rank_at none = 0
rank_at (some p) = p

-- "FIRST moves it to the first object, LAST to the last, UNRANK to the object with as many before it as the rank says .. NEXT moves it
-- one on, PREVIOUS one back" (SCOPE 5.5); COUNT and RANK leave it where it is
unfoldable pub move : Call → List Bytes → Mark → Answer × Mark
move COUNT l m = (COUNTED (length l), m)
move FIRST l m = (WRITTEN, some 0)
move LAST l m = (WRITTEN, some (length l - 1))
move NEXT l m = one_on l m
move PREVIOUS l m = one_back l m
move RANK l m = (RANKED (rank_at m), m)
move (UNRANK r) l m = (WRITTEN, some r)

-- "The first no is answered by its number, and the marker stays" (SCOPE 5.4)
unfoldable pub marked : Option ℕ → Mark → Answer × Mark → Answer × Mark
marked none m a = a
marked (some q) m a = (REFUSED q, m)

-- "For each call its questions below are put" (SCOPE 5.4): refuse gives the first no of a call, for a buffer's length and the answer to question 7
abbrev pub Refuse : Type 0
Refuse = Call → ℕ → Bool → Option ℕ

-- the answers and the bytes after each call, from where the marker stands (SCOPE 5.4, 5.6)
unfoldable pub run_from : Refuse → List Bytes → Bytes → Mark → List Call → List Said
run_from refuse l s m [] = []
run_from refuse l s m (c ∷ cs) =
    let a = marked (refuse c (length s) (stands m)) m (move c l m) in
    (a.0, shown l s a.1) ∷ run_from refuse l s a.1 cs

-- from where it starts (SCOPE 5.3)
unfoldable pub marker_run : Refuse → List Bytes → Bytes → List Call → List Said
marker_run refuse l s cs = run_from refuse l s (start l s) cs
