-- The calls (SCOPE 3), what they answer, and what each does to an object of a listing once its questions have passed.
-- Assumes nothing.
use Rattle.std.specs.Prelude.{Bool, cond, List, [], ◌∷◌, ℕ, zero, suc, ◌-◌, length, get_or}
use Rattle.std.proofs.Math.Option.{Option, none, some, map}
use Rattle.std.proofs.Math.ListN.{get_elem?}
use Rattle.listings.specs.Bytes.{Bytes, same}
use Rattle.listings.specs.Places.{count_before}

-- "The calls" (SCOPE 3.1 to 3.7)
pub data Call : Type 0 where
  COUNT FIRST LAST NEXT PREVIOUS RANK : Call
  UNRANK : ℕ → Call

-- what a call says: a refusal "hands back its number only" (SCOPE 4.a); FIRST, LAST and UNRANK say "that it is written" (SCOPE 5.5). MEASURED says how
-- long the objects are, and answers none of the seven calls (SCOPE 3.11)
pub data Answer : Type 0 where
  REFUSED COUNTED RANKED MEASURED : ℕ → Answer
  WRITTEN STEPPED END : Answer

-- the answer, and the lent bytes after the call
abbrev pub Said : Type 0
Said = Answer × Bytes

-- a question at the counter: its number, and whether the answer is yes (SCOPE 4.a)
pub record Question : Type 0 where
  pub number : ℕ
  pub yes? : Bool

-- "They are put in this order; the first no is the refusal" (SCOPE 4.a)
unfoldable pub first_no : List Question → Option ℕ
first_no [] = none
first_no (q ∷ qs) = cond q.yes? (first_no qs) (some q.number)

-- "a refusal changes no lent byte" (SCOPE 4.a)
unfoldable pub judged : Option ℕ → Bytes → Said → Said
judged none x s = s
judged (some q) x s = (REFUSED q, x)

-- the place of the first entry that equals x: here, or one place behind where the rest of the list has it
unfoldable pub place_of : List Bytes → Bytes → Option ℕ
place_of [] x = none
place_of (y ∷ l) x = cond (same y x) (some 0) (map suc (place_of l x))

-- the object "just after" a place, if there is one (SCOPE 3.4). Bytes that have no place are refused by question 7, so the first case is never reached
unfoldable pub onward : List Bytes → Option ℕ → Option Bytes
onward l none = none
onward l (some p) = get_elem? l (suc p)

-- and "before it" (SCOPE 3.5); the first case as above, the second at the first object
unfoldable pub backward : List Bytes → Option ℕ → Option Bytes
backward l none = none
backward l (some zero) = none
backward l (some (suc p)) = get_elem? l p

-- "replace the object in the lent bytes .. or answer END and change nothing" (SCOPE 3.4, 3.5)
unfoldable pub stepped : Bytes → Option Bytes → Said
stepped x none = (END, x)
stepped x (some y) = (STEPPED, y)

-- what a call whose questions have passed answers and leaves, on the listing l in the order lt and the lent bytes x (SCOPE 3.1 to 3.8)
unfoldable pub act : Call → (Bytes → Bytes → Bool) → List Bytes → Bytes → Said
act COUNT lt l x = (COUNTED (length l), x)
act FIRST lt l x = (WRITTEN, get_or l 0 x)
act LAST lt l x = (WRITTEN, get_or l (length l - 1) x)
act NEXT lt l x = stepped x (onward l (place_of l x))
act PREVIOUS lt l x = stepped x (backward l (place_of l x))
act RANK lt l x = (RANKED (count_before lt x l), x)
act (UNRANK r) lt l x = (WRITTEN, get_or l r x)

-- a list of calls, each on the bytes that the one before it left (SCOPE 5.7)
unfoldable pub responses : (Call → Bytes → Said) → Bytes → List Call → List Said
responses answer x [] = []
responses answer x (c ∷ cs) = answer c x ∷ responses answer (answer c x).1 cs
