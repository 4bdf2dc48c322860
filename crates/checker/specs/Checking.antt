-- Checking a list of objects (SCOPE 14): which questions are put, what the entries are, and what each answer says of them.
-- Assumes nothing.
use Rattle.std.specs.Prelude.{◌≡◌, Result, Ok, Err, List, [], ◌∷◌, ◌++◌, ℕ, zero, suc, ◌*◌, eqb, length, take, drop}
use Rattle.std.proofs.Math.Option.{Option, none, some}
use Rattle.std.proofs.Math.ListN.{get_elem?}
use Rattle.listings.specs.Bytes.{Bytes}
use Rattle.listings.specs.Calls.{FIRST, first_no}
use Rattle.families.specs.declared.Family.{Family}
use Rattle.families.specs.Table.{Lent}
use Rattle.families.specs.Families.{always, object_length, listing}
use Rattle.families.specs.Questions.{opening}
use Rattle.families.specs.Answers.{number_of}
use Rattle.checker.specs.declared.CheckError.{CheckError}

-- so many entries, of so many bytes each, from "the entries' bytes one behind the other" (SCOPE 14.1)
unfoldable pub cut_into : ℕ → ℕ → Bytes → List Bytes
cut_into zero long s = []
cut_into (suc m) long s = take long s ∷ cut_into m long (drop long s)

-- the m entries that the bytes s are, each as long as an object (SCOPE 14.1)
unfoldable pub entries_of : Family → Lent → ℕ → Bytes → List Bytes
entries_of f b m s = cut_into m (object_length f b) s

-- the number of the first no for m entries in so many bytes: the questions about the family as they are put to FIRST, and then "is the byte length
-- exactly the entries times the object length?" (SCOPE 14.2, 4.12)
unfoldable pub check_refusal : Family → Lent → ℕ → ℕ → Option ℕ
check_refusal f b m size = first_no (opening FIRST f b ++ (always 12 (eqb size (m * object_length f b)) ∷ []))

-- a place "at which the entry isn't the object of that rank, is missing, or lies beyond the last object" (SCOPE 14.3): the entries and the listing
-- don't have the same there, nothing being what stands past the end of either
unfoldable pub WrongAt : List Bytes → List Bytes → ℕ → Type 0
WrongAt l es p = get_elem? es p ≡ get_elem? l p → ⊥

-- what a check answers: that it accepts, or why not
abbrev pub Checked : Type 0
Checked = Result (Unit {0}) CheckError

-- the number of the question that an answer says is missed, if it says so; 12 is a check's own
abbrev pub refused_by : Checked → Option ℕ
refused_by (Err (CheckError.Refused q)) = some (number_of q)
refused_by (Err CheckError.Entries) = some 12
refused_by (Err (CheckError.Wrong p)) = none
refused_by (Ok _) = none

-- what an answer says: the first no; that the entries are "exactly the full listing"; or a place that is wrong, of which "one .. will do" (SCOPE 14.3)
unfoldable pub Says : Family → Lent → ℕ → Bytes → Checked → Type 0
Says f b m s (Err (CheckError.Refused q)) = check_refusal f b m (length s) ≡ some (number_of q)
Says f b m s (Err CheckError.Entries) = check_refusal f b m (length s) ≡ some 12
Says f b m s (Ok _) = (check_refusal f b m (length s) ≡ none) × (entries_of f b m s ≡ listing f b)
Says f b m s (Err (CheckError.Wrong p)) = (check_refusal f b m (length s) ≡ none) × WrongAt (listing f b) (entries_of f b m s) p
