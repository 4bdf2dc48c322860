-- A walk that knows its number (SCOPE 12): what it keeps, where it starts, and what each step answers and leaves.
-- Assumes nothing.
use Rattle.std.specs.Prelude.{Bool, cond, List, [], ◌∷◌, ◌++◌, ℕ, zero, suc, ◌-◌, ltb, length, take, drop, replicate}
use Rattle.std.proofs.Math.Option.{Option, none, some}
use Rattle.basics.specs.Limits.{longest_object}
use Rattle.listings.specs.Bytes.{Bytes}
use Rattle.listings.specs.Calls.{Call, NEXT, PREVIOUS, RANK, Answer, REFUSED, RANKED, STEPPED, END, Question, first_no, place_of, onward, backward}
use Rattle.families.specs.declared.Family.{Family}
use Rattle.families.specs.Table.{Lent}
use Rattle.families.specs.Families.{always, object_length, is_object, listing, count_of, rank_of}
use Rattle.families.specs.Questions.{opening, closing_for, refusal}
use Rattle.families.specs.Codes.{code_of}
use Rattle.walk.specs.declared.Walk.{Walk}
use Rattle.walk.specs.declared.Way.{Way}
use Rattle.walk.specs.declared.Way.TheVariants.{Forth, Back}

-- "01's NEXT or PREVIOUS" (SCOPE 12.3): the call whose step it is
unfoldable pub call_of : Way → Call
call_of Forth = NEXT
call_of Back = PREVIOUS

-- "the number kept" and "the bytes kept" (SCOPE 12.1)
pub record Kept : Type 0 where
  pub bytes : Bytes
  pub number : ℕ

-- these two as kept
abbrev pub kept : Bytes → ℕ → Kept
kept x r = record { bytes = x; number = r }

-- what a step answers, and what it leaves
abbrev pub Outcome : Type 0
Outcome = Answer × Kept

-- question 8, put to the number kept (SCOPE 12.4)
unfoldable pub number_question : Family → Lent → ℕ → Question
number_question f b r = always 8 (ltb r (count_of f b))

-- "Each step puts the counter's questions 1 to 8 to the walk it is handed" (SCOPE 12.4): 1 to 7 as RANK puts them, to bytes of that size that hold an
-- object or don't, and 8
unfoldable pub step_refusal : Family → Lent → ℕ → Bool → ℕ → Option ℕ
step_refusal f b size holds r =
    first_no ((opening RANK f b ++ closing_for RANK (count_of f b) (object_length f b) size holds) ++ (number_question f b r ∷ []))

-- the object just after a place of the listing, or just before it (SCOPE 3.4, 3.5)
unfoldable pub neighbour : Way → List Bytes → Option ℕ → Option Bytes
neighbour Forth l p = onward l p
neighbour Back l p = backward l p

-- "a step that moves adds one or takes one off" (SCOPE 12.6); from 0 nothing can be taken
unfoldable pub renumbered : Way → ℕ → Option ℕ
renumbered Forth r = some (suc r)
renumbered Back zero = none
renumbered Back (suc r) = some r

-- by the object that the step finds and the number for it: "END leaves both" (SCOPE 12.3); "PREVIOUS that finds an object while a made-up walk's
-- number is 0 is refused by 8" (SCOPE 12.5)
unfoldable pub goes_to : Kept → Option Bytes → Option ℕ → Outcome
goes_to w none o = (END, w)
goes_to w (some y) (some r) = (STEPPED, kept y r)
goes_to w (some y) none = (REFUSED 8, w)

-- "A refused step leaves both" (SCOPE 12.5)
unfoldable pub unless_missed : Option ℕ → Kept → Outcome → Outcome
unless_missed none w s = s
unless_missed (some q) w s = (REFUSED q, w)

-- a step, on bytes that are said to be of that size (SCOPE 12.2 to 12.6)
unfoldable pub step_kept : Way → Family → Lent → ℕ → Kept → Outcome
step_kept a f b size w =
    unless_missed (step_refusal f b size (is_object f b w.bytes) w.number) w
    (goes_to w (neighbour a (listing f b) (place_of (listing f b) w.bytes)) (renumbered a w.number))

-- what a walk keeps of its array, as far as its length says (SCOPE 12.1)
unfoldable pub kept_by : Walk → Kept
kept_by w = kept (take w.len w.bytes) w.number

-- the walk with these kept in place of its own; what stands behind the bytes in the array stays
unfoldable pub keep : Walk → Kept → Walk
keep w s = record { family = w.family; bytes = s.bytes ++ drop w.len w.bytes; len = w.len; number = s.number }

-- a step of a walk, with the lists that it is handed (SCOPE 12.2 to 12.6)
unfoldable pub step_walk : Way → Lent → Walk → Answer × Walk
step_walk a b w =
    let s = step_kept a w.family b w.len (kept_by w) in
    (s.0, keep w s.1)

-- a walk that keeps the bytes x and the number r
unfoldable pub walk_at : Family → Bytes → ℕ → Walk
walk_at f x r = record { family = f; bytes = x ++ replicate (longest_object - length x) 0; len = length x; number = r }

-- "A walk starts at an object, with RANK's questions and its number" (SCOPE 12.6); beside a refusal stands a walk that keeps no bytes and the number 0
unfoldable pub started_by : Option ℕ → Family → Bytes → ℕ → Answer × Walk
started_by none f x r = (RANKED r, walk_at f x r)
started_by (some q) f x r = (REFUSED q, walk_at f [] 0)

-- the start of a walk (SCOPE 12.6)
unfoldable pub start_of : Family → Lent → Bytes → Answer × Walk
start_of f b x = started_by (refusal RANK f b (length x) (is_object f b x)) f x (rank_of f b x)

-- a step, and the lists that it is handed: "Letter counts remain in the lent list" (SCOPE 12.2)
abbrev pub Handed : Type 0
Handed = Way × Lent

-- "every list of steps" (SCOPE 12.1): what each answers, and the walk after it
unfoldable pub steps : Walk → List Handed → List (Answer × Walk)
steps w [] = []
steps w (h ∷ hs) = step_walk h.0 h.1 w ∷ steps (step_walk h.0 h.1 w).1 hs

-- the walk that they leave
unfoldable pub walked : Walk → List Handed → Walk
walked w [] = w
walked w (h ∷ hs) = walked (step_walk h.0 h.1 w).1 hs

-- such a list on lent bytes, all of which are kept
unfoldable pub walked_lent : Family → Kept → List Handed → Kept
walked_lent f w [] = w
walked_lent f w (h ∷ hs) = walked_lent f (step_kept h.0 f h.1 (length w.bytes) w).1 hs

-- a step on, or one back (SCOPE 12.8)
unfoldable pub way_of : Bool → Way
way_of v = cond v Forth Back

-- a run: as many steps as there is room for their answers' codes; the walk that they leave, and the codes in front of what stood there (SCOPE 12.8)
unfoldable pub run_of : Walk → Lent → List Bool → Bytes → Walk × Bytes
run_of w b [] answers = (w, answers)
run_of w b (v ∷ on) [] = (w, [])
run_of w b (v ∷ on) (c ∷ answers) =
    let s = step_walk (way_of v) b w in
    let r = run_of s.1 b on answers in
    (r.0, code_of s.0 ∷ r.1)
