-- What a caller in another language is told: a code, and the bytes or the number that a call leaves.
-- Assumes nothing.
use Rattle.std.specs.Prelude.{◌≡◌, Result, Ok, Err, cond, ◌||◌, ℕ, eqb}
use Rattle.listings.specs.Bytes.{Bytes}
use Rattle.listings.specs.Calls.{Answer, Said}
use Rattle.families.specs.declared.Family.{Family}
use Rattle.families.specs.declared.refusal.Refusal.{Refusal}
use Rattle.families.specs.Table.{Lent}
use Rattle.families.specs.Answers.{number_of}
use Rattle.families.specs.Codes.{code_of, value_of, Coded}
use Rattle.walk.specs.Walks.{Kept, Outcome}
use Rattle.checker.specs.declared.CheckError.{CheckError}
use Rattle.checker.specs.Checking.{Checked, Says}

-- the code that is told: 0 for written and stepped too, since a caller knows which call was made
unfoldable pub plain : ℕ → ℕ
plain code = cond (eqb code 20 || eqb code 21) 0 code

-- what is told of a call that leaves bytes
abbrev pub told : Said → Coded
told s = (plain (code_of s.0), s.1)

-- a code, and a lent number
abbrev pub Valued : Type 0
Valued = ℕ × ℕ

-- what is told of a call that leaves a number where v stood. None of these answers 20 or 21, so its code is told as it is
abbrev pub valued : Answer → ℕ → Valued
valued a v = (plain (code_of a), value_of a v)

-- a code, and the bytes and the number that a walk keeps
abbrev pub CodedStep : Type 0
CodedStep = ℕ × Kept

-- what is told of a step of a walk
abbrev pub told_step : Outcome → CodedStep
told_step s = (plain (code_of s.0), s.1)

-- what is told of a number, or of the question that a call misses, where v stood
abbrev pub number_told : Result ℕ Refusal → ℕ → Valued
number_told (Ok n) v = (0, n)
number_told (Err q) v = (number_of q, v)

-- what is told of a check's answer beside a lent number v: 0 for "accepts", 101 and the place, or the number of the question missed (SCOPE 14.3)
abbrev pub check_told : Checked → ℕ → Valued
check_told (Ok _) v = (0, v)
check_told (Err (CheckError.Wrong p)) v = (101, p)
check_told (Err CheckError.Entries) v = (12, v)
check_told (Err (CheckError.Refused q)) v = (number_of q, v)

-- t is told of an answer that says what is so of m entries in the bytes s: "one of them will do" leaves the place open, and nothing else
pub record ToldCheck (f : Family) (b : Lent) (m : ℕ) (s : Bytes) (v : ℕ) (t : Valued) : Type 0 where
  pub answer : Checked
  pub says : Says f b m s answer
  pub told : t ≡ check_told answer v
