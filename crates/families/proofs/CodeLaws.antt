-- The code of a call's answer is that of what the answer says: `codes` answers by a refusal's number, and a refusal's number is the question's.
-- Assumes nothing.
use Rattle.std.specs.Prelude.{◌≡◌, ℕ, Result, Ok, Err, MatchResult}
use Rattle.listings.specs.Calls.{WRITTEN}
use Rattle.listings.specs.declared.Step.{Step}
use Rattle.listings.specs.Steps.{step_as}
use Rattle.families.specs.declared.refusal.Refusal.{Refusal}
use Rattle.families.specs.Answers.{number_of, written_as, stepped_as}
use Rattle.families.specs.Codes.{code_of}

pub written_code : (w : Result (Unit {0}) Refusal) {code : ℕ} → MatchResult w (λ _. code ≡ code_of WRITTEN) (λ q. code ≡ number_of q) → code ≡ code_of (written_as w)
unfolding code_of
written_code (Ok _) e = e
written_code (Err q) e = e

pub stepped_code : (s : Result Step Refusal) {code : ℕ} → MatchResult s (λ a. code ≡ code_of (step_as a)) (λ q. code ≡ number_of q) → code ≡ code_of (stepped_as s)
unfolding code_of
stepped_code (Ok a) e = e
stepped_code (Err q) e = e
