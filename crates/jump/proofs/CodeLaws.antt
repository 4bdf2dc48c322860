-- The code of a jump's answer is that of what the answer says.
-- Assumes nothing.
use Rattle.std.specs.Prelude.{◌≡◌, ℕ, Result, Ok, Err, MatchResult}
use Rattle.families.specs.declared.refusal.Refusal.{Refusal}
use Rattle.families.specs.Answers.{number_of}
use Rattle.families.specs.Codes.{code_of}
use Rattle.jump.specs.declared.Jumped.{Jumped}
use Rattle.jump.specs.Jumps.{jumped_as}

pub jump_code : (j : Result Jumped Refusal) {code : ℕ} → MatchResult j (λ a. code ≡ code_of (jumped_as (Ok a))) (λ q. code ≡ number_of q) → code ≡ code_of (jumped_as j)
unfolding code_of
jump_code (Ok a) e = e
jump_code (Err q) e = e
