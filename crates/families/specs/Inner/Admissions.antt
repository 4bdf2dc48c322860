-- A family that every call may go on with, and what a private function answers that goes on with one or refuses it.
-- Assumes nothing.
use Rattle.std.proofs.Math.Option.{Option, none, some}
use Rattle.std.specs.Prelude.{ℕ, map, Result, Ok, Err}
use Rattle.families.specs.declared.admitted.Admitted.{Admitted}
use Rattle.families.specs.declared.refusal.Refusal.{Refusal}
use Rattle.families.specs.Table.{Lent, lent}
use Rattle.families.specs.Answers.{number_of}

-- its lists
abbrev pub lists_of : Admitted → Lent
lists_of a = lent (map (λ x. x.now) a.lists.now)

-- the number of the question that is missed, if one is
abbrev pub missed : {A : Type 0} → Result A Refusal → Option ℕ
missed (Ok _) = none
missed (Err q) = some (number_of q)
