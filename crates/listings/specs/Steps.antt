-- The answer of a step in code, as paper 01 says it (SCOPE 3.4, 3.5).
-- Assumes nothing.
use Rattle.listings.specs.declared.Step.{Step}
use Rattle.listings.specs.declared.Step.TheVariants.{Moved, End}
use Rattle.listings.specs.Calls.{Answer, STEPPED, END}

-- "the answer is that it stepped; with no object there the answer is END" (SCOPE 5.5)
abbrev pub step_as : Step → Answer
step_as Moved = STEPPED
step_as End = END
