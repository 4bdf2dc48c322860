-- The step makes the neighbour, or says that there is none.
use Rattle.listings.proofs.Stepping.{steps, stops}
use Rattle.anagrams.proofs.Theorem.{lists}
use Rattle.anagrams.proofs.Places.{spent_edge}
use Rattle.anagrams.proofs.Swaps.{step_made}
use Rattle.anagrams.proofs.stepping.step.Goals as goal

pub returns-in_default : goal.returns-in_default
returns-in_default c = λ cs o. stops (lists cs) (spent_edge _ cs _ o c.in_default.ensures)

pub returns : goal.returns
returns c = λ cs o.
    let pivot = c.in-Some.ensures in
    let other = c.last_beyond-other in
    let found = other.ensures in
    steps (lists cs) (step_made _ c.in-Some.pivot other.result found.lower_bound.0 found.lower_bound.1 _ cs _ _ found.result_value pivot.2 found.none_beyond c.swap.ensures.after c.reverse.ensures.after o)
