-- A neighbour is what the call says, and so is an edge.
use Rattle.std.proofs.Common.{◌≡◌, Bool, ℕ, ap, ◌∙◌}
use Rattle.listings.specs.Bytes.{Bytes}
use Rattle.listings.specs.Calls.{END, Said, act}
use Rattle.listings.specs.Directions.{step_call}
use Rattle.listings.specs.Steps.{step_as}
use Rattle.listings.specs.declared.Step.{Step}
use Rattle.listings.specs.declared.Step.TheVariants.{Moved, End}
use Rattle.listings.proofs.Stepping.{steps, stops}
use Rattle.derangements.specs.Objects.{derangement_before}
use Rattle.derangements.specs.Listing.{derangements}
use Rattle.derangements.specs.Inner.Moves.{AfterStep}
use Rattle.derangements.proofs.Theorem.{lists}
use Rattle.derangements.proofs.stepping.step_object.Goals as goal

said : (up : Bool) (n : ℕ) (x y : Bytes) (r : Step) → AfterStep up (derangements n) x r y → ◌≡◌ {A = Said} (step_as r, y) (act (step_call up) (derangement_before n) (derangements n) x)
said up n x y Moved b = steps (lists n) b
said up n x y End (e, h) = ap (λ z. (END, z)) e ∙ stops (lists n) h

pub returns : goal.returns
returns c = said c.args.up _ c.args.object.now _ c.step.result c.step.ensures
