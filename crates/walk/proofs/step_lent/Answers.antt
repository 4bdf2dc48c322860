-- Questions 5 and 8 go first, since they alone need the count.
use mathlib.Core.Path.{sym}
use Rattle.walk.proofs.Asked.{both_pass}
use Rattle.walk.proofs.Told.{refused_so}
use Rattle.walk.proofs.step_lent.Goals as goal

pub step_numbered-requires : goal.step_numbered-requires
step_numbered-requires c =
    let told = both_pass _ _ (sym c.in-Ok.ensures) in
    record { number_bound = told.0; lists_bound = told.1 }

pub returns-in-Err : goal.returns-in-Err
returns-in-Err c = refused_so _ _ _ _ _ _ (c.missed.ensures _ _ (sym c.in-Err.ensures))
