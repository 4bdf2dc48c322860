-- RANK puts a jump's questions, and tells where it starts.
use mathlib.Core.Path.{refl, sym}
use borrow.Author.Rules.{rules}
use Rattle.families.proofs.Answered.{rank_told}
use Rattle.jump.proofs.Landing.{refused_so}
use Rattle.jump.proofs.jump.Goals as goal

pub returns-in_err-rank : goal.returns-in_err-rank
returns-in_err-rank c =
    let refused = refused_so _ _ c.args.d _ refl c.in_err-rank.ensures in
    search (rules, refused)

pub jump_from-requires : goal.jump_from-requires
jump_from-requires c =
    let told = rank_told _ _ _ (sym c.in_ok-rank.ensures) in
    record { object_value = told.0; object_value_2 = told.1 }
