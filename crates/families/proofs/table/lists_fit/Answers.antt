-- `families::table::lists_fit`: every kind but the second has an empty list, and a sum that stops above the limit is within it where the whole sum is.
use mathlib.Core.Path.{sym, ◌∙◌, ap}
use lib.ListN.{get_or-map}
use borrow.Author.Tests.{eq-eqb, ne_eqb}
use Rattle.families.specs.Table.{no_counts}
use Rattle.families.specs.Inner.Kinds.{kind_number}
use Rattle.families.proofs.RowsHold.{with_counts_lem, no_counts_lem}
use Rattle.families.proofs.Dispatch.{other_kind}
use Rattle.basics.proofs.Totals.{to_limit}
use Rattle.families.proofs.table.lists_fit.Goals as goal

pub returns-then-counts-f : goal.returns-then-counts-f
returns-then-counts-f c = λ e.
    let many = rw (← get_or-map (λ x. x.now) c.args.lists 0 _) at c.if-counts-f.true in
    let sum = rw (← get_or-map (λ x. x.now) c.args.lists 0 _) at c.sum_to_limit.ensures in
    rw (sum, to_limit) (sym (with_counts_lem c.args.f _ (e ∙ ap kind_number c.in-Anagrams.is) ∙ rw (eq-eqb _ _ many)))

pub returns-else-counts-f : goal.returns-else-counts-f
returns-else-counts-f c = λ e.
    let other = rw (← get_or-map (λ x. x.now) c.args.lists 0 _) at c.if-counts-f.false in
    rw (← get_or-map (λ x. x.now) c.args.lists 0 _, ne_eqb _ _ other) (sym (with_counts_lem c.args.f _ (e ∙ ap kind_number c.in-Anagrams.is) ∙ rw (ne_eqb _ _ other)))

pub returns-in_default : goal.returns-in_default
unfolding no_counts
returns-in_default c = λ e.
    rw (c.is_empty.ensures, ← get_or-map (λ x. x.now) c.args.lists 0 _) (sym (no_counts_lem c.args.f _ (λ two. other_kind c.args.kind c.in_default.not-Anagrams (sym e ∙ two))))
