-- The rest moves; or the inside does, and the rest starts over; or the inside changes its size.
use Rattle.std.proofs.Common.{◌≡◌, ℕ, Bool, false, eqb, length, get_or, sym, ◌∙◌, arith}
use borrow.Author.Tests.{eqb-false}
use Rattle.listings.specs.Bytes.{Bytes}
use Rattle.listings.specs.declared.Step.TheVariants.{Moved}
use Rattle.dyck_words.specs.Trees.{Tree, word}
use Rattle.dyck_words.specs.Inner.Moves.{Parts, AtEdge}
use Rattle.dyck_words.specs.Inner.Reading.{RowsTold}
use Rattle.dyck_words.proofs.Lent.{with_rest, parted, whole_long, rest_lent, rest_long, rest_told, inside-lent, inside_part_long, inside-told}
use Rattle.dyck_words.proofs.Steps.{of_any, rest_moved, rest_stayed, inside-moved, inside-stayed}
use Rattle.dyck_words.proofs.stepping.+step.Goals as goal
use Rattle.dyck_words.proofs.stepping.+step.Goals.{In-End}

-- the word's inside and rest
parts : {x rows : Bytes} {b : Bool} → (t : Tree) × (x ≡ word t) → RowsTold x rows → b ≡ eqb (length x) 0 → b ≡ false → (i : Tree) × (r : Tree) × Parts x (get_or rows 1 0) i r
parts {x} spelled told tested some = parted spelled told (eqb-false (length x) 0 (sym tested ∙ some))

-- the rest was asked, and stands at the edge
rest_at_edge : (t : ℕ) (c : In-End t) → let x = c.args.object.now in let len = get_or c.args.rows.now 1 0 in
    (i : Tree) × (r : Tree) × Parts x len i r × Parts (with_rest x len c.step.new.object) len i r × AtEdge c.args.up r
rest_at_edge t c =
    let (i, r, p) = parts c.requires.object_value c.requires.rows_told c.is_empty.ensures c.if-is_empty.false in
    let (q, h) = rest_stayed c.args.up p (rw c.in-End.is at (c.step.ensures r (rest_lent p))) in
    (i, r, p, q, h)

pub step-requires : goal.step-requires
step-requires t c =
    let (i, r, p) = parts c.requires.object_value c.requires.rows_told c.is_empty.ensures c.if-is_empty.false in
    (omega (arith, c.decreases, rest_long p, whole_long p), ((r, rest_lent p), rest_told p c.requires.rows_told))

pub returns-in_default : goal.returns-in_default
returns-in_default t c =
    let (i, r, p) = parts c.requires.object_value c.requires.rows_told c.is_empty.ensures c.if-is_empty.false in
    of_any c.args.up p Moved _ (rest_moved c.args.up p (rw c.in_default.is at (c.step.ensures r (rest_lent p))))

pub step-requires-2 : goal.step-requires-2
step-requires-2 t c =
    let (i, r, p, q, h) = rest_at_edge t (goal.at.step-requires-2 t c).In-End in
    (omega (arith, c.decreases, inside_part_long q, whole_long p), ((i, inside-lent q), inside-told q (q.whole ∙ sym p.whole) c.requires.rows_told))

pub resize_inside-requires : goal.resize_inside-requires
resize_inside-requires t c =
    let (i, r, p, q, h) = rest_at_edge t (goal.at.resize_inside-requires t c).In-End in
    (i, r, (inside-stayed c.args.up q c.step-2.auto.object (rw c.in_default-step.is at (c.step-2.ensures i (inside-lent q)))).0)

pub returns-in_default-step : goal.returns-in_default-step
returns-in_default-step t c =
    let (i, r, p, q, h) = rest_at_edge t (goal.at.returns-in_default-step t c).In-End in
    let (v, k) = inside-stayed c.args.up q c.step-2.auto.object (rw c.in_default-step.is at (c.step-2.ensures i (inside-lent q))) in
    of_any c.args.up p c.resize_inside.result c.resize_inside.new.object (c.resize_inside.ensures i r v k h)

pub returns : goal.returns
returns t c =
    let (i, r, p, q, h) = rest_at_edge t (goal.at.returns t c).In-End in
    of_any c.args.up p Moved _ (inside-moved c.args.up q h c.step-2.auto.object (rw c.in-Moved.is at (c.step-2.ensures i (inside-lent q))) c.start_over.ensures)
