-- `stirling_rows::both` meets its contract: the ends of a row by their laws, and the others by the test.
use Rattle.std.proofs.Common.{◌≡◌, ◌∙◌, ◌-◌, ◌≤◌, ◌<◌, sym, ap, get_or, ℕ, arith}
use Rattle.numbers.specs.Numbers.{stirling_of}
use Rattle.numbers.proofs.Stirlings.{stirling_all, stirling_zero, stirling_one}
use Rattle.stirling_rows.specs.declared.literals.TheConstants.{NUMBERS}
use Rattle.stirling_rows.specs.Inner.Stored.{last_row}
use Rattle.stirling_rows.proofs.Ends.{all_but_one}
use Rattle.stirling_rows.proofs.Tested.{place, there}
use Rattle.stirling_rows.proofs.both.Goals as goal

-- one place before stands the number of one block fewer
before : (n k : ℕ) → n ≤ last_row → 3 ≤ k → k < n → get_or NUMBERS (place n k - 1) 0 ≡ stirling_of n (k - 1)
before n k h some fewer =
    let back : place n k - 1 ≡ place n (k - 1) = omega arith in
    ap (λ i. get_or NUMBERS i 0) back ∙ there n (k - 1) h (omega arith) (omega arith)

pub returns-then-k-eq1-clause-fewer : goal.returns-then-k-eq1-clause-fewer
returns-then-k-eq1-clause-fewer c = rw c.if-k-eq1.true (sym (stirling_zero c.args.n (omega arith)))

pub returns-then-k-eq1-clause-same : goal.returns-then-k-eq1-clause-same
returns-then-k-eq1-clause-same c = rw c.if-k-eq1.true (sym (stirling_one c.args.n (omega arith)))

pub returns-then-k-n-clause-fewer : goal.returns-then-k-n-clause-fewer
returns-then-k-n-clause-fewer c = rw c.if-k-n.true (all_but_one c.args.n (omega arith))

pub returns-then-k-n-clause-same : goal.returns-then-k-n-clause-same
returns-then-k-n-clause-same c = rw c.if-k-n.true (sym (stirling_all c.args.n))

pub returns-then-k-eq2-clause-fewer : goal.returns-then-k-eq2-clause-fewer
returns-then-k-eq2-clause-fewer c = rw c.if-k-eq2.true (sym (stirling_one c.args.n (omega arith)))

pub returns-then-k-eq2-clause-same : goal.returns-then-k-eq2-clause-same
returns-then-k-eq2-clause-same c = rw c.place-at.ensures.value (there c.args.n c.args.k (omega arith) (omega arith) (omega (arith, c.if-k-n.false)))

pub returns-clause-fewer : goal.returns-clause-fewer
returns-clause-fewer c = rw c.place-at.ensures.value (before c.args.n c.args.k (omega arith) (omega (arith, c.if-k-eq1.false, c.if-k-eq2.false)) (omega (arith, c.if-k-n.false)))

pub returns-clause-same : goal.returns-clause-same
returns-clause-same c = rw c.place-at.ensures.value (there c.args.n c.args.k (omega arith) (omega (arith, c.if-k-eq1.false)) (omega (arith, c.if-k-n.false)))
