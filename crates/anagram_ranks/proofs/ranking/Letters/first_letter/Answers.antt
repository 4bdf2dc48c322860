-- No words start before the first letter, and one letter more is counted.
use Rattle.std.proofs.Common.{arith, refl, take, ◌≡◌, ◌+◌}
use Rattle.std.proofs.Math.Nat.{mul-zero, zero-div}
use Rattle.basics.specs.Sums.{total}
use Rattle.basics.proofs.Totals.{total-take-le, total_take_more}
use Rattle.anagram_ranks.proofs.ranking.Letters.first_letter.Goals as goal

pub loop-place-init : goal.loop-place-init
unfolding total
loop-place-init c = record { sum = refl; share = rw (mul-zero, zero-div); fit = omega arith }

pub share-through-requires : goal.share-through-requires
share-through-requires c =
    let counts = c.args.self.now.counts.now in
    let i = c.loop-place.place in
    let more = total_take_more counts i (omega arith) in
    (omega (arith, total-take-le counts (i + 1)), omega arith)

pub returns-then-rank-through-clause-rank_bound : goal.returns-then-rank-through-clause-rank_bound
returns-then-rank-through-clause-rank_bound c =
    let counts = c.args.self.now.counts.now in
    let i = c.loop-place.place in
    let more : c.loop-place.letters + c.from-letters.result ≡ total (take (i + 1) counts) = omega (arith, total_take_more counts i (omega arith)) in
    omega (arith, rw more at c.share-through.ensures)

pub loop-place-preserved : goal.loop-place-preserved
loop-place-preserved c =
    let counts = c.args.self.now.counts.now in
    let i = c.loop-place.place in
    let more : c.loop-place.letters + c.from-letters.result ≡ total (take (i + 1) counts) = omega (arith, total_take_more counts i (omega arith)) in
    record { sum = more; share = rw more at c.share-through.ensures; fit = omega arith }
