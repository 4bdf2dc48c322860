-- `last`: what the two fills leave is the last partition.
use Rattle.std.proofs.Common.{◌≡◌, ◌+◌, ◌/◌, ◌%◌, ◌<◌, ◌≤◌, length, replicate, arith}
use native.Mathlib.Nat.{mod-lt}
use lib.Seq.{length-take-le}
use Rattle.integer_partitions.proofs.Places.{last_is}
use Rattle.integer_partitions.proofs.last.Goals as goal

pub returns : goal.returns
returns c =
    let n = c.args.n in
    let k = length c.args.object.now in
    let some : 0 < k = omega arith in
    let within : n % k ≤ length c.fill.new.self = omega (arith, c.fill.ensures.len, mod-lt n some) in
    let all : c.fill.new.self ≡ replicate k (n / k) = c.fill.ensures.after (λ y e. e) in
    let larger : c.fill-2.new.self ≡ replicate (n % k) (n / k + 1) = rw (length-take-le (n % k) c.fill.new.self within) at (c.fill-2.ensures.after (λ y e. e)) in
    rw (larger, all) (last_is c.args.floor n k some (omega arith))
