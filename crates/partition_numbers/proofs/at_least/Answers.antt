-- `partition_numbers::at_least` meets its contract: the count with the floor shifted down to 1.
use Rattle.std.proofs.Common.{◌≡◌, ℕ, suc, ◌*◌, ◌-◌, ◌≤◌, ◌<◌, ◌∙◌, sym, arith, mul-le-mul_left}
use Rattle.numbers.specs.Numbers.{parts_from, partitions_of}
use Rattle.numbers.proofs.Laws.{floor_shift, too_few}
use Rattle.partition_numbers.proofs.at_least.Goals as goal

pub returns-then-n-off : goal.returns-then-n-off
returns-then-n-off c =
    let a = c.args in
    let less : a.floor - 1 ≤ a.floor = omega arith in
    sym (too_few a.floor a.n a.k (omega (arith, mul-le-mul_left a.k less)))

-- parts of at least p are as many as parts of any size with the sum that is left
at_least_one : (p n k : ℕ) → 0 < p → k * (p - 1) ≤ n → partitions_of (n - k * (p - 1)) k ≡ parts_from p n k
at_least_one p n k pos h = let back : suc (p - 1) ≡ p = omega arith in rw (← floor_shift (p - 1) n k h, back)

pub returns : goal.returns
returns c = c.partitions.ensures ∙ at_least_one c.args.floor c.args.n c.args.k (omega arith) (omega arith)
