-- `partition_numbers::partitions` meets its contract: an even column as it is stored, an odd one by the rule from the next.
use Rattle.std.proofs.Common.{◌≡◌, ℕ, zero, suc, eqb, ◌∙◌, sym, arith}
use Rattle.std.proofs.Math.Dec.{eqb-suc-zero}
use mir.Val.{bool_byte}
use Rattle.numbers.specs.Numbers.{partitions_of}
use Rattle.numbers.proofs.PartitionLaws.{partitions_none, partitions_zero, partitions_corner}
use Rattle.partition_numbers.proofs.Rules.{one_read, two_reads}
use Rattle.partition_numbers.proofs.partitions.Goals as goal

pub returns-then-n-k : goal.returns-then-n-k
returns-then-n-k c = sym (partitions_none c.args.n c.args.k c.if-n-k.true)

pub returns-then-e-k : goal.returns-then-e-k
returns-then-e-k c = c.number-v.ensures ∙ one_read c.args.n c.args.k (omega arith) c.if-e-k.true

pub overflow_sub-result : goal.overflow_sub-result
overflow_sub-result c = omega (arith, c.number.ensures, c.number-v.ensures, two_reads c.args.n c.args.k (omega arith) (omega arith))

pub returns-then-k-eq1 : goal.returns-then-k-eq1
returns-then-k-eq1 c = omega (arith, c.number.ensures, c.number-v.ensures, two_reads c.args.n c.args.k (omega arith) (omega arith))

-- only 0 is a sum of no parts
no_parts : (n : ℕ) → bool_byte (eqb n 0) ≡ partitions_of n 0
no_parts zero = sym partitions_corner
no_parts (suc n) = rw (eqb-suc-zero n) (sym (partitions_zero (suc n) (omega arith)))

pub returns-then-k-eq0 : goal.returns-then-k-eq0
returns-then-k-eq0 c = rw (c.from.ensures, c.if-k-eq0.true) (no_parts c.args.n)
