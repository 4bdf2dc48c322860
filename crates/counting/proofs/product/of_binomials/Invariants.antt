-- `counting::product::of_binomials`: the words of the letters behind those that are left, how many and how long.
use Rattle.counting.proofs.Products.{Words}
use Rattle.counting.proofs.product.of_binomials.Given as goal

abbrev pub invariant-loop-c : goal.invariant-loop-c
invariant-loop-c l = Words l.counts l.c-iterator.iter.rest.now l.words l.length
