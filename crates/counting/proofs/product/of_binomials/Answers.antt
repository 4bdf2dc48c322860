-- `counting::product::of_binomials` meets its contract: each letter keeps the number of words, and what passes 2^64 on the way is at most the whole count.
use Rattle.std.proofs.Common.{arith}
use Rattle.counting.proofs.Products.{letter, no_letter, short, factor_stop, product_stop, letter_more, all_letters}
use Rattle.counting.proofs.product.of_binomials.Goals as goal

pub loop-c-init : goal.loop-c-init
loop-c-init c = rw (c.into_iter-c-iterator.ensures.into_iter_gives, c.rev-c-items.ensures.source, c.iter.ensures.rest) (no_letter _)

pub overflow_add-length : goal.overflow_add-length
overflow_add-length c = record { fits = omega (arith, short (letter c.next.new.self.iter.rest.now c.loop-c.invariant c.in-Some.ensures.steps c.from-places.ensures) c.requires) }

pub ways_out_of-requires : goal.ways_out_of-requires
ways_out_of-requires c = short (letter c.next.new.self.iter.rest.now c.loop-c.invariant c.in-Some.ensures.steps c.from-places.ensures) c.requires

pub returns-in_err-ways_out_of : goal.returns-in_err-ways_out_of
returns-in_err-ways_out_of c = rw c.from_residual.ensures (factor_stop (letter c.next.new.self.iter.rest.now c.loop-c.invariant c.in-Some.ensures.steps c.from-places.ensures) c.in_err-ways_out_of.ensures)

pub returns-in_err-words : goal.returns-in_err-words
returns-in_err-words c = rw c.from_residual-in_err-words.ensures (product_stop (letter c.next.new.self.iter.rest.now c.loop-c.invariant c.in-Some.ensures.steps c.from-places.ensures) c.in_ok-ways_out_of.ensures.1 c.in_err-words.ensures)

pub loop-c-preserved : goal.loop-c-preserved
loop-c-preserved c = letter_more (letter c.next.new.self.iter.rest.now c.loop-c.invariant c.in-Some.ensures.steps c.from-places.ensures) c.in_ok-ways_out_of.ensures.1 c.in_ok-words.ensures

pub returns : goal.returns
returns c = all_letters c.loop-c.invariant c.in-None.ensures.steps.0
