-- The laws of the counts that the families cite, under one roof: the rules by which counts are built, and that a count that fits bounds
-- the counts below it. Assumes nothing.

-- Pascal's rule: choose (n + 1) (k + 1) ≡ choose n k + choose n (k + 1); the sum over the largest element; where the number is 0, 1 and positive; larger n, larger number
pub use Rattle.numbers.proofs.Binomials.{pascal, choose-sum, choose-zero, choose-none, choose_all, choose-positive, choose_grows, choose_grows_both, choose_mono}
-- one letter less, times the length, is the multinomial times that letter's count; the sum over the letters; a permutation has every letter
-- once; fewer letters, no larger number
pub use Rattle.numbers.proofs.Multinomials.{total_less, one_less_lem, over_letters, multinomial_ones, total-ones, multinomial_positive, one_less-le, drop_le, letter_left, letter_has, has_letter, letters_total, one_empty, one_less-set, length-one_less, left-inside}
pub use Rattle.numbers.proofs.Factorials.{factorial_rule, factorial_grows, factorial_mono}
-- Stirling's recursion: a model alone in its block, or in one of the k blocks of the others
pub use Rattle.numbers.proofs.Stirlings.{stirling_rule, stirling_corner, stirling_zero, stirling_none, stirling_positive, stirling_grows, stirling_grows_both}
-- the partitions' recursion by the last part with a floor; parts at least f by a shift of f - 1; the floor one up; higher floor, fewer partitions
pub use Rattle.numbers.proofs.PartitionLaws.{by_last_part, too_few, shift, floor_shift, next_floor, partitions_rule, partitions_corner, partitions_none, partitions_zero, nothing, no_parts, parts_positive, last_part_le, floor_le, floor_mono}
-- Catalan's convolution, and that each product in it is at most the whole
pub use Rattle.numbers.proofs.Catalans.{convolution, product_le, catalan_zero, catalan_positive, catalan_grows, catalan_mono}
-- the derangements' recursion, that both its terms are at most the whole, and that 1 alone has none
pub use Rattle.numbers.proofs.Derangements.{derangement_rule, derangement_zero, derangement_one, derangement_grows, derangement_positive, derangement_mono}
