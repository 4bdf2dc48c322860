-- The letters that are lent are those of a permutation.
use Rattle.std.proofs.Common.{arith, length}
use Rattle.anagrams.proofs.Facts.{each_once}
use Rattle.anagrams.proofs.permutations.first.Goals as goal

pub first-requires : goal.first-requires
first-requires c = let n = length c.args.object.now in each_once n _ c.requires (c.all_ones.ensures.1 n (omega arith))
