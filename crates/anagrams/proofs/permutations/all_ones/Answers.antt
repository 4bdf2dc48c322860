-- A front of a list of ones is one too.
use Rattle.std.proofs.Common.{refl}
use Rattle.basics.specs.Limits.{longest_object}
use Rattle.basics.proofs.Lists.{take-replicate}
use Rattle.anagrams.proofs.permutations.all_ones.Goals as goal

pub returns : goal.returns
returns c = (refl, λ n h. take-replicate longest_object n 1 h)
