-- The kinds of the code, by their numbers (SCOPE 1.1 to 1.7).
-- Assumes nothing.
use Rattle.std.specs.Prelude.{ℕ}
use Rattle.families.specs.declared.kind.Kind.{Kind}

abbrev pub kind_number : Kind → ℕ
kind_number Kind.Subsets = 1
kind_number Kind.Anagrams = 2
kind_number Kind.Permutations = 3
kind_number Kind.SetPartitions = 4
kind_number Kind.IntegerPartitions = 5
kind_number Kind.DyckWords = 6
kind_number Kind.Derangements = 7
