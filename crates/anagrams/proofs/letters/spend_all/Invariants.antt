-- The word passes if its rest passes with the letters that are left.
use Rattle.std.proofs.Common.{◌≡◌, drop}
use Rattle.anagrams.specs.Objects.{is_anagram}
use Rattle.anagrams.proofs.letters.spend_all.Given as goal

abbrev pub invariant-loop-letter : goal.invariant-loop-letter
invariant-loop-letter l = is_anagram l.fn.left l.object ≡ is_anagram l.left (drop l.letter-index l.object)
