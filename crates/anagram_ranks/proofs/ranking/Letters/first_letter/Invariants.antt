-- The words that start with a letter in front of `place` fit into the rank.
use Rattle.std.proofs.Common.{◌≡◌, ◌*◌, ◌/◌, ◌≤◌, take}
use Rattle.basics.specs.Sums.{total}
use Rattle.anagram_ranks.proofs.ranking.Letters.first_letter.Given as goal

abbrev pub invariant-loop-place : goal.invariant-loop-place
invariant-loop-place l = record {
  sum : l.letters ≡ total (take l.place l.self.counts.now);
  share : l.earlier ≡ l.self.words * total (take l.place l.self.counts.now) / l.self.size;
  fit : l.earlier ≤ l.rank;
}
