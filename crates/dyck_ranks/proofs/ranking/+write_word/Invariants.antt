-- The measure of `ranking::write_word`: the branches.
use Rattle.dyck_ranks.proofs.ranking.+write_word.Given as goal

abbrev pub decreases-write_word : goal.decreases-write_word
decreases-write_word l = l.n
