-- The copy has the same derangement, and its place is how many come before it.
use Rattle.std.proofs.Common.{sym}
use Rattle.listings.proofs.Ranks.{place-is_rank}
use Rattle.derangements.proofs.Theorem.{lists}
use Rattle.derangement_ranks.proofs.rank.Goals as goal

pub returns : goal.returns
returns c = sym (place-is_rank (lists _) _ (rw c.copied-bytes.ensures.1 at c.rank_of.ensures))
