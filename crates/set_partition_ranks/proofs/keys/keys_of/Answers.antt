-- `set_partition_ranks::keys::keys_of` meets its contract: a key more is stored.
use Rattle.std.proofs.Common.{◌≡◌, ◌∙◌, max, get_or, length-set, arith}
use Rattle.set_partition_ranks.proofs.KeyReading.{key_stored}
use Rattle.set_partition_ranks.proofs.keys.keys_of.Goals as goal
use Rattle.set_partition_ranks.proofs.keys.keys_of.Goals.{then-used-block, else-used-block}

pub loop-i-preserved : goal.loop-i-preserved
loop-i-preserved c =
    let l = c.loop-i in
    let most : c.if-used-block.used ≡ max l.used (get_or c.args.object.now l.i 0) = elim c.if-used-block.branch [ then-used-block w ↦ omega arith | else-used-block w ↦ omega arith ] in
    (simp length-set l.invariant.0, l.invariant.1 ∙ key_stored l.used l.i c.args.object.now l.keys c.loop-i-test.true (omega (arith, c.loop-i-test.true, c.requires, l.invariant.0)) ∙ rw (c.key_of.ensures, most))
