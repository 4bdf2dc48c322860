-- Between the brackets and behind them stand the trees that start over.
use Rattle.std.proofs.Common.{◌∷◌, ◌++◌, ◌∙◌, arith}
use mathlib.Core.Path.{ap₂}
use Rattle.listings.specs.Bytes.{Bytes}
use Rattle.dyck_words.specs.Trees.{word}
use Rattle.dyck_words.proofs.Lent.{inside-length, laid}
use Rattle.dyck_words.proofs.stepping.write_parts.Goals as goal

pub returns : goal.returns
unfolding word
returns c a b e long =
    let x = c.args.object.now in
    let l = laid x c.start_over.new.object c.args.close c.requires.0 c.requires.1 c.start_over.auto.object in
    l.whole c.start_over-2.new.object
    ∙ ap₂ (λ (v w : Bytes). 1 ∷ (v ++ (0 ∷ w))) (c.start_over.ensures a (inside-length x c.args.close c.requires.1 ∙ omega arith)) (c.start_over-2.ensures b (l.rest_lent ∙ omega arith))
