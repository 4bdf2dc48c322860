-- The step on the trees is the step on their words.
use Rattle.dyck_words.proofs.Neighbours.{said}
use Rattle.dyck_words.proofs.stepping.step_word.Goals as goal

pub returns : goal.returns
returns c = said c.args.up c.args.n c.args.object.now c.requires.object_value c.step.result c.step.new.object c.step.ensures
