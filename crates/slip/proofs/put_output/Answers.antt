-- `slip::put_output` meets its contract: a malformed slip is refused, and a slip's family is listed.
use Rattle.grammar.specs.Inner.Reading.{parsed_as}
use Rattle.slip.specs.Text.{text_of, output}
use Rattle.slip.proofs.put_output.Goals as goal

pub returns-in_default : goal.returns-in_default
unfolding parsed_as text_of output
returns-in_default c = rw c.in_default.ensures.input_value c.put_refused.ensures

pub returns : goal.returns
unfolding parsed_as text_of output
returns c = rw c.in-Some.ensures.input_value (rw (c.plain_family-f.ensures, c.only_counts.ensures) at c.put_text.ensures)
