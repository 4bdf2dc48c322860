-- `grammar::lines::first_line` meets its contract; that a fourth field says 2 or more needs its number.
use Rattle.std.proofs.Common.{sym, arith, rules}
use Rattle.columns.specs.Inner.Writing.{value_as}
use Rattle.grammar.specs.Inner.Reading.{opened_as}
use Rattle.grammar.proofs.SlipLaws.{four_on, slip_other}
use Rattle.grammar.proofs.lines.first_line.Goals as goal

pub returns-then-start-gt1-clause-input_value : goal.returns-then-start-gt1-clause-input_value
unfolding value_as opened_as
returns-then-start-gt1-clause-input_value c = let x = c.args.input.now in slip_other x (four_on x (search rules)) (sym c.in_ok-start.ensures) (omega arith)
