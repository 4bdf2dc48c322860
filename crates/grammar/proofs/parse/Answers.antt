-- `grammar::parse` meets its contract: the three numbers and the counts behind them are the slip.
use Rattle.std.proofs.Common.{◌*◌, take, drop, length-take, sym, arith}
use Rattle.columns.specs.Fields.{field_width}
use Rattle.columns.specs.Inner.Writing.{value_as}
use Rattle.columns.proofs.FieldLaws.{field_small}
use Rattle.grammar.specs.Grammar.{with_counts}
use Rattle.grammar.specs.Inner.Reading.{opened_as, parsed_as}
use Rattle.grammar.proofs.SlipLaws.{slip_read}
use Rattle.grammar.proofs.parse.Goals as goal

pub second_line-requires-clause-n_le_most_counts : goal.second_line-requires-clause-n_le_most_counts
unfolding value_as
second_line-requires-clause-n_le_most_counts c = field_small (take field_width (drop (field_width * 1) c.args.input.now)) _ (simp length-take (omega arith)) (sym c.in_ok-number_at-2.ensures)

pub returns-in_err-counts-clause-input_value : goal.returns-in_err-counts-clause-input_value
unfolding value_as opened_as parsed_as with_counts
returns-in_err-counts-clause-input_value c =
    rw c.from_residual-in_err-counts.ensures
    (slip_read c.args.input.now _ _ c.in_ok-line.ensures.input_value (sym c.in_ok-number_at.ensures) (sym c.in_ok-number_at-2.ensures) (sym c.in_ok-number_at-3.ensures) c.in_err-counts.ensures.rest_value)

pub returns-clause-input_value : goal.returns-clause-input_value
unfolding value_as opened_as parsed_as with_counts
returns-clause-input_value c =
    slip_read c.args.input.now _ _ c.in_ok-line.ensures.input_value (sym c.in_ok-number_at.ensures) (sym c.in_ok-number_at-2.ensures) (sym c.in_ok-number_at-3.ensures) c.in_ok-counts.ensures.rest_value
