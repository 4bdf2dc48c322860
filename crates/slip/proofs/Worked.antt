-- The worked output of paper 01 is what the definitions say, byte for byte, by computation: of its slip with a fourth field 0, and earlier of its slip.
-- Assumes nothing.
use mathlib.Core.Path.{◌≡◌, refl}
use mathlib.Core.List.{[], ◌∷◌, ◌++◌, flat_map}
use Rattle.basics.specs.Sums.{range}
use Rattle.listings.specs.Bytes.{Bytes}
use Rattle.listings.specs.Calls.{first_no}
use Rattle.subsets.specs.Listing.{subsets}
use Rattle.families.specs.Table.{no_counts}
use Rattle.families.specs.Families.{row, is_kind, in_table, floor_fits, edition_fits, lists_fit, asked_of_all, all_yes, allowed, listing, count_of}
use Rattle.families.specs.Questions.{asked, is_in, put, opening, closing_for, refusal}
use Rattle.columns.specs.Columns.{column, justified}
use Rattle.columns.specs.Fields.{digits, field}
use Rattle.grammar.specs.Grammar.{cons_field, fields, line, fields_on, start_of, head_of, counts_on, second_line, handed_on, with_counts, slip_with, slip_from, slip_of}
use Rattle.slip.specs.Text.{family_columns, first_line, object_line, object_lines, last_line, body, listed_text, said, family_text, text_of, output}
use Rattle.slip.specs.Earlier.{with_start}

-- the slip `   1   4   2` and its newline
abbrev pub worked_slip : Bytes
worked_slip = 32 ∷ 32 ∷ 32 ∷ 49 ∷ 32 ∷ 32 ∷ 32 ∷ 52 ∷ 32 ∷ 32 ∷ 32 ∷ 50 ∷ 10 ∷ []

-- "it prints in full": a list for each line
abbrev pub worked_text : Bytes
worked_text =
    (32 ∷ 32 ∷ 32 ∷ 49 ∷ 32 ∷ 32 ∷ 32 ∷ 52 ∷ 32 ∷ 32 ∷ 32 ∷ 50 ∷ 32 ∷ 32 ∷ 32 ∷ 32 ∷ 32 ∷ 32 ∷ 32 ∷ 32 ∷ 32 ∷ 32 ∷ 32 ∷ 32 ∷ 32 ∷ 32 ∷ 32 ∷ 32 ∷ 32 ∷ 32 ∷ 32 ∷ 54 ∷ 10 ∷ [])
    ++ ((32 ∷ 32 ∷ 32 ∷ 32 ∷ 32 ∷ 32 ∷ 32 ∷ 32 ∷ 32 ∷ 32 ∷ 32 ∷ 32 ∷ 32 ∷ 32 ∷ 32 ∷ 32 ∷ 32 ∷ 32 ∷ 32 ∷ 48 ∷ 32 ∷ 32 ∷ 32 ∷ 49 ∷ 32 ∷ 32 ∷ 32 ∷ 50 ∷ 10 ∷ [])
    ++ ((32 ∷ 32 ∷ 32 ∷ 32 ∷ 32 ∷ 32 ∷ 32 ∷ 32 ∷ 32 ∷ 32 ∷ 32 ∷ 32 ∷ 32 ∷ 32 ∷ 32 ∷ 32 ∷ 32 ∷ 32 ∷ 32 ∷ 49 ∷ 32 ∷ 32 ∷ 32 ∷ 49 ∷ 32 ∷ 32 ∷ 32 ∷ 51 ∷ 10 ∷ [])
    ++ ((32 ∷ 32 ∷ 32 ∷ 32 ∷ 32 ∷ 32 ∷ 32 ∷ 32 ∷ 32 ∷ 32 ∷ 32 ∷ 32 ∷ 32 ∷ 32 ∷ 32 ∷ 32 ∷ 32 ∷ 32 ∷ 32 ∷ 50 ∷ 32 ∷ 32 ∷ 32 ∷ 50 ∷ 32 ∷ 32 ∷ 32 ∷ 51 ∷ 10 ∷ [])
    ++ ((32 ∷ 32 ∷ 32 ∷ 32 ∷ 32 ∷ 32 ∷ 32 ∷ 32 ∷ 32 ∷ 32 ∷ 32 ∷ 32 ∷ 32 ∷ 32 ∷ 32 ∷ 32 ∷ 32 ∷ 32 ∷ 32 ∷ 51 ∷ 32 ∷ 32 ∷ 32 ∷ 49 ∷ 32 ∷ 32 ∷ 32 ∷ 52 ∷ 10 ∷ [])
    ++ ((32 ∷ 32 ∷ 32 ∷ 32 ∷ 32 ∷ 32 ∷ 32 ∷ 32 ∷ 32 ∷ 32 ∷ 32 ∷ 32 ∷ 32 ∷ 32 ∷ 32 ∷ 32 ∷ 32 ∷ 32 ∷ 32 ∷ 52 ∷ 32 ∷ 32 ∷ 32 ∷ 50 ∷ 32 ∷ 32 ∷ 32 ∷ 52 ∷ 10 ∷ [])
    ++ ((32 ∷ 32 ∷ 32 ∷ 32 ∷ 32 ∷ 32 ∷ 32 ∷ 32 ∷ 32 ∷ 32 ∷ 32 ∷ 32 ∷ 32 ∷ 32 ∷ 32 ∷ 32 ∷ 32 ∷ 32 ∷ 32 ∷ 53 ∷ 32 ∷ 32 ∷ 32 ∷ 51 ∷ 32 ∷ 32 ∷ 32 ∷ 52 ∷ 10 ∷ [])
    ++ ((32 ∷ 32 ∷ 32 ∷ 32 ∷ 32 ∷ 32 ∷ 32 ∷ 32 ∷ 32 ∷ 32 ∷ 32 ∷ 32 ∷ 32 ∷ 32 ∷ 32 ∷ 32 ∷ 32 ∷ 69 ∷ 78 ∷ 68 ∷ 10 ∷ []))))))))

pub worked : output (with_start 0 worked_slip) ≡ worked_text
unfolding refusal opening closing_for first_no put asked is_in is_kind in_table floor_fits edition_fits lists_fit asked_of_all all_yes allowed row no_counts listing count_of flat_map range subsets column justified digits field cons_field fields line fields_on start_of head_of counts_on second_line handed_on with_counts slip_with slip_from slip_of family_columns first_line object_line object_lines last_line body listed_text said family_text text_of output
worked = refl
