-- How long a slip's lines are, and the longest slip (SCOPE 7.2).
-- Assumes nothing.
use Rattle.std.specs.Prelude.{ℕ, ◌+◌, ◌*◌}
use Rattle.columns.specs.Fields.{field_width, largest_field}

-- a line of m fields, and its newline (SCOPE 7.2)
abbrev pub line_width : ℕ → ℕ
line_width m = field_width * m + 1

-- "kind, n, k in 4 columns each" (SCOPE 7.2, 7.4)
abbrev pub family_width : ℕ
family_width = field_width * 3

-- "a second line of n counts", where n is a field itself (SCOPE 7.2)
abbrev pub most_counts : ℕ
most_counts = largest_field

-- the longest slip: four numbers, and the longest second line
abbrev pub longest_slip : ℕ
longest_slip = line_width 4 + line_width most_counts
