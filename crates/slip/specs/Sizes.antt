-- How many objects are listed at most, and how long the lines and the longest text are (SCOPE 7).
-- Assumes nothing.
use Rattle.std.specs.Prelude.{ℕ, ◌+◌, ◌*◌}
use Rattle.basics.specs.Limits.{longest_object}
use Rattle.columns.specs.Fields.{field_width}
use Rattle.grammar.specs.Sizes.{family_width}

-- "the count in 20", "rank in 20 columns", "the line END, right-justified in 20 columns" (SCOPE 7.4)
abbrev pub count_width : ℕ
count_width = 20

-- "1,000 are listed" (SCOPE 7.5)
abbrev pub listed_at_most : ℕ
listed_at_most = 1000

-- "kind, n, k in 4 columns each and the count in 20", and the newline (SCOPE 7.4)
abbrev pub first_line_width : ℕ
first_line_width = family_width + (count_width + 1)

-- "rank in 20 columns, each byte in 4", for an object of so many bytes, and the newline (SCOPE 7.4)
abbrev pub object_line_width : ℕ → ℕ
object_line_width m = count_width + (field_width * m + 1)

-- "the line END", or MORE, and the newline (SCOPE 7.4, 7.5)
abbrev pub last_line_width : ℕ
last_line_width = count_width + 1

-- "REFUSED and the number in 4 columns", and the newline (SCOPE 7.7)
abbrev pub refused_width : ℕ
refused_width = 7 + (field_width + 1)

-- the longest text behind the first line
abbrev pub longest_body : ℕ
longest_body = object_line_width longest_object * listed_at_most + last_line_width

-- the longest text
abbrev pub largest : ℕ
largest = first_line_width + longest_body
