-- Numbers and words in columns, right-justified with blanks, as bytes of ASCII (SCOPE 7.1, 7.4).
-- Assumes nothing.
use Rattle.std.specs.Prelude.{cond, [], ◌∷◌, ◌++◌, ℕ, zero, suc, ◌+◌, ◌-◌, ◌/◌, ◌%◌, eqb, length, replicate}
use Rattle.listings.specs.Bytes.{Bytes}

-- the blank of ASCII, what fills columns (SCOPE 7.1)
abbrev pub blank : ℕ
blank = 32

-- the newline of ASCII, at which lines end (SCOPE 7.2, 7.4)
abbrev pub newline : ℕ
newline = 10

-- "right-justified with blanks in 4 columns", "in 20 columns" (SCOPE 7.1, 7.4): a number's last w digits, and blanks where none is left
unfoldable pub column : ℕ → ℕ → Bytes
column zero n = []
column (suc w) n = cond (eqb (n / 10) 0) (replicate w blank) (column w (n / 10)) ++ ((48 + n % 10) ∷ [])

-- a word in w columns: "the line END, right-justified in 20 columns" (SCOPE 7.4)
unfoldable pub justified : ℕ → Bytes → Bytes
justified w s = replicate (w - length s) blank ++ s
