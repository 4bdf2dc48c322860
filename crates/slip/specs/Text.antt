-- Everything that the program prints (SCOPE 7).
-- Assumes nothing.
use Rattle.std.specs.Prelude.{cond, ℕ, suc, ltb, eqb, length, take}
use Rattle.std.proofs.Math.Option.{Option, none, some}
use mathlib.Core.List.{List, [], ◌∷◌, ◌++◌, flat_map}
use Rattle.listings.specs.Bytes.{Bytes}
use Rattle.listings.specs.Calls.{COUNT}
use Rattle.families.specs.declared.Family.{Family}
use Rattle.families.specs.Table.{Lent, only_counts, plain_family}
use Rattle.families.specs.Families.{is_object, listing, count_of}
use Rattle.families.specs.Questions.{refusal}
use Rattle.columns.specs.Columns.{newline, column, justified}
use Rattle.columns.specs.Fields.{field_width}
use Rattle.grammar.specs.Grammar.{Slip, slip_of}
use Rattle.slip.specs.Sizes.{count_width, listed_at_most}

-- the words of the output, in ASCII: END (SCOPE 7.4)
abbrev pub word_end : Bytes
word_end = 69 ∷ 78 ∷ 68 ∷ []

-- MORE (SCOPE 7.5)
abbrev pub word_more : Bytes
word_more = 77 ∷ 79 ∷ 82 ∷ 69 ∷ []

-- MANY (SCOPE 7.4)
abbrev pub word_many : Bytes
word_many = 77 ∷ 65 ∷ 78 ∷ 89 ∷ []

-- REFUSED (SCOPE 7.7)
abbrev pub word_refused : Bytes
word_refused = 82 ∷ 69 ∷ 70 ∷ 85 ∷ 83 ∷ 69 ∷ 68 ∷ []

-- "kind, n, k in 4 columns each" (SCOPE 7.4)
unfoldable pub family_columns : Family → Bytes
family_columns f = column field_width f.kind ++ (column field_width f.n ++ column field_width f.k)

-- "It prints kind, n, k in 4 columns each and the count in 20" (SCOPE 7.4)
unfoldable pub first_line : Family → Bytes → Bytes
first_line f count = family_columns f ++ (count ++ (newline ∷ []))

-- "a line an object": its number "in 20 columns, each byte in 4" (SCOPE 7.4)
unfoldable pub object_line : ℕ → Bytes → Bytes
object_line r x = column count_width r ++ (flat_map (column field_width) x ++ (newline ∷ []))

-- the lines of these objects, with the numbers from r on
unfoldable pub object_lines : ℕ → List Bytes → Bytes
object_lines r [] = []
object_lines r (x ∷ l) = object_line r x ++ object_lines (suc r) l

-- "the line END, right-justified in 20 columns", with its word (SCOPE 7.4)
unfoldable pub last_line : Bytes → Bytes
last_line word = justified count_width word ++ (newline ∷ [])

-- "After the last comes the line END .. If more than 1,000 objects exist, 1,000 are listed and MORE stands for END" (SCOPE 7.4, 7.5)
-- s is "the number that the first object gets" (SCOPE 7.2)
unfoldable pub body : ℕ → List Bytes → Bytes
body s l = object_lines s (take listed_at_most l) ++ last_line (cond (ltb listed_at_most (length l)) word_more word_end)

-- the first line and the objects (SCOPE 7.4)
unfoldable pub listed_text : ℕ → Bytes → Family → Lent → Bytes
listed_text s count f b = first_line f count ++ body s (listing f b)

-- "Any other refusal prints only REFUSED and the number in 4 columns" (SCOPE 7.7)
unfoldable pub refused_text : ℕ → Bytes
refused_text q = word_refused ++ (column field_width q ++ (newline ∷ []))

-- by the number that refuses COUNT, if one does: the count, "the word MANY, right-justified, if refused by 5" (SCOPE 7.4), or another refusal (SCOPE 7.7)
unfoldable pub said : ℕ → Option ℕ → Family → Lent → Bytes
said s none f b = listed_text s (column count_width (count_of f b)) f b
said s (some q) f b = cond (eqb q 5) (listed_text s (justified count_width word_many) f b) (refused_text q)

-- the text of a family and what is lent beside it, by COUNT's questions, which ask nothing of a buffer (SCOPE 7.4)
unfoldable pub family_text : ℕ → Family → Lent → Bytes
family_text s f b = said s (refusal COUNT f b 0 (is_object f b [])) f b

-- the family of a slip: "kind, n, k" (SCOPE 7.2)
abbrev pub family_of : Slip → Family
family_of s = plain_family s.head.kind s.head.n s.head.k

-- what a slip lends beside it
abbrev pub lent_by : Slip → Lent
lent_by s = only_counts s.counts

-- "Number 9 is the program's: it asks before all of these whether the slip below is well formed" (SCOPE 4.9)
unfoldable pub text_of : Option Slip → Bytes
text_of none = refused_text 9
text_of (some s) = family_text s.head.start (family_of s) (lent_by s)

-- what the program prints for its input (SCOPE 7)
unfoldable pub output : Bytes → Bytes
output x = text_of (slip_of x)
