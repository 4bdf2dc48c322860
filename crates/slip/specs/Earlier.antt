-- What the program printed when its numbers started at 0 and no slip had a fourth field: the definitions of that time, to the letter, where they have
-- changed since. Below them the words in which `archive`, `by_one` and `other_start` (proofs/Start.antt) compare. No contract goes by any of these.
-- Assumes nothing.
use Rattle.std.specs.Prelude.{◌≡◌, ◌⊎◌, cond, List, [], ◌∷◌, ◌++◌, ℕ, suc, ◌+◌, ltb, eqb, length, get_or, take, drop}
use Rattle.std.proofs.Math.Option.{Option, none, some}
use Rattle.listings.specs.Bytes.{Bytes}
use Rattle.listings.specs.Calls.{COUNT}
use Rattle.families.specs.declared.Family.{Family}
use Rattle.families.specs.Table.{Lent, only_counts, plain_family}
use Rattle.families.specs.Families.{is_object, listing, count_of}
use Rattle.families.specs.Questions.{refusal}
use Rattle.columns.specs.Columns.{column, justified}
use Rattle.columns.specs.Fields.{field_width, field}
use Rattle.grammar.specs.Grammar.{line, second_line, handed_on}
use Rattle.grammar.specs.Sizes.{line_width, family_width}
use Rattle.slip.specs.Sizes.{count_width, listed_at_most, first_line_width, last_line_width}
use Rattle.slip.specs.Text.{word_end, word_more, word_many, first_line, object_line, object_lines, last_line, refused_text}

-- what a slip says: a family, with the counts lent beside it (SCOPE 7.2)
pub record Slip : Type 0 where
  pub family : Family
  pub counts : List ℕ

-- the numbers of the first line as a family (SCOPE 7.2)
unfoldable pub family_of : List ℕ → Family
family_of vs = plain_family (get_or vs 0 0) (get_or vs 1 0) (get_or vs 2 0)

-- "for kind 2 .. n counts" (SCOPE 7.2)
unfoldable pub counts_on : Family → ℕ
counts_on f = cond (eqb f.kind 2) f.n 0

-- the slip of a family and its counts, where these are well formed
unfoldable pub with_counts : Family → Option (List ℕ) → Option Slip
with_counts f none = none
with_counts f (some cs) = some (record { family = f; counts = cs })

-- the slip of a family, by what stands behind the first line
unfoldable pub slip_with : Family → Bytes → Option Slip
slip_with f x = with_counts f (handed_on (second_line (counts_on f) x))

-- the slip by the numbers of its first line, where this is well formed, and what stands behind it
unfoldable pub slip_from : Option (List ℕ) → Bytes → Option Slip
slip_from none x = none
slip_from (some vs) x = slip_with (family_of vs) x

-- "kind, n, k, each right-justified with blanks in 4 columns, then a newline; .. nothing after it" (SCOPE 7.2)
unfoldable pub slip_of : Bytes → Option Slip
slip_of x = slip_from (line 3 (take (line_width 3) x)) (drop (line_width 3) x)

-- "After the last comes the line END .. If more than 1,000 objects exist, 1,000 are listed and MORE stands for END" (SCOPE 7.4, 7.5)
unfoldable pub body : List Bytes → Bytes
body l = object_lines 0 (take listed_at_most l) ++ last_line (cond (ltb listed_at_most (length l)) word_more word_end)

-- the first line and the objects (SCOPE 7.4)
unfoldable pub listed_text : Bytes → Family → Lent → Bytes
listed_text count f b = first_line f count ++ body (listing f b)

-- by the number that refuses COUNT, if one does: the count, "the word MANY, right-justified, if refused by 5" (SCOPE 7.4), or another refusal (SCOPE 7.7)
unfoldable pub said : Option ℕ → Family → Lent → Bytes
said none f b = listed_text (column count_width (count_of f b)) f b
said (some q) f b = cond (eqb q 5) (listed_text (justified count_width word_many) f b) (refused_text q)

-- the text of a family and what is lent beside it, by COUNT's questions, which ask nothing of a buffer (SCOPE 7.4)
unfoldable pub family_text : Family → Lent → Bytes
family_text f b = said (refusal COUNT f b 0 (is_object f b [])) f b

-- what a slip lends beside its family
abbrev pub lent_by : Slip → Lent
lent_by s = only_counts s.counts

-- "Number 9 is the program's: it asks before all of these whether the slip below is well formed" (SCOPE 4.9)
unfoldable pub text_of : Option Slip → Bytes
text_of none = refused_text 9
text_of (some s) = family_text s.family (lent_by s)

-- what the program prints for its input (SCOPE 7)
unfoldable pub output : Bytes → Bytes
output x = text_of (slip_of x)

-- the words of the comparison

-- "a fourth field of 4 columns" (SCOPE 7.2)
abbrev pub fourth : Bytes → Option ℕ
fourth x = field (take field_width (drop family_width x))

-- "the same slip without it"
abbrev pub without : Bytes → Bytes
without x = take family_width x ++ drop (family_width + field_width) x

-- a slip of three fields with a fourth put in
abbrev pub with_start : ℕ → Bytes → Bytes
with_start s x = take family_width x ++ (column field_width s ++ drop family_width x)

-- "only the rank column differs": the same first and last line, whole, and between them the lines of the same objects, with the numbers from 0 on in the
-- one text and from s on in the other
pub record SameObjects (s : ℕ) (from0 from_s : Bytes) : Type 0 where
  pub first : Bytes
  pub objects : List Bytes
  pub last : Bytes
  pub first_line : length first ≡ first_line_width
  pub last_line : length last ≡ last_line_width
  pub counted-from_0 : from0 ≡ first ++ (object_lines 0 objects ++ last)
  pub counted-from_s : from_s ≡ first ++ (object_lines s objects ++ last)

-- or, where no object is printed, the same refusal
abbrev pub Renumbered : ℕ → Bytes → Bytes → Type 0
Renumbered s from0 from_s = ((q : ℕ) × ((from0 ≡ refused_text q) × (from_s ≡ refused_text q))) ⊎ SameObjects s from0 from_s

-- the lines of these objects as a list, with the numbers from s on
unfoldable pub lines_from : ℕ → List Bytes → List Bytes
lines_from s [] = []
lines_from s (x ∷ l) = object_line s x ∷ lines_from (suc s) l
