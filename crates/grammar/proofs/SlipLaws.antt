-- The slip by its first line: three fields or four, too short, not ended by a newline, or well formed; and what a fourth field may be.
-- Assumes nothing.
use mathlib.Core.Path.{◌≡◌, refl, sym, ◌∙◌, ap}
use mathlib.Core.Bool.{Bool, true, false, ◌&&◌, cond}
use mathlib.Core.Option.{Option, none, some, some-injective, none-ne-some}
use mathlib.Core.List.{List, [], ◌∷◌}
use Prim.Native.Nat.{ℕ, ◌-◌, ◌*◌, ◌≤◌, ◌<◌}
use native.Mathlib.Decide.{dec_le}
use native.Mathlib.Omega.{arith}
use lib.Dec.{eqb}
use lib.ListN.{length, get_or, take, drop, length-take}
use lib.Seq.{drop-drop, get_or-take, length-take-le}
use borrow.Author.Tests.{le-leb, lt-leb, eq-eqb, ne_eqb}
use Rattle.listings.specs.Bytes.{Bytes}
use Rattle.columns.specs.Columns.{newline}
use Rattle.columns.specs.Fields.{field_width, digits, field}
use Rattle.columns.proofs.FieldLaws.{rest_is}
use Rattle.grammar.specs.declared.Head.{Head}
use Rattle.grammar.specs.Grammar.{Slip, cons_field, fields, line, fields_on, start_of, head_of, counts_on, second_line, handed_on, with_counts, slip_with, slip_from, slip_of}
use Rattle.grammar.specs.Sizes.{family_width, line_width}
use Rattle.grammar.specs.Inner.Reading.{slip_at}
use Rattle.grammar.proofs.LineLaws.{fields_front, line-width, line_end, line-fields}

-- by a test: what holds both ways
either : {A : Type 0} (P : A → Type 0) (b : Bool) {s t : A} → P s → P t → P (cond b s t)
either P true p q = p
either P false p q = q

-- a line of m fields at the front of a text
module _ (m : ℕ) (x : Bytes) where
  abbrev pub first : Option (List ℕ)
  first = line m (take (line_width m) x)

  pub first_short : length x < line_width m → first ≡ none
  first_short h = line-width m (take (line_width m) x) (λ e. omega (arith, length-take (line_width m) x))

  pub first_open : (get_or x (field_width * m) 0 ≡ newline → ⊥) → first ≡ none
  first_open h = line_end m (take (line_width m) x) (λ e. h (sym (get_or-take (line_width m) x (field_width * m) 0 (omega arith)) ∙ e))

  pub first-fields : line_width m ≤ length x → get_or x (field_width * m) 0 ≡ newline → first ≡ fields m x
  first-fields h k =
      line-fields m (take (line_width m) x) (length-take-le (line_width m) x h) (get_or-take (line_width m) x (field_width * m) 0 (omega arith) ∙ k)
      ∙ fields_front m (line_width m) x (omega arith)

  -- what holds of nothing and of the fields
  first_either : (P : Option (List ℕ) → Type 0) → P none → P (fields m x) → P first
  unfolding line
  first_either P p q = either P (eqb (length (take (line_width m) x)) (line_width m) && eqb (get_or (take (line_width m) x) (field_width * m) 0) newline) (rw (fields_front m (line_width m) x (omega arith)) q) p

-- how many fields the first line has
pub three_on : (x : Bytes) → get_or x family_width 0 ≡ newline → fields_on x ≡ 3
unfolding fields_on
three_on x h = rw (eq-eqb (get_or x family_width 0) newline h)

pub four_on : (x : Bytes) → (get_or x family_width 0 ≡ newline → ⊥) → fields_on x ≡ 4
unfolding fields_on
four_on x h = rw (ne_eqb (get_or x family_width 0) newline h)

at_least_three : (x : Bytes) → 3 ≤ fields_on x
unfolding fields_on
at_least_three x = either (λ m. 3 ≤ m) (eqb (get_or x family_width 0) newline) (omega arith) (omega arith)

-- a field doesn't start with a newline, so no first line has both
pub field-newline : (x : Bytes) → get_or x 0 0 ≡ newline → field x ≡ none
unfolding field digits
field-newline [] e = refl
field-newline (b ∷ x) e = rw e

-- the slip of a first line of m fields
module _ (x : Bytes) {m : ℕ} (e : fields_on x ≡ m) where
  by_first : {o : Option (List ℕ)} → first m x ≡ o → slip_of x ≡ slip_from o (drop (line_width m) x)
  unfolding slip_of
  by_first p = rw (e, p)

  pub slip_short : length x < line_width m → slip_of x ≡ none
  unfolding slip_from
  slip_short h = by_first (first_short m x h)

  pub slip_open : (get_or x (field_width * m) 0 ≡ newline → ⊥) → slip_of x ≡ none
  unfolding slip_from
  slip_open h = by_first (first_open m x h)

  slip_fields : line_width m ≤ length x → get_or x (field_width * m) 0 ≡ newline → slip_of x ≡ slip_from (fields m x) (drop (line_width m) x)
  slip_fields h k = by_first (first-fields m x h k)

-- no first line is this short
pub slip_too_short : (x : Bytes) → length x ≤ family_width → slip_of x ≡ none
slip_too_short x h = slip_short x refl (omega (arith, at_least_three x))

-- the field at place i, and the first three
abbrev pub said : Bytes → ℕ → Option ℕ
said x i = field (take field_width (drop (field_width * i) x))

pub fields_three : (x : Bytes) {a b c : Option ℕ} → said x 0 ≡ a → said x 1 ≡ b → said x 2 ≡ c → fields 3 x ≡ cons_field a (cons_field b (cons_field c (some [])))
unfolding fields
fields_three x p q r = rw (drop-drop field_width field_width x, p, q, r)

fields_four : (x : Bytes) {d : Option ℕ} → said x 3 ≡ d → fields 4 x ≡ cons_field (said x 0) (cons_field (said x 1) (cons_field (said x 2) (cons_field d (some []))))
unfolding fields
fields_four x p = rw (drop-drop field_width field_width x, drop-drop field_width (field_width * 2) x, p)

from_three : (a b c : Option ℕ) (y : Bytes) → let o = cons_field a (cons_field b (cons_field c (some []))) in slip_from o y ≡ slip_at 1 o y
unfolding slip_from slip_at cons_field start_of
from_three none b c y = refl
from_three (some u) none c y = refl
from_three (some u) (some v) none y = refl
from_three (some u) (some v) (some w) y = refl

from_four : (a b c : Option ℕ) {s : ℕ} (y : Bytes) → s ≤ 1 → slip_from (cons_field a (cons_field b (cons_field c (cons_field (some s) (some []))))) y ≡ slip_at s (cons_field a (cons_field b (cons_field c (some [])))) y
unfolding slip_from slip_at cons_field start_of head_of
from_four none b c y h = refl
from_four (some u) none c y h = refl
from_four (some u) (some v) none y h = refl
from_four (some u) (some v) (some w) {s} y h = rw (le-leb s 1 h)

-- "A fourth field with another number"
from_other : (a b c : Option ℕ) {s : ℕ} (y : Bytes) → 1 < s → slip_from (cons_field a (cons_field b (cons_field c (cons_field (some s) (some []))))) y ≡ none
unfolding slip_from cons_field start_of
from_other none b c y h = refl
from_other (some u) none c y h = refl
from_other (some u) (some v) none y h = refl
from_other (some u) (some v) (some w) {s} y h = rw (lt-leb s 1 h)

from-none : (y : Bytes) → slip_from none y ≡ none
unfolding slip_from
from-none y = refl

-- or without one
from_bad : (a b c : Option ℕ) (y : Bytes) → slip_from (cons_field a (cons_field b (cons_field c (cons_field none (some []))))) y ≡ none
unfolding slip_from cons_field
from_bad none b c y = refl
from_bad (some u) none c y = refl
from_bad (some u) (some v) none y = refl
from_bad (some u) (some v) (some w) y = refl

-- a first line with a field that is no number, and one of three numbers
module _ (x y : Bytes) where
  pub no_kind : (s : ℕ) → said x 0 ≡ none → slip_at s (fields 3 x) y ≡ none
  unfolding slip_at cons_field
  no_kind s e = rw (fields_three x e refl refl)

  pub no_n : (s : ℕ) → said x 1 ≡ none → slip_at s (fields 3 x) y ≡ none
  unfolding slip_at cons_field
  no_n s e = rw (fields_three x refl e refl) (second_bad (said x 0))
    where
      second_bad : (o : Option ℕ) → slip_at s (cons_field o (cons_field none (cons_field (said x 2) (some [])))) y ≡ none
      second_bad none = refl
      second_bad (some u) = refl

  pub no_k : (s : ℕ) → said x 2 ≡ none → slip_at s (fields 3 x) y ≡ none
  unfolding slip_at cons_field
  no_k s e = rw (fields_three x refl refl e) (third_bad (said x 0) (said x 1))
    where
      third_bad : (o p : Option ℕ) → slip_at s (cons_field o (cons_field p (cons_field none (some [])))) y ≡ none
      third_bad none p = refl
      third_bad (some u) none = refl
      third_bad (some u) (some v) = refl

  three_numbers : (h : Head) → said x 0 ≡ some h.kind → said x 1 ≡ some h.n → said x 2 ≡ some h.k → slip_at h.start (fields 3 x) y ≡ slip_with h y
  unfolding slip_at cons_field head_of
  three_numbers h p q r = rw (fields_three x p q r)

-- the slip of three numbers, by the counts that are read behind the first line
pub slip_read : (x : Bytes) (end : ℕ) (h : Head) {o : Option (List ℕ)} → slip_of x ≡ slip_at h.start (fields 3 x) (drop end x)
    → said x 0 ≡ some h.kind → said x 1 ≡ some h.n → said x 2 ≡ some h.k
    → handed_on (second_line (counts_on h) (take (length x - end) (drop end x))) ≡ o → slip_of x ≡ with_counts h o
unfolding slip_with
slip_read x end h e p q r c = e ∙ three_numbers x (drop end x) h p q r ∙ ap (with_counts h) (rw (← rest_is x end) c)

-- a slip of three fields
pub slip_three : (x : Bytes) → family_width < length x → get_or x family_width 0 ≡ newline → slip_of x ≡ slip_at 1 (fields 3 x) (drop (line_width 3) x)
slip_three x h k =
    let o = fields_three x refl refl refl in
    slip_fields x (three_on x k) (omega arith) k ∙ rw o (from_three (said x 0) (said x 1) (said x 2) (drop (line_width 3) x))

-- and of four
module _ (x : Bytes) (four : fields_on x ≡ 4) where
  abbrev rest : Bytes
  rest = drop (line_width 4) x

  pub slip_four : {s : ℕ} → line_width 4 ≤ length x → get_or x (field_width * 4) 0 ≡ newline → said x 3 ≡ some s → s ≤ 1 → slip_of x ≡ slip_at s (fields 3 x) (drop (line_width 4) x)
  slip_four h k e l =
      slip_fields x four h k
      ∙ rw (fields_four x e, fields_three x refl refl refl) (from_four (said x 0) (said x 1) (said x 2) (drop (line_width 4) x) l)

  -- a fourth field that is no number, and one that is another than 0 and 1
  pub slip_bad : said x 3 ≡ none → slip_of x ≡ none
  slip_bad e = by_first x four refl ∙ first_either 4 x (λ o. slip_from o rest ≡ none) (from-none rest) (rw (fields_four x e) (from_bad (said x 0) (said x 1) (said x 2) rest))

  pub slip_other : {s : ℕ} → said x 3 ≡ some s → 1 < s → slip_of x ≡ none
  slip_other e l = by_first x four refl ∙ first_either 4 x (λ o. slip_from o rest ≡ none) (from-none rest) (rw (fields_four x e) (from_other (said x 0) (said x 1) (said x 2) rest l))

  -- "0 or 1"
  pub slip_unnumbered : ((s : ℕ) → s ≤ 1 → said x 3 ≡ some s → ⊥) → slip_of x ≡ none
  slip_unnumbered h = by_said (said x 3) refl where
    by_said : (o : Option ℕ) → said x 3 ≡ o → slip_of x ≡ none
    by_said none e = slip_bad e
    by_said (some s) e = elim (dec_le s 1) [
      | yes l ↦ absurd (h s l e)
      | no k ↦ slip_other e (omega arith)
    ]

-- the number that the first object gets
with_head : (h : Head) (o : Option (List ℕ)) {r : Slip} → with_counts h o ≡ some r → r.head ≡ h
unfolding with_counts
with_head h none {r} e = absurd (none-ne-some r e)
with_head h (some cs) {r} e = ap (λ (s : Slip). s.head) (sym (some-injective (record { head = h; counts = cs }) r e))

pub slip_start : (s : ℕ) (o : Option (List ℕ)) (x : Bytes) {r : Slip} → slip_at s o x ≡ some r → r.head.start ≡ s
unfolding slip_at slip_with head_of
slip_start s none x {r} e = absurd (none-ne-some r e)
slip_start s (some vs) x e = ap (λ (h : Head). h.start) (with_head (head_of s vs) (handed_on (second_line (counts_on (head_of s vs)) x)) e)

-- a slip by its first line
pub ruleset first_line_cases = (four_on, slip_too_short, slip_short, slip_open, slip_three, slip_four, slip_bad, slip_other)

-- and by its first three fields
pub ruleset slip_cases = (no_kind, no_n, no_k)
