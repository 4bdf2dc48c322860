-- A line read field by field, what makes it malformed, and the counts that it hands on.
-- Assumes nothing.
use mathlib.Core.Path.{◌≡◌, refl, sym, ◌∙◌, ap}
use mathlib.Core.Option.{Option, none, some, map}
use mathlib.Core.List.{List, [], ◌∷◌, ◌++◌, append_assoc, append-nil}
use mathlib.Core.Bool.{and-false}
use Prim.Native.Nat.{ℕ, zero, suc, ◌+◌, ◌-◌, ◌*◌, ◌≤◌, ◌<◌, min}
use native.Mathlib.Numerals.{add-one}
use native.Mathlib.Omega.{arith}
use lib.ListN.{length, get_or, take, drop, set, length-take}
use lib.Seq.{drop-drop, take-take, take-suc-set, take_all}
use borrow.Author.Tests.{eq-eqb, ne_eqb}
use Rattle.listings.specs.Bytes.{Bytes}
use Rattle.columns.specs.Columns.{newline}
use Rattle.grammar.specs.Grammar.{cons_field, fields, line, second_line, handed_on}
use Rattle.columns.specs.Fields.{field_width, field}
use Rattle.grammar.specs.Sizes.{line_width}

-- counts in front of those that the rest of a line gives
abbrev pub after : List ℕ → Option (List ℕ) → Option (List ℕ)
after p o = map (λ (cs : List ℕ). p ++ cs) o

next_field : (x : Bytes) (m i : ℕ) → i < m → fields (m - i) (drop (field_width * i) x) ≡ cons_field (field (take field_width (drop (field_width * i) x))) (fields (m - (i + 1)) (drop (field_width * (i + 1)) x))
unfolding fields
next_field x m i h =
    let e : m - i ≡ suc (m - (i + 1)) = omega arith in
    let f : field_width * i + field_width ≡ field_width * (i + 1) = omega arith in
    rw (e, drop-drop, f)

after_none : (o : Option (List ℕ)) → after [] o ≡ o
after_none none = refl
after_none (some cs) = refl

pub counts-none : (x : Bytes) (m : ℕ) → handed_on (fields m x) ≡ after [] (handed_on (fields (m - 0) x))
counts-none x m = let e : m - 0 ≡ m = omega arith in rw (e, after_none)

-- a field that is no number spoils the line
pub counts_bad : (p : List ℕ) (x : Bytes) (m i : ℕ) → i < m → field (take field_width (drop (field_width * i) x)) ≡ none → after p (handed_on (fields (m - i) (drop (field_width * i) x))) ≡ none
unfolding cons_field handed_on
counts_bad p x m i h e = rw (next_field x m i h, e)

handed_cons : (p : List ℕ) (v : ℕ) (o : Option (List ℕ)) → after p (handed_on (cons_field (some v) o)) ≡ after (p ++ (min v 255 ∷ [])) (handed_on o)
unfolding cons_field handed_on
handed_cons p v none = refl
handed_cons p v (some cs) = rw append_assoc

-- a number is stored behind the counts before it, capped
pub counts-more : (d : List ℕ) (x : Bytes) (m i v r : ℕ) → i < m → i < length d → field (take field_width (drop (field_width * i) x)) ≡ some v → r ≡ min v 255 → after (take i d) (handed_on (fields (m - i) (drop (field_width * i) x))) ≡ after (take (i + 1) (set d i r)) (handed_on (fields (m - (i + 1)) (drop (field_width * (i + 1)) x)))
counts-more d x m i v r h k e q =
    let rest = fields (m - (i + 1)) (drop (field_width * (i + 1)) x) in
    let stored : take (i + 1) (set d i r) ≡ take i d ++ (min v 255 ∷ []) = rw (q, add-one, take-suc-set) in
    rw (next_field x m i h, e, stored) (handed_cons (take i d) v rest)

pub counts_all : (p : List ℕ) (x : Bytes) (m i : ℕ) → m ≤ i → after p (handed_on (fields (m - i) (drop (field_width * i) x))) ≡ some p
unfolding fields handed_on
counts_all p x m i h = let e : m - i ≡ 0 = omega arith in rw e (ap some (append-nil p))

-- what a line must be
pub line-width : (m : ℕ) (x : Bytes) → (length x ≡ line_width m → ⊥) → line m x ≡ none
unfolding line
line-width m x h = rw (ne_eqb (length x) (line_width m) h)

pub line_end : (m : ℕ) (x : Bytes) → (get_or x (field_width * m) 0 ≡ newline → ⊥) → line m x ≡ none
unfolding line
line_end m x h = rw (ne_eqb (get_or x (field_width * m) 0) newline h, and-false)

pub line-fields : (m : ℕ) (x : Bytes) → length x ≡ line_width m → get_or x (field_width * m) 0 ≡ newline → line m x ≡ fields m x
unfolding line
line-fields m x h k = rw (eq-eqb (length x) (line_width m) h, eq-eqb (get_or x (field_width * m) 0) newline k)

-- the front without its first field
shorter : (a n : ℕ) (x : Bytes) → a ≤ n → drop a (take n x) ≡ take (n - a) (drop a x)
shorter zero n x h = let e : n - 0 ≡ n = omega arith in rw e
shorter (suc a) zero x h = absurd (omega arith)
shorter (suc a) (suc n) [] h = let e : suc n - suc a ≡ n - a = omega arith in rw (e, take_all {A = ℕ} (n - a) [] (omega arith))
shorter (suc a) (suc n) (b ∷ x) h = let e : suc n - suc a ≡ n - a = omega arith in rw e (shorter a n x (omega arith))

-- fields go by the front alone
pub fields_front : (m n : ℕ) (x : Bytes) → field_width * m ≤ n → fields m (take n x) ≡ fields m x
unfolding fields
fields_front zero n x h = refl
fields_front (suc m) n x h =
    rw (take-take field_width n x (omega arith), shorter field_width n x (omega arith), fields_front m (n - field_width) (drop field_width x) (omega arith))

-- no second line, and a second line
pub line_absent : (m : ℕ) (x : Bytes) → m ≡ 0 → length x ≡ 0 → second_line m x ≡ some []
unfolding second_line
line_absent m x e h = rw (e, eq-eqb (length x) 0 h)

pub line_unasked : (m : ℕ) (x : Bytes) → m ≡ 0 → (length x ≡ 0 → ⊥) → second_line m x ≡ none
unfolding second_line
line_unasked m x e h = rw (e, ne_eqb (length x) 0 h)

pub line_present : (m : ℕ) (x : Bytes) → (m ≡ 0 → ⊥) → second_line m x ≡ line m x
unfolding second_line
line_present zero x h = absurd (h refl)
line_present (suc m) x h = refl

-- the fields in front of its newline
pub second_read : (m : ℕ) (x : Bytes) → 0 < m → length (take (length x - 1) x) ≡ field_width * m → get_or x (length x - 1) 0 ≡ newline → second_line m x ≡ fields m (take (length x - 1) x)
second_read m x h l e =
    let long : length x ≡ line_width m = omega (arith, length-take (length x - 1) x) in
    let last : length x - 1 ≡ field_width * m = omega arith in
    line_present m x (λ q. omega arith) ∙ line-fields m x long (rw (← last) e) ∙ sym (fields_front m (length x - 1) x (omega arith))

-- the counts one by one
pub ruleset count_cases = (counts-none, counts_bad, counts-more, counts_all, take_all)

-- the second line
pub ruleset line_cases = (line_absent, line_unasked, line_present, second_read, line-width, line_end)
