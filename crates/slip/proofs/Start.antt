-- What is printed since numbers start at 1, beside what was printed earlier: with a fourth field 0 the same, with 1 or without one the same but for the
-- numbers of the objects, and with any other a refusal. The four theorems at the end speak of every input.
-- Assumes nothing.
use mathlib.Core.Path.{◌≡◌, refl, sym, ◌∙◌, ap}
use mathlib.Core.Logic.{inl, inr}
use mathlib.Core.Bool.{Bool, true, false, cond}
use mathlib.Core.Option.{Option, none, some, some-injective, none-ne-some}
use mathlib.Core.List.{List, [], ◌∷◌, ◌++◌, map, flatten}
use Prim.Native.Nat.{ℕ, zero, suc, ◌+◌, ◌-◌, ◌*◌, ◌^◌, ◌≤◌, ◌<◌}
use native.Mathlib.Nat.{add-zero}
use native.Mathlib.Decide.{dec_le, dec_lt, ℕ_discrete}
use native.Mathlib.Omega.{arith}
use lib.Dec.{eqb, ltb}
use lib.ListN.{length, get_or, take, drop, length-append, length-take, length-drop, take-append-drop, get_or-eq_default}
use lib.Seq.{take_at, drop_at, drop-drop, get_or-drop, get_or-take, length-take-le}
use Rattle.listings.specs.Bytes.{Bytes}
use Rattle.listings.specs.Calls.{COUNT}
use Rattle.listings.specs.Places.{At}
use Rattle.families.specs.declared.Family.{Family}
use Rattle.families.specs.Table.{Lent, only_counts, plain_family}
use Rattle.families.specs.Families.{is_object, listing, count_of}
use Rattle.families.specs.Questions.{refusal}
use Rattle.columns.specs.Columns.{newline, column, justified}
use Rattle.columns.specs.Fields.{field_width}
use Rattle.columns.proofs.ColumnLaws.{length-column}
use Rattle.columns.proofs.FieldLaws.{field-none, reads_back}
use Rattle.grammar.specs.Grammar.{Slip, fields, fields_on, head_of, counts_on, second_line, handed_on, with_counts, slip_with, slip_of}
use Rattle.grammar.specs.Sizes.{line_width, family_width}
use Rattle.grammar.specs.Inner.Reading.{slip_at}
use Rattle.grammar.proofs.LineLaws.{fields_front}
use Rattle.grammar.proofs.SlipLaws.{first, first_short, first_open, first-fields, four_on, field-newline, slip_short, slip_open, slip_three, slip_four, slip_unnumbered, slip_start}
use Rattle.slip.specs.Sizes.{count_width, listed_at_most}
use Rattle.slip.proofs.Sizes.{first-long, last-long}
use Rattle.slip.specs.Text.{word_end, word_more, word_many, first_line, object_line, object_lines, last_line, body, listed_text, refused_text, said, family_text, text_of, output}
use Rattle.slip.specs.Earlier.{family_of as earlier_family, counts_on as earlier_counts, with_counts as earlier_with, slip_with as earlier_slip_with, slip_from as earlier_from, slip_of as earlier_slip, body as earlier_body, listed_text as earlier_listed, said as earlier_said, family_text as earlier_family_text, text_of as earlier_text, output as earlier, fourth, without, with_start, Renumbered, lines_from}

-- of texts: the first number changes the numbers of the objects and nothing else

refused : (s q : ℕ) → Renumbered s (refused_text q) (refused_text q)
refused s q = inl (q, (refl, refl))

listed : (s : ℕ) (count : Bytes) (f : Family) (b : Lent) → length count ≡ count_width → Renumbered s (earlier_listed count f b) (listed_text s count f b)
unfolding earlier_listed earlier_body listed_text body
listed s count f b e =
    let more = ltb listed_at_most (length (listing f b)) in
    inr (record {
      first = first_line f count;
      objects = take listed_at_most (listing f b);
      last = last_line (cond more word_more word_end);
      first_line = rw (first-long f count, e);
      last_line = last-long more;
      counted-from_0 = refl;
      counted-from_s = refl;
    })

uncounted : (s : ℕ) (many : Bool) (f : Family) (b : Lent) (q : ℕ) → Renumbered s (cond many (earlier_listed (justified count_width word_many) f b) (refused_text q)) (cond many (listed_text s (justified count_width word_many) f b) (refused_text q))
unfolding justified
uncounted s true f b q = listed s (justified count_width word_many) f b refl
uncounted s false f b q = refused s q

by_refusal : (s : ℕ) (o : Option ℕ) (f : Family) (b : Lent) → Renumbered s (earlier_said o f b) (said s o f b)
unfolding earlier_said said
by_refusal s none f b = listed s (column count_width (count_of f b)) f b (length-column count_width (count_of f b))
by_refusal s (some q) f b = uncounted s (eqb q 5) f b q

by_counts : (s : ℕ) (vs : List ℕ) (o : Option (List ℕ)) → Renumbered s (earlier_text (earlier_with (earlier_family vs) o)) (text_of (with_counts (head_of s vs) o))
unfolding earlier_text earlier_with earlier_family earlier_family_text text_of with_counts head_of family_text
by_counts s vs none = refused s 9
by_counts s vs (some cs) =
    let f = plain_family (get_or vs 0 0) (get_or vs 1 0) (get_or vs 2 0) in
    by_refusal s (refusal COUNT f (only_counts cs) 0 (is_object f (only_counts cs) [])) f (only_counts cs)

-- by kind, n and k, and what stands behind the first line
by_numbers : (s : ℕ) (o : Option (List ℕ)) (x : Bytes) → Renumbered s (earlier_text (earlier_from o x)) (text_of (slip_at s o x))
unfolding earlier_text earlier_from earlier_slip_with earlier_counts earlier_family text_of slip_at slip_with counts_on head_of
by_numbers s none x = refused s 9
by_numbers s (some vs) x = by_counts s vs (handed_on (second_line (cond (eqb (get_or vs 0 0) 2) (get_or vs 1 0) 0) x))

-- a slip of now and one of earlier that say the same numbers
same_slip : (s : ℕ) (x y rest : Bytes) {o : Option (List ℕ)} → slip_of x ≡ slip_at s o rest → first 3 y ≡ o → drop (line_width 3) y ≡ rest → Renumbered s (earlier y) (output x)
unfolding earlier earlier_slip output
same_slip s x y rest {o} p q r = rw (p, q, r) (by_numbers s o rest)

-- of slips with a fourth field

module _ (x : Bytes) (h : family_width ≤ length x) where
  front_kept : take family_width (without x) ≡ take family_width x
  front_kept = take_at (take family_width x) (drop (family_width + field_width) x) family_width (length-take-le family_width x h)

  rest_kept : drop family_width (without x) ≡ drop (family_width + field_width) x
  rest_kept = drop_at (take family_width x) (drop (family_width + field_width) x) family_width (length-take-le family_width x h)

  fields-kept : fields 3 (without x) ≡ fields 3 x
  fields-kept = sym (fields_front 3 family_width (without x) (omega arith)) ∙ ap (fields 3) front_kept ∙ fields_front 3 family_width x (omega arith)

  counts-kept : drop (line_width 3) (without x) ≡ drop (line_width 4) x
  counts-kept = sym (drop-drop 1 family_width (without x)) ∙ ap (drop 1) rest_kept ∙ drop-drop 1 (family_width + field_width) x

  end_kept : get_or (without x) family_width 0 ≡ get_or x (field_width * 4) 0
  end_kept = sym (get_or-drop family_width (without x) 0 0) ∙ ap (λ (l : Bytes). get_or l 0 0) rest_kept ∙ get_or-drop (family_width + field_width) x 0 0

  length_without : length (without x) ≡ family_width + (length x - (family_width + field_width))
  length_without = rw (length-append, length-take-le family_width x h, length-drop)

-- where the fourth field is a number, it is there, and no newline stands in its place
module _ (x : Bytes) {s : ℕ} (e : fourth x ≡ some s) where
  there : family_width < length x
  there = elim (dec_lt family_width (length x)) [
    | yes l ↦ l
    | no k ↦ absurd (none-ne-some s (sym (field-none (take field_width (drop family_width x)) (simp (length-take, length-drop) (omega arith))) ∙ e))
  ]

  four : fields_on x ≡ 4
  four =
      four_on x λ n.
      none-ne-some s (sym (field-newline (take field_width (drop family_width x)) (get_or-take field_width (drop family_width x) 0 0 (omega arith) ∙ get_or-drop family_width x 0 0 ∙ n)) ∙ e)

  long : family_width ≤ length x
  long = omega (arith, there)

  -- the slip is too short, its first line doesn't end, or it is read: each as the slip without the field
  read : s ≤ 1 → (o : Option (List ℕ)) × ((slip_of x ≡ slip_at s o (drop (line_width 4) x)) × (first 3 (without x) ≡ o))
  unfolding slip_at
  read l = elim (dec_lt (field_width * 4) (length x)) [
    | no k ↦ (none, (slip_short x four (omega arith), first_short 3 (without x) (omega (arith, length_without x long))))
    | yes k ↦ elim (ℕ_discrete (get_or x (field_width * 4) 0) newline) [
      | no n ↦ (none, (slip_open x four n, first_open 3 (without x) (λ q. n (sym (end_kept x long) ∙ q))))
      | yes n ↦ (fields 3 x, (slip_four x four (omega arith) n e l, first-fields 3 (without x) (omega (arith, length_without x long)) (end_kept x long ∙ n) ∙ fields-kept x long))
    ]
  ]

  renumbered : s ≤ 1 → Renumbered s (earlier (without x)) (output x)
  renumbered l = let r = read l in same_slip s x (without x) (drop (line_width 4) x) r.1.0 r.1.1 (counts-kept x long)

-- where a newline follows the third field, it is there
ended : (x : Bytes) → get_or x family_width 0 ≡ newline → family_width < length x
ended x e = elim (dec_lt family_width (length x)) [
  | yes l ↦ l
  | no k ↦ absurd (omega (arith, get_or-eq_default x 0 {n = family_width} (omega arith)))
]

same : {t u : Bytes} → Renumbered 0 t u → u ≡ t
same (inl r) = r.1.1 ∙ sym r.1.0
same (inr r) = r.counted-from_s ∙ sym r.counted-from_0

-- the four theorems

-- "With that 0 the output equals what the same slip without it printed earlier"
pub archive : (x : Bytes) → fourth x ≡ some 0 → output x ≡ earlier (without x)
archive x e = same (renumbered x e (omega arith))

-- "with 1 .. only the rank column differs"
pub by_one : (x : Bytes) → fourth x ≡ some 1 → Renumbered 1 (earlier (without x)) (output x)
by_one x e = renumbered x e (omega arith)

-- "or no fourth field"
pub by_one_unsaid : (x : Bytes) → get_or x family_width 0 ≡ newline → Renumbered 1 (earlier x) (output x)
by_one_unsaid x e = let l = ended x e in same_slip 1 x x (drop (line_width 3) x) (slip_three x l e) (first-fields 3 x (omega arith) e) refl

-- "A fourth field with another number is a malformed slip, number 9"; so is one that is no number
pub other_start : (x : Bytes) → (get_or x family_width 0 ≡ newline → ⊥) → ((s : ℕ) → s ≤ 1 → fourth x ≡ some s → ⊥) → output x ≡ refused_text 9
unfolding output text_of
other_start x n h = rw (slip_unnumbered x (four_on x n) h)

-- the number that the first object gets is the fourth field, and 1 where there is none
pub start-said : (x : Bytes) {s : ℕ} {r : Slip} → fourth x ≡ some s → slip_of x ≡ some r → r.head.start ≡ s
start-said x {s} {r} e p = elim (dec_le s 1) [
  | yes l ↦ let o = read x e l in slip_start s o.0 (drop (line_width 4) x) (sym o.1.0 ∙ p)
  | no k ↦ absurd (none-ne-some r (sym (slip_unnumbered x (four x e) (λ t l q. k (omega (arith, some-injective t s (sym q ∙ e))))) ∙ p))
]

pub start_unsaid : (x : Bytes) {r : Slip} → get_or x family_width 0 ≡ newline → slip_of x ≡ some r → r.head.start ≡ 1
start_unsaid x e p = slip_start 1 (fields 3 x) (drop (line_width 3) x) (sym (slip_three x (ended x e) e) ∙ p)

-- what they come to for users

-- a fourth field put in is read, and without it the slip is as it was
pub put_in : (s : ℕ) (x : Bytes) → s < 10 ^ field_width → family_width ≤ length x → (fourth (with_start s x) ≡ some s) × (without (with_start s x) ≡ x)
put_in s x l h =
    let three : length (take family_width x) ≡ family_width = length-take-le family_width x h in
    let rest = column field_width s ++ drop family_width x in
    let behind : drop family_width (with_start s x) ≡ rest = drop_at (take family_width x) rest family_width three in (
      rw (behind, take_at (column field_width s) (drop family_width x) field_width (length-column field_width s)) (reads_back 3 s l),
      rw (take_at (take family_width x) rest family_width three, ← drop-drop field_width family_width (with_start s x), behind, drop_at (column field_width s) (drop family_width x) field_width (length-column field_width s))
          (take-append-drop family_width x),
    )

-- "Our old archive scripts .. send the fourth field 0 from now on"
pub archive_scripts : (x : Bytes) → family_width ≤ length x → output (with_start 0 x) ≡ earlier x
archive_scripts x h = let p = put_in 0 x (omega arith) h in archive (with_start 0 x) p.0 ∙ ap earlier p.1

-- the lines of a text, one by one: the object at place i has the number s + i
pub lines_joined : (s : ℕ) (l : List Bytes) → object_lines s l ≡ flatten (lines_from s l)
unfolding object_lines lines_from flatten
lines_joined s [] = refl
lines_joined s (x ∷ l) = ap (λ (t : Bytes). object_line s x ++ t) (lines_joined (suc s) l)

pub line_of : (s : ℕ) (l : List Bytes) (i : ℕ) {x : Bytes} → At l x i → At (lines_from s l) (object_line (s + i) x) i
unfolding lines_from
line_of s [] i {x} h = absurd (none-ne-some x h)
line_of s (y ∷ l) zero {x} h = rw (add-zero, some-injective y x h)
line_of s (y ∷ l) (suc i) {x} h = let e : s + suc i ≡ suc s + i = omega arith in rw e (line_of (suc s) l i h)

-- and "only the rank column", 20 wide, tells two numberings apart
pub number-column : (s : ℕ) (x : Bytes) → take count_width (object_line s x) ≡ column count_width s
unfolding object_line
number-column s x = take_at (column count_width s) _ count_width (length-column count_width s)

behind_number : (s t : ℕ) (x : Bytes) → drop count_width (object_line s x) ≡ drop count_width (object_line t x)
unfolding object_line
behind_number s t x = drop_at (column count_width s) _ count_width (length-column count_width s) ∙ sym (drop_at (column count_width t) _ count_width (length-column count_width t))

pub rank_column : (s t : ℕ) (l : List Bytes) → map (drop count_width) (lines_from s l) ≡ map (drop count_width) (lines_from t l)
unfolding lines_from
rank_column s t [] = refl
rank_column s t (x ∷ l) = rw (behind_number s t x, rank_column (suc s) (suc t) l)
