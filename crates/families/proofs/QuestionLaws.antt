-- Laws of lists of questions, whatever they ask, and what the closing questions have asked of a call that passes them.
-- Assumes nothing.
use mathlib.Core.Path.{◌≡◌, refl, sym, ◌∙◌, ap}
use mathlib.Core.Bool.{Bool, true, false, cond, ◌||◌, false≢true}
use mathlib.Core.Option.{Option, none, some, some-ne-none, some-injective}
use mathlib.Core.List.{List, [], ◌∷◌, ◌++◌, map}
use Prim.Native.Nat.{ℕ, ◌<◌, ◌^◌}
use lib.Dec.{eqb}
use lib.ListN.{length}
use borrow.Author.Tests.{ltb-true, eqb-true, lt-ltb, eq-eqb}
use Rattle.listings.specs.Bytes.{Bytes}
use Rattle.listings.specs.Calls.{Call, COUNT, FIRST, LAST, NEXT, PREVIOUS, RANK, UNRANK, Question, first_no}
use Rattle.basics.proofs.Bools.{and-true}
use Rattle.listings.proofs.Demand.{with_buffer, with_object, Asks}
use Rattle.families.specs.Families.{all_yes}
use Rattle.families.specs.Questions.{asked, is_in, put, rank_given, closing_for}

-- a question that is answered by yes is passed, and one that is answered by no is the refusal

pub past : (q : Question) (qs : List Question) → q.yes? ≡ true → first_no (q ∷ qs) ≡ first_no qs
unfolding first_no
past q qs e = rw e

pub stop : (q : Question) (qs : List Question) → q.yes? ≡ false → first_no (q ∷ qs) ≡ some q.number
unfolding first_no
stop q qs e = rw e

pub none_left : first_no [] ≡ none
unfolding first_no
none_left = refl

-- where no question is answered by no, each is answered by yes

passed_first : (t : Bool) (q : ℕ) (later : Option ℕ) → cond t later (some q) ≡ none → (t ≡ true) × (later ≡ none)
passed_first true q later e = (refl, e)
passed_first false q later e = absurd (some-ne-none q e)

pub all_yes_lem : (qs : List Question) → first_no qs ≡ none → all_yes qs ≡ true
unfolding first_no all_yes
all_yes_lem [] e = refl
all_yes_lem (p ∷ ps) e =
    let h = passed_first p.yes? p.number (first_no ps) e in
    rw (h.0, all_yes_lem ps h.1)

pub none_no : (qs : List Question) → all_yes qs ≡ true → first_no qs ≡ none
unfolding first_no all_yes
none_no [] e = refl
none_no (p ∷ ps) e =
    let h = and-true p.yes? (all_yes ps) e in
    past p ps h.0 ∙ none_no ps h.1

-- the refusal is the number of a question that was put

abbrev pub numbers_of : List Question → List ℕ
numbers_of qs = map (λ q. q.number) qs

among : (t : Bool) (q p : ℕ) (later : Option ℕ) (ps : List ℕ) → (later ≡ some q → is_in q ps ≡ true) → cond t later (some p) ≡ some q → is_in q (p ∷ ps) ≡ true
unfolding is_in
among true q p later ps h e = rw (h e) (or-true (eqb q p))
  where
    or-true : (t : Bool) → (t || true) ≡ true
    or-true true = refl
    or-true false = refl
among false q p later ps h e = rw (eq-eqb q p (sym (some-injective p q e)))

pub no_was_put : (q : ℕ) (qs : List Question) → first_no qs ≡ some q → is_in q (numbers_of qs) ≡ true
unfolding first_no
no_was_put q [] e = absurd (some-ne-none q (sym e))
no_was_put q (p ∷ ps) e = among p.yes? q p.number (first_no ps) (numbers_of ps) (no_was_put q ps) e

-- two lists of questions, one behind the other

passed_over : (t : Bool) (q : ℕ) (a : Option ℕ) {b d : Option ℕ} → cond t a (some q) ≡ none → (a ≡ none → b ≡ d) → cond t b (some q) ≡ d
passed_over true q a e h = h e
passed_over false q a e h = absurd (some-ne-none q e)

or_else_append : (t : Bool) (q : ℕ) (a b : Option ℕ) {d : Option ℕ} → cond t a (some q) ≡ d → (a ≡ d → b ≡ d) → cond t b (some q) ≡ d
or_else_append true q a b e h = h e
or_else_append false q a b e h = e

-- the second answers where the first passes
pub after_pass : (l m : List Question) → first_no l ≡ none → first_no (l ++ m) ≡ first_no m
unfolding first_no
after_pass [] m e = refl
after_pass (q ∷ qs) m e = passed_over q.yes? q.number (first_no qs) e (λ e'. after_pass qs m e')

-- and the first where it doesn't
pub after_no : (l m : List Question) {q : ℕ} → first_no l ≡ some q → first_no (l ++ m) ≡ some q
unfolding first_no
after_no [] m {q} e = absurd (some-ne-none q (sym e))
after_no (p ∷ ps) m e = or_else_append p.yes? p.number (first_no ps) (first_no (ps ++ m)) e (λ e'. after_no ps m e')

-- both pass where both together do
pub left_passes : (l m : List Question) → first_no (l ++ m) ≡ none → first_no l ≡ none
unfolding first_no
left_passes [] m e = refl
left_passes (q ∷ qs) m e = or_else_append q.yes? q.number (first_no (qs ++ m)) (first_no qs) e (λ e'. left_passes qs m e')

pub right_passes : (l m : List Question) → first_no (l ++ m) ≡ none → first_no m ≡ none
right_passes l m e = sym (after_pass l m (left_passes l m e)) ∙ e

-- where the refusal is no number of the first, the first passes

passed_unless : (o : Option ℕ) → ((p : ℕ) → o ≡ some p → ⊥) → o ≡ none
passed_unless none h = refl
passed_unless (some p) h = absurd (h p refl)

pub first_list_passes : (q : ℕ) (l m : List Question) → is_in q (numbers_of l) ≡ false → first_no (l ++ m) ≡ some q → first_no l ≡ none
first_list_passes q l m absent e =
    passed_unless (first_no l) (λ p h. false≢true (sym absent ∙ no_was_put q l (h ∙ sym (after_no l m h) ∙ e)))

-- a question read by its number, so that others may be put between; one that isn't there counts as a yes

abbrev pub yes_to : ℕ → List Question → Bool
yes_to q [] = true
yes_to q (p ∷ ps) = cond (eqb q p.number) p.yes? (yes_to q ps)

picked : (t a b : Bool) → a ≡ true → b ≡ true → cond t a b ≡ true
picked true a b p q = p
picked false a b p q = q

pub passed : (q : ℕ) (qs : List Question) → first_no qs ≡ none → yes_to q qs ≡ true
unfolding first_no
passed q [] e = refl
passed q (p ∷ ps) e =
    let h = passed_first p.yes? p.number (first_no ps) e in
    picked (eqb q p.number) p.yes? (yes_to q ps) h.0 (passed q ps h.1)

-- a question that is put to the call
pub is-put : (c : Call) (q : ℕ) (answer : Bool) → is_in q (asked c) ≡ true → (put c q answer).yes? ≡ answer
unfolding put
is-put c q answer e = rw e

-- what the closing questions have asked of a call that passes them

module _ (c : Call) (count long size : ℕ) (holds : Bool) (pass : first_no (closing_for c count long size holds) ≡ none) where
  asks : (q : ℕ) → yes_to q (closing_for c count long size holds) ≡ true
  asks q = passed q (closing_for c count long size holds) pass

  pub fits-asked : is_in 5 (asked c) ≡ true → count < 2 ^ 64
  unfolding closing_for put
  fits-asked e = ltb-true count (2 ^ 64) (rw e at (asks 5))

  pub size-asked : is_in 6 (asked c) ≡ true → size ≡ long
  unfolding closing_for put
  size-asked e = eqb-true size long (rw e at (asks 6))

  pub object-asked : is_in 7 (asked c) ≡ true → holds ≡ true
  unfolding closing_for put
  object-asked e = rw e at (asks 7)

  pub rank_asked : is_in 8 (asked c) ≡ true → rank_given c < count
  unfolding closing_for put
  rank_asked e = ltb-true (rank_given c) count (rw e at (asks 8))

-- and which calls pass them
pub closing_passes : (c : Call) (count long size : ℕ) (holds : Bool) → (is_in 5 (asked c) ≡ true → count < 2 ^ 64) → size ≡ long → (is_in 7 (asked c) ≡ true → holds ≡ true)
    → (is_in 8 (asked c) ≡ true → rank_given c < count) → first_no (closing_for c count long size holds) ≡ none
unfolding closing_for put asked is_in first_no rank_given
closing_passes COUNT count long size holds fits sized object below = rw (lt-ltb count (2 ^ 64) (fits refl))
closing_passes FIRST count long size holds fits sized object below = rw (eq-eqb size long sized)
closing_passes LAST count long size holds fits sized object below = rw (eq-eqb size long sized)
closing_passes NEXT count long size holds fits sized object below = rw (eq-eqb size long sized, object refl)
closing_passes PREVIOUS count long size holds fits sized object below = rw (eq-eqb size long sized, object refl)
closing_passes RANK count long size holds fits sized object below = rw (lt-ltb count (2 ^ 64) (fits refl), eq-eqb size long sized, object refl)
closing_passes (UNRANK r) count long size holds fits sized object below = rw (lt-ltb count (2 ^ 64) (fits refl), eq-eqb size long sized, lt-ltb r count (below refl))

-- which calls demand 3 knows by another name

with_buffer_asked : (c : Call) → with_buffer c ≡ true → is_in 6 (asked c) ≡ true
unfolding asked is_in
with_buffer_asked COUNT w = absurd (false≢true w)
with_buffer_asked FIRST w = refl
with_buffer_asked LAST w = refl
with_buffer_asked NEXT w = refl
with_buffer_asked PREVIOUS w = refl
with_buffer_asked RANK w = refl
with_buffer_asked (UNRANK r) w = refl

with_object_asked : (c : Call) → with_object c ≡ true → is_in 7 (asked c) ≡ true
unfolding asked is_in
with_object_asked COUNT w = absurd (false≢true w)
with_object_asked FIRST w = absurd (false≢true w)
with_object_asked LAST w = absurd (false≢true w)
with_object_asked NEXT w = refl
with_object_asked PREVIOUS w = refl
with_object_asked RANK w = refl
with_object_asked (UNRANK r) w = absurd (false≢true w)

-- whatever is asked of a family, or a plan, before them: if that finds out whether there is an object, and asks NEXT what it asks PREVIOUS, the closing questions ask all that demand 3 needs
pub asks_enough : (opening : Call → List Question) (l : List Bytes) (long : ℕ) → ((c : Call) → is_in 4 (asked c) ≡ true → first_no (opening c) ≡ none → 0 < length l) → opening NEXT ≡ opening PREVIOUS
    → Asks (λ c size holds. first_no (opening c ++ closing_for c (length l) long size holds)) l long
unfolding asked is_in rank_given closing_for put
asks_enough opening l long some-object same =
    record {
      sized = λ c size holds w e. size-asked c (length l) long size holds (closes c size holds e) (with_buffer_asked c w);
      reads = λ c size holds w e. object-asked c (length l) long size holds (closes c size holds e) (with_object_asked c w);
      some_first = λ size holds e. some-object FIRST refl (left_passes (opening FIRST) (closing_for FIRST (length l) long size holds) e);
      some-last = λ size holds e. some-object LAST refl (left_passes (opening LAST) (closing_for LAST (length l) long size holds) e);
      below = λ r size holds e. below r size holds (closes (UNRANK r) size holds e);
      alike = alike;
    }
  where
    closes : (c : Call) (size : ℕ) (holds : Bool) → first_no (opening c ++ closing_for c (length l) long size holds) ≡ none → first_no (closing_for c (length l) long size holds) ≡ none
    closes c size holds e = right_passes (opening c) (closing_for c (length l) long size holds) e

    below : (r size : ℕ) (holds : Bool) → first_no (closing_for (UNRANK r) (length l) long size holds) ≡ none → r < length l
    below r size holds e = rank_asked (UNRANK r) (length l) long size holds e refl

    alike : (size : ℕ) (holds : Bool) → first_no (opening NEXT ++ closing_for NEXT (length l) long size holds) ≡ first_no (opening PREVIOUS ++ closing_for PREVIOUS (length l) long size holds)
    alike size holds = ap (λ (qs : List Question). first_no (qs ++ closing_for NEXT (length l) long size holds)) same
