-- What a jump does, for any family, lists, distance and bytes: where it leads, when it ends, that it can be undone, and that by one it is a step.
-- Assumes nothing.
use mathlib.Core.Path.{◌≡◌, refl, sym, ◌∙◌, ap, subst}
use mathlib.Core.Logic.{◌↔◌}
use mathlib.Core.Bool.{true}
use mathlib.Core.Option.{Option, none, some}
use Prim.Native.Nat.{ℕ, zero, suc, ◌-◌, ◌<◌, ◌^◌}
use native.Mathlib.Omega.{arith}
use native.Mathlib.Decide.{dec_lt}
use native.Mathlib.Numerals.{add-one}
use lib.IntN.{ℤ, pos, negsuc, neg_ℤ, ◌+ℤ◌, +ℤ_invr}
use lib.ListN.{length}
use Rattle.listings.specs.Bytes.{Bytes}
use Rattle.listings.specs.Places.{At}
use Rattle.listings.specs.Calls.{NEXT, PREVIOUS, RANK, UNRANK, REFUSED, RANKED, WRITTEN, END, Said, judged}
use Rattle.listings.proofs.PlaceRules.{at_below, at_unique_element}
use Rattle.listings.proofs.Standing.{get_elem_some}
use Rattle.families.specs.declared.Family.{Family}
use Rattle.families.specs.Table.{Lent}
use Rattle.families.specs.Families.{is_object, listing, count_of, rank_of}
use Rattle.families.specs.Questions.{asked, is_in, refusal}
use Rattle.families.specs.Calls.{respond}
use Rattle.families.proofs.FamilyFacts.{rank_is_place}
use Rattle.families.proofs.Verdicts.{asks_enough, next_as_rank, previous_as_rank}
use Rattle.families.proofs.Going.{object-here, not_written}
use Rattle.families.proofs.Answered.{refused_where_missed, missed_where_refused, object_at_rank, rank_told, rank_answers, next-answers, next_ends, previous_answers, previous_ends}
use Rattle.jump.specs.Jumps.{target, jumped, jump, as_jump}
use Rattle.jump.proofs.Targets.{target_is, target_none, before-first, back_to, behind_last, on_to, targets_add, target_itself}
use Rattle.jump.proofs.Landing.{goes, count_fits, writes}

-- RANK's questions to the bytes x
abbrev pub misses : Family → Lent → Bytes → Option ℕ
misses f b x = refusal RANK f b (length x) (is_object f b x)

-- where a jump by d from x leads
abbrev pub aimed : Family → Lent → ℤ → Bytes → Option ℕ
aimed f b d x = target (rank_of f b x) (count_of f b) d

-- a jump from x has landed at y
pub record Landed (f : Family) (b : Lent) (d : ℤ) (x y : Bytes) : Type 0 where
  pub passes : misses f b x ≡ none
  pub place : ℕ
  pub aim : aimed f b d x ≡ some place
  pub here : At (listing f b) y place

-- how a jump has gone: a question was missed; no rank is r + d; or one is
data Gone (f : Family) (b : Lent) (d : ℤ) (x : Bytes) : Said → Type 0 where
  missed : {q : ℕ} → misses f b x ≡ some q → Gone f b d x (REFUSED q, x)
  ended : misses f b x ≡ none → aimed f b d x ≡ none → Gone f b d x (END, x)
  landed : {y : Bytes} → Landed f b d x y → Gone f b d x (WRITTEN, y)

not_ended : END ≡ WRITTEN → ⊥
not_ended e = let z : ◌≡◌ {A = ℕ} 0 1 = cc in omega arith

module _ (f : Family) (b : Lent) where
  gone : (d : ℤ) (x : Bytes) → Gone f b d x (jump f b d x)
  unfolding jump judged jumped count_of
  gone d x = asks (misses f b x) refl
    where
      aims : (o : Option ℕ) → misses f b x ≡ none → aimed f b d x ≡ o → Gone f b d x (jumped x (listing f b) o)
      aims none pass e = ended pass e
      aims (some p) pass e =
          let (_, below) = (target_is (rank_of f b x) (count_of f b) d p).0 e in
          landed (record { passes = pass; place = p; aim = e; here = get_elem_some (listing f b) p x below })

      asks : (o : Option ℕ) → misses f b x ≡ o → Gone f b d x (judged o x (jumped x (listing f b) (aimed f b d x)))
      asks none e = aims (aimed f b d x) e refl
      asks (some q) e = missed e

  went : {d : ℤ} {x : Bytes} {s : Said} → Gone f b d x s → s.0 ≡ WRITTEN → Landed f b d x s.1
  went (missed e) w = absurd (not_written w)
  went (ended pass e) w = absurd (not_ended w)
  went (landed l) w = l

  has_landed : (d : ℤ) (x : Bytes) {y : Bytes} → jump f b d x ≡ (WRITTEN, y) → Landed f b d x y
  has_landed d x e = subst (Landed f b d x) (ap (λ (s : Said). s.1) e) (went (gone d x) (ap (λ (s : Said). s.0) e))

  -- the object there is written
  lands : (d : ℤ) (x : Bytes) {y : Bytes} → Landed f b d x y → jump f b d x ≡ (WRITTEN, y)
  unfolding jumped
  lands d x l =
      let at = get_elem_some (listing f b) l.place x (at_below (listing f b) l.place l.here) in
      goes f b d x l.passes ∙ rw l.aim (ap (λ (y : Bytes). (WRITTEN, y)) (at_unique_element (listing f b) l.place at l.here))

  passed-object : (x : Bytes) → misses f b x ≡ none → is_object f b x ≡ true
  unfolding asked is_in
  passed-object x pass = (asks_enough f b).reads RANK (length x) (is_object f b x) refl pass

  rank_below : (x : Bytes) → misses f b x ≡ none → rank_of f b x < count_of f b
  unfolding count_of
  rank_below x pass = at_below (listing f b) (rank_of f b x) (object_at_rank f b x (passed-object x pass))

  -- RANK of the object reached answers r + d
  pub rank_reached : (d : ℤ) (x y : Bytes) → jump f b d x ≡ (WRITTEN, y)
      → (respond RANK f b y ≡ (RANKED (rank_of f b y), y)) × (pos (rank_of f b y) ≡ pos (rank_of f b x) +ℤ d)
  rank_reached d x y e =
      let l = has_landed d x e in
      let rank = rank_is_place f b l.place l.here in (
        rank_answers f b y (object-here f b l.place l.here) (count_fits f b d x l.passes),
        ap pos rank ∙ ((target_is (rank_of f b x) (count_of f b) d l.place).0 l.aim).0,
      )

  -- the questions are RANK's, and a refusal leaves the bytes
  pub refused_as_rank : (d : ℤ) (x : Bytes) {q : ℕ} → (jump f b d x ≡ (REFUSED q, x)) ↔ (respond RANK f b x ≡ (REFUSED q, x))
  unfolding jump judged
  refused_as_rank d x {q} =
      (λ e. refused_where_missed f b RANK x (first (gone d x) (ap (λ (s : Said). s.0) e)), λ e. rw (missed_where_refused f b RANK x e).first)
    where
      first : {s : Said} → Gone f b d x s → s.0 ≡ REFUSED q → misses f b x ≡ some q
      first (missed {q = p} e) h =
          let same : p ≡ q = cc in
          e ∙ ap {B = Option ℕ} some same
      first (ended pass e) h = let z : ◌≡◌ {A = ℕ} 0 1 = cc in absurd (omega arith)
      first (landed l) h = absurd (not_written (sym h))

  -- END is answered exactly where no question is missed and no rank is r + d
  pub jump_ends : (d : ℤ) (x : Bytes)
      → ((jump f b d x).0 ≡ END) ↔ ((misses f b x ≡ none) × ((p : ℕ) → pos p ≡ pos (rank_of f b x) +ℤ d → p < count_of f b → ⊥))
  unfolding jumped
  jump_ends d x = (ends (gone d x), λ h. ap (λ (s : Said). s.0) (goes f b d x h.0) ∙ ends_so h.1)
    where
      ends : {s : Said} → Gone f b d x s → s.0 ≡ END → (misses f b x ≡ none) × ((p : ℕ) → pos p ≡ pos (rank_of f b x) +ℤ d → p < count_of f b → ⊥)
      ends (missed e) h = let z : ◌≡◌ {A = ℕ} 0 1 = cc in absurd (omega arith)
      ends (ended pass e) h = (pass, (target_none (rank_of f b x) (count_of f b) d).0 e)
      ends (landed l) h = absurd (not_ended (sym h))

      ends_so : ((p : ℕ) → pos p ≡ pos (rank_of f b x) +ℤ d → p < count_of f b → ⊥) → (jumped x (listing f b) (aimed f b d x)).0 ≡ END
      ends_so h = rw ((target_none (rank_of f b x) (count_of f b) d).1 h)

  -- a jump that writes nothing leaves the bytes
  pub stays : (d : ℤ) (x : Bytes) → ((jump f b d x).0 ≡ WRITTEN → ⊥) → (jump f b d x).1 ≡ x
  stays d x = left (gone d x)
    where
      left : {s : Said} → Gone f b d x s → (s.0 ≡ WRITTEN → ⊥) → s.1 ≡ x
      left (missed e) h = refl
      left (ended pass e) h = refl
      left (landed l) h = absurd (h refl)

  -- where r + d is a rank, the jump is UNRANK of it
  pub jump-unranks : (d : ℤ) (x : Bytes) (p : ℕ) → is_object f b x ≡ true → count_of f b < 2 ^ 64 → pos p ≡ pos (rank_of f b x) +ℤ d → p < count_of f b
      → jump f b d x ≡ respond (UNRANK p) f b x
  unfolding jumped
  jump-unranks d x p o fits same below =
      let (pass, _) = rank_told f b x (rank_answers f b x o fits) in
      goes f b d x pass ∙ rw ((target_is (rank_of f b x) (count_of f b) d p).1 (same, below)) (sym (writes f b d x pass below))

  -- no distance: the same object, and never END
  pub jump-none : (x : Bytes) → jump f b (pos 0) x ≡ judged (misses f b x) x (WRITTEN, x)
  unfolding jump judged
  jump-none x = none_moved (misses f b x) refl
    where
      none_moved : (o : Option ℕ) → misses f b x ≡ o → jump f b (pos 0) x ≡ judged o x (WRITTEN, x)
      none_moved none e =
          lands (pos 0) x
          (record {
            passes = e;
            place = rank_of f b x;
            aim = target_itself (rank_of f b x) (count_of f b) (rank_below x e);
            here = object_at_rank f b x (passed-object x e);
          })
      none_moved (some q) e = rw e

  -- after a jump that landed, a second one goes where their sum goes from the start
  pub jumps_add : (d e : ℤ) (x y z : Bytes) → jump f b d x ≡ (WRITTEN, y) → (jump f b e y ≡ (WRITTEN, z)) ↔ (jump f b (d +ℤ e) x ≡ (WRITTEN, z))
  jumps_add d e x y z first = (λ then. lands (d +ℤ e) x (on (has_landed e y then)), λ whole. lands e y (part (has_landed (d +ℤ e) x whole)))
    where
      half : Landed f b d x y
      half = has_landed d x first

      sum : aimed f b e y ≡ aimed f b (d +ℤ e) x
      sum =
          ap (λ (r : ℕ). target r (count_of f b) e) (rank_is_place f b half.place half.here)
          ∙ targets_add (rank_of f b x) (count_of f b) d half.aim e

      on : Landed f b e y z → Landed f b (d +ℤ e) x z
      on l = record { passes = half.passes; place = l.place; aim = sym sum ∙ l.aim; here = l.here }

      part : Landed f b (d +ℤ e) x z → Landed f b e y z
      part l = record { passes = (rank_told f b y (rank_reached d x y first).0).0; place = l.place; aim = sum ∙ l.aim; here = l.here }

  -- so the way back can't end
  pub jump_back : (m : ℤ) (x y : Bytes) → jump f b m x ≡ (WRITTEN, y) → jump f b (neg_ℤ m) y ≡ (WRITTEN, x)
  unfolding judged
  jump_back m x y e =
      let itself = ap (λ (d : ℤ). jump f b d x) (+ℤ_invr m) ∙ jump-none x ∙ ap (λ (o : Option ℕ). judged o x (WRITTEN, x)) (has_landed m x e).passes in
      (jumps_add m (neg_ℤ m) x y x e).1 itself

  -- and whatever the bytes, if the first jump doesn't end, the two restore them
  pub back_again : (m : ℤ) (x : Bytes) → ((jump f b m x).0 ≡ END → ⊥) → (jump f b (neg_ℤ m) (jump f b m x).1).1 ≡ x
  unfolding jump judged
  back_again m x quiet = restored (gone m x) refl quiet
    where
      restored : {s : Said} → Gone f b m x s → jump f b m x ≡ s → (s.0 ≡ END → ⊥) → (jump f b (neg_ℤ m) s.1).1 ≡ x
      restored (missed e) at h = rw e
      restored (ended pass e) at h = absurd (h refl)
      restored (landed {y} l) at h = ap (λ (s : Said). s.1) (jump_back m x y at)

  -- by one place a jump is a step, where the count fits, which no step asks

  -- an object's place, by its rank
  stands : (y : Bytes) {p : ℕ} → is_object f b y ≡ true → rank_of f b y ≡ p → At (listing f b) y p
  stands y o e = rw e at (object_at_rank f b y o)

  ends_at : (d : ℤ) (x : Bytes) → misses f b x ≡ none → aimed f b d x ≡ none → jump f b d x ≡ (END, x)
  unfolding jumped
  ends_at d x pass e = goes f b d x pass ∙ rw e

  pub jump-next : (x : Bytes) → count_of f b < 2 ^ 64 → jump f b (pos 1) x ≡ as_jump (respond NEXT f b x)
  unfolding jump judged as_jump
  jump-next x fits = by_one (misses f b x) refl
    where
      by_one : (o : Option ℕ) → misses f b x ≡ o → jump f b (pos 1) x ≡ as_jump (respond NEXT f b x)
      by_one (some q) e = rw (e, refused_where_missed f b NEXT x (sym (next_as_rank f b (length x) (is_object f b x) fits) ∙ e))
      by_one none e =
          let o = passed-object x e in
          let r = rank_of f b x in
          let below = rank_below x e in
          elim (dec_lt (suc r) (count_of f b)) [
            | yes h ↦
                let n = next-answers f b x o h in
                let aim = sym (on_to r (count_of f b) 1 refl (omega arith)) ∙ ap {B = Option ℕ} some (add-one r) in
                lands (pos 1) x (record { passes = e; place = suc r; aim = aim; here = stands n.object n.is-object n.rank })
                ∙ sym (ap as_jump n.stepped)
            | no h ↦
                ends_at (pos 1) x e (sym (behind_last r (count_of f b) 1 refl (omega arith)))
                ∙ sym (ap as_jump (next_ends f b x o (omega (arith, below))))
          ]

  pub jump_previous : (x : Bytes) → count_of f b < 2 ^ 64 → jump f b (negsuc 0) x ≡ as_jump (respond PREVIOUS f b x)
  unfolding jump judged as_jump
  jump_previous x fits = by_one (misses f b x) refl
    where
      from : (r : ℕ) → misses f b x ≡ none → rank_of f b x ≡ r → jump f b (negsuc 0) x ≡ as_jump (respond PREVIOUS f b x)
      from zero e h =
          ends_at (negsuc 0) x e (sym (before-first (rank_of f b x) (count_of f b) 0 refl (rank_below x e) (omega arith)))
          ∙ sym (ap as_jump (previous_ends f b x (passed-object x e) h))
      from (suc r) e h =
          let p = previous_answers f b x r (passed-object x e) h in
          let one : rank_of f b x - 1 - 0 ≡ r = omega arith in
          let aim = sym (back_to (rank_of f b x) (count_of f b) 0 refl (rank_below x e) (omega arith)) ∙ ap {B = Option ℕ} some one in
          lands (negsuc 0) x (record { passes = e; place = r; aim = aim; here = stands p.object p.is-object p.rank })
          ∙ sym (ap as_jump p.stepped)

      by_one : (o : Option ℕ) → misses f b x ≡ o → jump f b (negsuc 0) x ≡ as_jump (respond PREVIOUS f b x)
      by_one (some q) e = rw (e, refused_where_missed f b PREVIOUS x (sym (previous_as_rank f b (length x) (is_object f b x) fits) ∙ e))
      by_one none e = from (rank_of f b x) e refl
