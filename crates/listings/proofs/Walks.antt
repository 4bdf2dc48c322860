-- What whole walks give: the listing, its reverse, every rank's object; m steps on and back; RANK and UNRANK. Followed on the marker, which the calls are.
-- Assumes nothing.
use mathlib.Core.Path.{◌≡◌, refl, sym, ap, ◌∙◌}
use mathlib.Core.Bool.{Bool, true, false, false≢true}
use mathlib.Core.Option.{Option, none, some, some-ne-none}
use mathlib.Core.List.{List, ◌∷◌, ◌++◌, reverse, reverse-append}
use Prim.Native.Nat.{ℕ, zero, suc, ◌+◌, ◌-◌, ◌≤◌, ◌<◌}
use native.Mathlib.Nat.{add-zero, add-suc, suc-add}
use native.Mathlib.Decide.{dec_lt}
use native.Mathlib.Omega.{arith}
use lib.ListN.{length, get_or, take, drop, replicate, drop_of_length-le}
use lib.Seq.{drop-cons, take-suc, take_all}
use borrow.Author.Tests.{lt-ltb, le-ltb}
use Rattle.basics.specs.Sums.{range}
use Rattle.listings.specs.Bytes.{Bytes}
use Rattle.listings.specs.Places.{count_before}
use Rattle.listings.specs.Calls.{Call, FIRST, LAST, NEXT, PREVIOUS, RANK, UNRANK, REFUSED, RANKED, WRITTEN, Said, judged, act, responses}
use Rattle.listings.specs.Marker.{Mark, start, stands, shown, one_on, one_back, move, marked, Refuse, run_from, marker_run}
use Rattle.listings.specs.Runs.{heard, until_end, bytes_of, finally, unranks}
use Rattle.listings.proofs.Standing.{get_d_default, Tells, place-tells, found_rank, stands_at_rank}
use Rattle.listings.proofs.Ranks.{at_rank}
use Rattle.listings.proofs.Stepping.{place_here}
use Rattle.listings.proofs.Demand.{Lawful, Asks, answering, shows_start, stands-start, calls_are_the_marker}

reverse-take : (l : List Bytes) (p : ℕ) (d : Bytes) → p < length l → reverse (take (suc p) l) ≡ get_or l p d ∷ reverse (take p l)
reverse-take l p d h = rw (take-suc l p d h, reverse-append)

-- walks of the marker

module _ (refuse : Refuse) (l : List Bytes) (s : Bytes) where
  -- from place p on to the end
  on : refuse NEXT (length s) true ≡ none → (p m : ℕ) → p < length l → length l ≤ p + m → until_end (run_from refuse l s (some p) (replicate m NEXT)) ≡ some (drop (suc p) l)
  unfolding until_end heard run_from stands move marked one_on shown
  on free p zero h enough = absurd (omega arith)
  on free p (suc m) h enough = elim (dec_lt (suc p) (length l)) [
    | yes more ↦ rw (free, lt-ltb (suc p) (length l) more, on free (suc p) m more (omega arith), drop-cons l (suc p) s more)
    | no last ↦ rw (free, le-ltb (suc p) (length l) (omega arith), drop_of_length-le l {i = suc p} (omega arith))
  ]

  -- from place p back to the start
  back : refuse PREVIOUS (length s) true ≡ none → (p m : ℕ) → p < length l → p < m → until_end (run_from refuse l s (some p) (replicate m PREVIOUS)) ≡ some (reverse (take p l))
  unfolding until_end heard run_from stands move marked one_back shown
  back free p zero h enough = absurd (omega arith)
  back free zero (suc m) h enough = rw free
  back free (suc p) (suc m) h enough = rw (free, back free p m (omega arith) (omega arith), reverse-take l p s (omega arith))

  ranks : ((r : ℕ) (holds : Bool) → r < length l → refuse (UNRANK r) (length s) holds ≡ none) → (m : Mark) (r k : ℕ) → r + k ≡ length l
      → bytes_of (run_from refuse l s m (unranks r k)) ≡ drop r l
  unfolding bytes_of unranks range run_from move marked shown
  ranks free m r zero e = sym (drop_of_length-le l {i = r} (omega arith))
  ranks free m r (suc k) e = rw (free r (stands m) (omega arith), ranks free (some r) (suc r) k (omega arith), drop-cons l r s (omega arith))

  -- m steps on, where there are as many, and then further calls
  on_then : refuse NEXT (length s) true ≡ none → (p m : ℕ) (cs : List Call) → p + m < length l
      → finally (get_or l p s) (run_from refuse l s (some p) (replicate m NEXT ++ cs)) ≡ finally (get_or l (p + m) s) (run_from refuse l s (some (p + m)) cs)
  unfolding finally run_from stands move marked one_on shown
  on_then free p zero cs h = rw add-zero
  on_then free p (suc m) cs h = rw (free, lt-ltb (suc p) (length l) (omega arith), on_then free (suc p) m cs (omega arith), suc-add, add-suc)

  -- with as many objects behind it END isn't heard
  on_unheard : refuse NEXT (length s) true ≡ none → (p m : ℕ) → p + m < length l → until_end (run_from refuse l s (some p) (replicate m NEXT)) ≡ none
  unfolding until_end heard run_from stands move marked one_on shown
  on_unheard free p zero h = refl
  on_unheard free p (suc m) h = rw (free, lt-ltb (suc p) (length l) (omega arith), on_unheard free (suc p) m (omega arith))

  -- nor with as many before it, going back
  back_unheard : refuse PREVIOUS (length s) true ≡ none → (p m : ℕ) → m ≤ p → until_end (run_from refuse l s (some p) (replicate m PREVIOUS)) ≡ none
  unfolding until_end heard run_from stands move marked one_back shown
  back_unheard free p zero h = refl
  back_unheard free zero (suc m) h = absurd (omega arith)
  back_unheard free (suc p) (suc m) h = rw (free, back_unheard free p m (omega arith))

  -- m steps back
  back_to : refuse PREVIOUS (length s) true ≡ none → (p m : ℕ) → finally (get_or l (p + m) s) (run_from refuse l s (some (p + m)) (replicate m PREVIOUS)) ≡ get_or l p s
  unfolding finally run_from stands move marked one_back shown
  back_to free p zero = rw add-zero
  back_to free p (suc m) = rw (add-suc, free) (back_to free p m)

  -- where both steps are refused nothing moves
  stuck : (m : Mark) {q : ℕ} → refuse NEXT (length s) (stands m) ≡ some q → refuse PREVIOUS (length s) (stands m) ≡ some q
      → (i j : ℕ) → finally (shown l s m) (run_from refuse l s m (replicate i NEXT ++ replicate j PREVIOUS)) ≡ shown l s m
  unfolding finally run_from marked
  stuck m e f zero zero = refl
  stuck m e f zero (suc j) = rw f (stuck m e f zero j)
  stuck m e f (suc i) j = rw e (stuck m e f i j)

  -- and END isn't heard
  stuck_unheard : (m : Mark) {q : ℕ} → refuse NEXT (length s) (stands m) ≡ some q → (i : ℕ) → until_end (run_from refuse l s m (replicate i NEXT)) ≡ none
  unfolding until_end heard run_from marked
  stuck_unheard m e zero = refl
  stuck_unheard m e (suc i) = rw (e, stuck_unheard m e i)

-- a call that isn't answered by a refusal has passed its questions
pub passes : (o : Option ℕ) (x : Bytes) {a b : Said} → judged o x a ≡ b → ((q : ℕ) → REFUSED q ≡ b.0 → ⊥) → (o ≡ none) × (a ≡ b)
unfolding judged
passes none x e other = (refl, e)
passes (some q) x e other = absurd (other q (ap (λ (s : Said). s.0) e))

-- walks of the calls

module _ {refuse : Refuse} {object : Bytes → Bool} {lt : Bytes → Bytes → Bool} {l : List Bytes} {len : ℕ} (lawful : Lawful object lt l len) (asks : Asks refuse l len) where
  -- FIRST and NEXT until END give the listing
  pub first_on : (s : Bytes) → refuse FIRST (length s) (object s) ≡ none → refuse NEXT (length s) true ≡ none → (m : ℕ) → length l ≤ m
      → until_end (responses (answering refuse object lt l) s (FIRST ∷ replicate m NEXT)) ≡ some l
  unfolding until_end heard marker_run run_from move marked shown
  first_on s first next m enough =
      let h : 0 < length l = asks.some_first (length s) (object s) first in
      ap until_end (calls_are_the_marker lawful asks s (FIRST ∷ replicate m NEXT))
      ∙ rw (stands-start lawful asks s, first, on refuse l s next 0 m h (omega arith), ← drop-cons l 0 s h)

  -- LAST and PREVIOUS until END give it backwards
  pub last-back : (s : Bytes) → refuse LAST (length s) (object s) ≡ none → refuse PREVIOUS (length s) true ≡ none → (m : ℕ) → length l ≤ m
      → until_end (responses (answering refuse object lt l) s (LAST ∷ replicate m PREVIOUS)) ≡ some (reverse l)
  unfolding until_end heard marker_run run_from move marked shown
  last-back s last previous m enough =
      let h : 0 < length l = asks.some-last (length s) (object s) last in
      ap until_end (calls_are_the_marker lawful asks s (LAST ∷ replicate m PREVIOUS))
      ∙ rw (stands-start lawful asks s, last, back refuse l s previous (length l - 1) m (omega arith) (omega arith), ← reverse-take l (length l - 1) s (omega arith), take_all (suc (length l - 1)) l (omega arith))

  -- UNRANK with each rank in turn gives it too
  pub every_rank : (s : Bytes) → ((r : ℕ) (holds : Bool) → r < length l → refuse (UNRANK r) (length s) holds ≡ none)
      → bytes_of (responses (answering refuse object lt l) s (unranks 0 (length l))) ≡ l
  unfolding marker_run
  every_rank s free = ap bytes_of (calls_are_the_marker lawful asks s (unranks 0 (length l))) ∙ ranks refuse l s free (start l s) 0 (length l) (omega arith)

  -- from bytes that hold no object, or one with m more behind it, m times NEXT and then m times PREVIOUS restore them
  pub back_again : (m : ℕ) (s : Bytes) → (object s ≡ true → count_before lt s l + m < length l)
      → finally s (responses (answering refuse object lt l) s (replicate m NEXT ++ replicate m PREVIOUS)) ≡ s
  unfolding marker_run stands shown
  back_again m s room =
      ap (finally s) (calls_are_the_marker lawful asks s (replicate m NEXT ++ replicate m PREVIOUS))
      ∙ rw (shows_start lawful asks s) at (go (start l s) (place-tells l s) (sym (stands-start lawful asks s)) (refuse NEXT (length s) (stands (start l s))) refl)
    where
      go : (a : Mark) → Tells l s a → object s ≡ stands a → (o : Option ℕ) → refuse NEXT (length s) (stands a) ≡ o
          → finally (shown l s a) (run_from refuse l s a (replicate m NEXT ++ replicate m PREVIOUS)) ≡ shown l s a
      go a t e (some q) r = stuck refuse l s a r (sym (asks.alike (length s) (stands a)) ∙ r) m m
      go none t e none r = absurd (false≢true (asks.reads NEXT (length s) false refl r))
      go (some p) t e none r =
          let h : p + m < length l = omega (arith, room e, found_rank lawful.lists t) in
          on_then refuse l s r p m (replicate m PREVIOUS) h ∙ back_to refuse l s (sym (asks.alike (length s) true) ∙ r) p m

  -- the marker starts at an object's rank
  starts_at : (s : Bytes) → object s ≡ true → start l s ≡ some (count_before lt s l)
  starts_at s o = place_here lawful.lists (count_before lt s l) (at_rank lawful.lists s o)

  -- when END is heard: m times NEXT from an object hear none just where m more stand behind it
  pub next_unheard : (s : Bytes) → object s ≡ true → refuse NEXT (length s) true ≡ none → (m : ℕ) → count_before lt s l + m < length l
      → until_end (responses (answering refuse object lt l) s (replicate m NEXT)) ≡ none
  unfolding marker_run
  next_unheard s o free m h =
      ap until_end (calls_are_the_marker lawful asks s (replicate m NEXT)) ∙ rw (starts_at s o) (on_unheard refuse l s free (count_before lt s l) m h)

  pub unheard_room : (s : Bytes) → object s ≡ true → refuse NEXT (length s) true ≡ none → (m : ℕ) → until_end (responses (answering refuse object lt l) s (replicate m NEXT)) ≡ none
      → count_before lt s l + m < length l
  unfolding marker_run
  unheard_room s o free m e =
      let p = count_before lt s l in
      let run : until_end (run_from refuse l s (some p) (replicate m NEXT)) ≡ none = rw (starts_at s o) at (sym (ap until_end (calls_are_the_marker lawful asks s (replicate m NEXT))) ∙ e) in
      elim (dec_lt (p + m) (length l)) [
        | yes h ↦ h
        | no h ↦ absurd (some-ne-none (drop (suc p) l) (sym (on refuse l s free p m (stands_at_rank lawful.lists s o).inside (omega arith)) ∙ run))
      ]

  -- m times PREVIOUS hear none where m stand before it
  pub previous_unheard : (s : Bytes) → object s ≡ true → refuse PREVIOUS (length s) true ≡ none → (m : ℕ) → m ≤ count_before lt s l
      → until_end (responses (answering refuse object lt l) s (replicate m PREVIOUS)) ≡ none
  unfolding marker_run
  previous_unheard s o free m h =
      ap until_end (calls_are_the_marker lawful asks s (replicate m PREVIOUS)) ∙ rw (starts_at s o) (back_unheard refuse l s free (count_before lt s l) m h)

  -- and where NEXT is refused it goes on being refused
  pub refused_unheard : (s : Bytes) {q : ℕ} → refuse NEXT (length s) (object s) ≡ some q → (m : ℕ)
      → until_end (responses (answering refuse object lt l) s (replicate m NEXT)) ≡ none
  unfolding marker_run
  refused_unheard s e m =
      ap until_end (calls_are_the_marker lawful asks s (replicate m NEXT))
      ∙ stuck_unheard refuse l s (start l s) (ap (λ (t : Bool). refuse NEXT (length s) t) (stands-start lawful asks s) ∙ e) m

  -- UNRANK of what RANK answers writes the object again, into any bytes that it accepts
  pub rank_back : (x y : Bytes) (r : ℕ) → answering refuse object lt l RANK x ≡ (RANKED r, x) → refuse (UNRANK r) (length y) (object y) ≡ none
      → answering refuse object lt l (UNRANK r) y ≡ (WRITTEN, x)
  unfolding answering judged act
  rank_back x y r ranked free =
      let k = passes (refuse RANK (length x) (object x)) x ranked (λ q e. let z : ◌≡◌ {A = ℕ} 0 1 = cc in omega arith) in
      let rank : count_before lt x l ≡ r = cc (ap (λ (s : Said). s.0) k.1) in
      rw (free, ← rank, (stands_at_rank lawful.lists x (asks.reads RANK (length x) (object x) refl k.0)).there y)

  -- and RANK of what UNRANK writes answers the rank again
  pub unrank_back : (x y : Bytes) (r : ℕ) → answering refuse object lt l (UNRANK r) y ≡ (WRITTEN, x) → refuse RANK (length x) (object x) ≡ none
      → answering refuse object lt l RANK x ≡ (RANKED r, x)
  unfolding answering judged act
  unrank_back x y r written free =
      let k = passes (refuse (UNRANK r) (length y) (object y)) y written (λ q e. let z : ◌≡◌ {A = ℕ} 0 1 = cc in omega arith) in
      let h : r < length l = asks.below r (length y) (object y) k.0 in
      let there : get_or l r y ≡ x = ap (λ (s : Said). s.1) k.1 in
      rw (free, found_rank lawful.lists (record { inside = h; there = λ d. get_d_default l r d y h ∙ there }))
