-- The step in both directions: where the last letter with a later one behind it takes the next of these, and the letters behind start over,
-- that is the neighbour. And what the two searches of a step know of the tail that they have passed. Assumes nothing.
use mathlib.Core.Path.{◌≡◌, refl, sym, ◌∙◌}
use mathlib.Core.Logic.{◌⊎◌, inl, inr, ⊎_elim}
use mathlib.Core.Bool.{Bool, true, false, not, true≢false}
use mathlib.Core.List.Memᴰ
use mathlib.Core.List.Permᴰ
use mathlib.Core.List.{List, [], ◌∷◌, ◌++◌, reverse, Memᴰ, Permᴰ}
use Prim.Native.Nat.{ℕ, suc, ◌+◌, ◌≤◌, ◌<◌}
use native.Mathlib.Omega.{arith}
use lib.ListN.{length, get_or, drop, drop_of_length-le, length-drop}
use lib.Seq.{drop-cons}
use borrow.Author.Tests.{ltb-true, ltb-false, lt-ltb, le-ltb, not-true}
use Rattle.numbers.specs.Numbers.{one_less}
use Rattle.numbers.proofs.Laws.{has_letter}
use Rattle.listings.specs.Bytes.{Bytes}
use Rattle.listings.specs.Listings.{none, more}
use Rattle.listings.specs.Directions.{Beside}
use Rattle.listings.proofs.Ranks.{beside_none}
use Rattle.listings.proofs.ChoicePlaces.{beside-inside, beside_seam}
use Rattle.anagrams.specs.Objects.{is_anagram}
use Rattle.anagrams.specs.Listing.{anagrams}
use Rattle.anagrams.specs.Inner.Directions.{precedes_by, Spent, NoneBeyond}
use Rattle.anagrams.proofs.Facts.{first_off, rearranged}
use Rattle.anagrams.proofs.Places.{others, put, by_letter, letters, not_itself, refuted, behind, spent_edge, spent_reverse}

-- one letter and another

not_back : (up : Bool) (a b : ℕ) → precedes_by up a b ≡ true → precedes_by up b a ≡ false
unfolding precedes_by
not_back true a b h = le-ltb b a (omega (arith, ltb-true a b h))
not_back false a b h = le-ltb a b (omega (arith, ltb-true b a h))

-- where each does not precede the next, the first does not precede the third
not_later : (up : Bool) (a b c : ℕ) → precedes_by up a b ≡ false → precedes_by up b c ≡ false → precedes_by up a c ≡ false
unfolding precedes_by
not_later true a b c h k = le-ltb a c (omega (arith, ltb-false a b h, ltb-false b c k))
not_later false a b c h k = le-ltb c a (omega (arith, ltb-false b a h, ltb-false c b k))

-- a before the last word of its tail's letters, b before the first word of its tail's, and no letter between a and b
beside_pivot : (up : Bool) (cs : List ℕ) (a b : ℕ) (s t : Bytes) → is_anagram cs (a ∷ s) ≡ true → is_anagram cs (b ∷ t) ≡ true → precedes_by up a b ≡ true → Spent up s → Spent (not up) t
    → ((c : ℕ) → Memᴰ c s → precedes_by up a c ≡ true → precedes_by up c b ≡ true → ⊥) → Beside up (anagrams cs) (a ∷ s) (b ∷ t)
unfolding precedes_by
beside_pivot up cs a b s t o p less ends starts apart =
    let (i, e, h, off) = first_off cs a s o in
    let (j, f, k, off') = first_off cs b t p in
    rw (by_letter cs i h, e, f)
    (beside_seam (others cs) put (beside_none (letters cs) up (lt-ltb 0 _ h) (lt-ltb 0 _ k) (rw (e, f) at less) (λ n q l r. let l' = rw (← e) at l in apart (suc n) (behind up cs a s n o (ltb-true 0 _ q) l') l' (rw (← f) at r)))
    (spent_edge up (one_less cs i) s off ends) (spent_edge (not up) (one_less cs j) t off' starts))

-- in the tail, b is the last letter that a precedes
module _ (up : Bool) (a b : ℕ) (v : Bytes) (less : precedes_by up a b ≡ true) (rest : NoneBeyond up a v) where
  -- so a in its place precedes no later one either, and no letter in front of it precedes a
  spent_swapped : (u : Bytes) → Spent up (u ++ (b ∷ v)) → Spent up (u ++ (a ∷ v))
  spent_swapped [] (more before tail) = more {x = a} (λ c k. rw (rest c k)) tail
  spent_swapped (d ∷ u) (more before tail) = more {x = d} (λ c k. apart c (Memᴰ.append_cases u k)) (spent_swapped u tail)
    where
      apart : (c : ℕ) → Memᴰ c u ⊎ Memᴰ c (a ∷ v) → not (precedes_by up d c) ≡ true
      apart c (inl k) = before c (Memᴰ.append_left (b ∷ v) k)
      apart c (inr (Memᴰ.head e)) = rw (e, not_later up d b a (not-true _ (before b (Memᴰ.append_right u (Memᴰ.head refl)))) (not_back up a b less))
      apart c (inr (Memᴰ.tail k)) = before c (Memᴰ.append_right u (Memᴰ.tail k))

  -- and no letter of the tail lies between the two
  none_lies : (u : Bytes) (c : ℕ) → Spent up (u ++ (b ∷ v)) → Memᴰ c (u ++ (b ∷ v)) → precedes_by up a c ≡ true → precedes_by up c b ≡ true → ⊥
  none_lies [] c s (Memᴰ.head e) h l = not_itself up c b e l
  none_lies [] c s (Memᴰ.tail k) h l = true≢false (sym h ∙ rest c k)
  none_lies (d ∷ u) c (more before tail) (Memᴰ.head e) h l = refuted (before b (Memᴰ.append_right u (Memᴰ.head refl))) (rw e at l)
  none_lies (d ∷ u) c (more before tail) (Memᴰ.tail k) h l = none_lies u c tail k h l

  -- a and b change places, and what stands behind the first is turned round
  exchanged : (u : Bytes) → Permᴰ (b ∷ reverse (u ++ (a ∷ v))) (a ∷ (u ++ (b ∷ v)))
  exchanged u =
      Permᴰ.trans (Permᴰ.cons refl (Permᴰ.trans (Permᴰ.reverse (u ++ (a ∷ v))) (Permᴰ.middle a u v)))
      (Permᴰ.trans (Permᴰ.swap refl refl) (Permᴰ.cons refl (Permᴰ.symm (Permᴰ.middle b u v))))

  pub stepped : (cs : List ℕ) (front u : Bytes) → Spent up (u ++ (b ∷ v)) → is_anagram cs (front ++ (a ∷ (u ++ (b ∷ v)))) ≡ true
      → Beside up (anagrams cs) (front ++ (a ∷ (u ++ (b ∷ v)))) (front ++ (b ∷ reverse (u ++ (a ∷ v))))
  stepped cs [] u s o = beside_pivot up cs a b _ _ o (rearranged cs (exchanged u) ∙ o) less s (spent_reverse up (spent_swapped u s)) (λ c. none_lies u c s)
  stepped cs (d ∷ front) u s o =
      let (i, e, h, off) = first_off cs d _ o in
      rw (by_letter cs i h, e) (beside-inside (others cs) put (has_letter cs i h) (stepped (one_less cs i) front u s off))

-- the search for the pivot, from the end: no letter behind it precedes a later one

spent_cons : (up : Bool) {a b : ℕ} {x : Bytes} → precedes_by up a b ≡ false → Spent up (b ∷ x) → Spent up (a ∷ b ∷ x)
spent_cons up {a} {b} {x} h (more before rest) = more {x = a} (λ c k. rw (apart c (Memᴰ.cases_cons k))) (more before rest)
  where
    apart : (c : ℕ) → (c ≡ b) ⊎ Memᴰ c x → precedes_by up a c ≡ false
    apart c (inl e) = rw e h
    apart c (inr k) = not_later up a b c h (not-true _ (before c k))

pub spent_none : (up : Bool) (x : Bytes) (i : ℕ) → length x ≤ i + 1 → Spent up (drop i x)
spent_none up x i h = short (drop i x) (simp length-drop (omega arith))
  where
    short : (y : Bytes) → length y ≤ 1 → Spent up y
    short [] k = none
    short (a ∷ []) k = more (λ b m. absurd (Memᴰ.not-nil m)) none
    short (a ∷ b ∷ y) k = absurd (omega arith)

pub spent_more : (up : Bool) (x : Bytes) (i j : ℕ) → j ≡ i + 1 → j < length x → precedes_by up (get_or x i 0) (get_or x j 0) ≡ false → Spent up (drop j x) → Spent up (drop i x)
spent_more up x i j e h less s =
    let next : suc i ≡ j = omega arith in
    let tail = drop-cons x j 0 h in
    rw (drop-cons x i 0 (omega arith), next, tail) (spent_cons up less (rw tail at s))

-- the search for the last letter that a precedes, from the end: it precedes none behind

pub beyond_none : (up : Bool) (a : ℕ) (x : Bytes) → NoneBeyond up a (drop (length x) x)
beyond_none up a x c k = absurd (Memᴰ.not-nil (rw (drop_of_length-le x {i = length x} (omega arith)) at k))

pub beyond_more : (up : Bool) (a : ℕ) (x : Bytes) (i j : ℕ) → j ≡ i + 1 → i < length x → precedes_by up a (get_or x i 0) ≡ false → NoneBeyond up a (drop j x) → NoneBeyond up a (drop i x)
beyond_more up a x i j e h here later c k =
    let next : suc i ≡ j = omega arith in
    ⊎_elim (λ (is : c ≡ get_or x i 0). rw is here) (λ m. later c (rw (← next) m)) (Memᴰ.cases_cons (rw (drop-cons x i 0 h) at k))
