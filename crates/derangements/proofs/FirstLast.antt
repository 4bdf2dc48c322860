-- The first derangement is one cycle, 2, 3, .., n, 1, and the last has n - 1 and n exchanged behind the last of the others, down to 2 1 or 3 1 2.
-- Assumes nothing.
use mathlib.Core.Path.{◌≡◌, refl, sym, ◌∙◌, ap, subst}
use mathlib.Core.Bool.{true, false}
use mathlib.Core.List.{[], ◌∷◌, ◌++◌, flat_map}
use Prim.Native.Nat.{ℕ, zero, suc, ◌+◌, ◌-◌, ◌*◌, ◌≤◌, ◌<◌}
use native.Mathlib.Nat.{add-zero}
use native.Mathlib.Decide.{dec_lt}
use native.Mathlib.Omega.{arith}
use lib.ListN.{length, get_or, set, length-append, get_or-append}
use lib.Seq.{get_or-append-add, set-append_seam}
use borrow.Author.Tests.{le-ltb}
use Rattle.basics.specs.Sums.{range}
use Rattle.basics.proofs.Ranges.{length-range, range_snoc}
use Rattle.listings.specs.Bytes.{Bytes}
use Rattle.listings.specs.Directions.{Edge, latest, earliest}
use Rattle.listings.specs.Places.{First, Last}
use Rattle.listings.proofs.Ranks.{edge_first, edge_last}
use Rattle.derangements.specs.Cycles.{image, images, lowered, raised}
use Rattle.derangements.specs.Objects.{is_derangement}
use Rattle.derangements.specs.Listing.{splice, pair, join, derangements}
use Rattle.derangements.specs.Inner.Keys.{high_key, low_key}
use Rattle.derangements.specs.Inner.Moves.{goes}
use Rattle.derangements.proofs.Images.{Among, images-long, image_of, same-images, Deranged, deranged}
use Rattle.derangements.proofs.Facts.{Raised, below, above, raised_as, Lowered, lowered_as, spliced, Spliced, at_end_lem, to_end, other, spliced_as, splice-is, with_pair, Pairs, there, pair_as, pair_is}
use Rattle.derangements.proofs.Theorem.{left_in_cycle, left_in_pair, join_cycle, join-pair, none_left}
use Rattle.derangements.proofs.Places.{low-is, high_is, edge_joined, edge_object, empty_edge}

get_d_range : (a k i : ℕ) → i < k → get_or (range a k) i 0 ≡ a + i
unfolding range
get_d_range a zero i h = absurd (omega arith)
get_d_range a (suc k) zero h = sym (add-zero a)
get_d_range a (suc k) (suc i) h = get_d_range (suc a) k i (omega arith) ∙ omega arith

-- 2, .., k + 1, 1

abbrev pub one_cycle : ℕ → Bytes
one_cycle k = range 2 k ++ (1 ∷ [])

cycle_long : (k : ℕ) → length (one_cycle k) ≡ suc k
cycle_long k = length-append (range 2 k) (1 ∷ []) ∙ omega (arith, length-range 2 k)

cycle_image : (k i : ℕ) → Among k i → image (one_cycle k) i ≡ suc i
cycle_image k i a = get_or-append (range 2 k) (1 ∷ []) 0 (i - 1) (omega (arith, a, length-range 2 k)) ∙ get_d_range 2 k (i - 1) (omega (arith, a)) ∙ omega (arith, a)

cycle_end : (k i : ℕ) → i ≡ suc k → image (one_cycle k) i ≡ 1
cycle_end k i e = ap (λ j. get_or (one_cycle k) j 0) (omega (arith, e, length-range 2 k)) ∙ get_or-append-add (range 2 k) (1 ∷ []) 0 0

module _ (m : ℕ) where
  abbrev n : ℕ
  n = suc (suc (suc m))

  abbrev x : Bytes
  x = one_cycle (suc m)

  cycle_same : (i : ℕ) → Among n i → Spliced n 1 (image x) i → spliced n 1 (image x) i ≡ image (one_cycle (suc (suc m))) i
  cycle_same i b (at_end_lem e v) = v ∙ sym (cycle_end (suc (suc m)) i e)
  cycle_same i b (to_end p e v) = elim (dec_lt (suc m) i) [
    | yes h ↦ v ∙ sym (cycle_image (suc (suc m)) i (omega (arith, b, p)) ∙ omega (arith, b, p, h))
    | no h ↦ absurd (omega (arith, b, e, cycle_image (suc m) i (omega (arith, b, h))))
  ]
  cycle_same i b (other p q v) = elim (dec_lt (suc m) i) [
    | yes h ↦ absurd (q (cycle_end (suc m) i (omega (arith, b, p, h))))
    | no h ↦ v ∙ cycle_image (suc m) i (omega (arith, b, h)) ∙ sym (cycle_image (suc (suc m)) i (omega (arith, b, h)))
  ]

  cycle_more : join n 1 x ≡ one_cycle (suc (suc m))
  cycle_more =
      join_cycle (suc m) 1 x (omega arith) ∙ splice-is (suc m) 1 x
      ∙ same-images n (images n (spliced n 1 (image x))) (one_cycle (suc (suc m))) (images-long n (spliced n 1 (image x))) (cycle_long (suc (suc m))) (λ i b. image_of n (spliced n 1 (image x)) i b ∙ cycle_same i b (spliced_as n 1 (image x) i))

high_some : (m : ℕ) → 1 ≤ high_key (suc (suc (suc m)))
unfolding high_key
high_some zero = omega arith
high_some (suc m) = omega (arith, high_is m)

-- at the first key nothing goes back, and at the last nothing goes on

goes_back : (m : ℕ) → goes false (suc (suc (suc m))) 1 ≡ false
unfolding goes
goes_back m = le-ltb (low_key (suc (suc (suc m)))) 1 (omega (arith, low-is m))

goes_on : (m : ℕ) → goes true (suc (suc (suc (suc m)))) (2 * suc (suc (suc m))) ≡ false
unfolding goes
goes_on m = le-ltb (2 * suc (suc (suc m))) (high_key (suc (suc (suc (suc m))))) (omega (arith, high_is m))

pub first_cycle : (m : ℕ) → Edge false (derangements (suc (suc m))) (one_cycle (suc m))
unfolding derangements join pair lowered raised range flat_map
first_cycle zero = earliest refl
first_cycle (suc m) = subst (Edge false (derangements (suc (suc (suc m))))) (cycle_more m) (edge_joined (suc m) 1 record { low = omega (arith, low-is m); high = high_some m } (goes_back m) (rw (left_in_cycle (suc m) 1 (omega arith)) (first_cycle m)))

-- the last two places hold each other's numbers

abbrev pub exchanged : ℕ → Bytes → Bytes
exchanged m x = x ++ (suc (suc m) ∷ suc m ∷ [])

module _ (m : ℕ) (x : Bytes) (d : Deranged m x) where
  abbrev n₂ : ℕ
  n₂ = suc (suc m)

  abbrev c : ℕ
  c = suc m

  exchanged_long : length (exchanged m x) ≡ n₂
  exchanged_long = length-append x (n₂ ∷ c ∷ []) ∙ omega (arith, d.long)

  exchanged_at : (j i : ℕ) → i ≡ suc (length x + j) → image (exchanged m x) i ≡ get_or (n₂ ∷ c ∷ []) j 0
  exchanged_at j i e = ap (λ k. get_or (exchanged m x) k 0) (omega (arith, e)) ∙ get_or-append-add x (n₂ ∷ c ∷ []) j 0

  exchanged_front : (i : ℕ) → Among m i → image (exchanged m x) i ≡ image x i
  exchanged_front i a = get_or-append x (n₂ ∷ c ∷ []) 0 (i - 1) (omega (arith, a, d.long))

  -- below c nothing moves
  stays : (i : ℕ) → Among m i → Lowered c i (lowered c i) → Raised c (image x i) (raised c (image x i)) → raised c (image x (lowered c i)) ≡ image x i
  stays i a (above h e) _ = absurd (omega (arith, a, h))
  stays i a (below h e) (below k f) = ap (λ j. raised c (image x j)) e ∙ f
  stays i a (below h e) (above k f) = absurd (omega (arith, d.by.values i a, k))

  exchanged_same : (i : ℕ) → Among n₂ i → Pairs n₂ c (image x) i → with_pair n₂ c (image x) i ≡ image (exchanged m x) i
  exchanged_same i b (at_end_lem e v) = v ∙ sym (exchanged_at 1 i (omega (arith, e, d.long)))
  exchanged_same i b (there p e v) = v ∙ sym (exchanged_at 0 i (omega (arith, e, d.long)))
  exchanged_same i b (other p q v) = let a : Among m i = omega (arith, b, p, q) in v ∙ stays i a (lowered_as c i) (raised_as c (image x i)) ∙ sym (exchanged_front i a)

  exchanged_is : pair n₂ c x ≡ exchanged m x
  exchanged_is = pair_is m c x ∙ same-images n₂ (images n₂ (with_pair n₂ c (image x))) (exchanged m x) (images-long n₂ (with_pair n₂ c (image x))) exchanged_long (λ i b. image_of n₂ (with_pair n₂ c (image x)) i b ∙ exchanged_same i b (pair_as n₂ c (image x) i))

pub last_more : (m : ℕ) (x : Bytes) → Edge true (derangements (suc (suc m))) x → Edge true (derangements (suc (suc (suc (suc m))))) (exchanged (suc (suc m)) x)
last_more m x h =
    let key : ℕ = 2 * suc (suc (suc m)) in
    let big : suc (suc (suc (suc m))) ≤ key = omega arith in
    let c : key - suc (suc (suc m)) ≡ suc (suc (suc m)) = omega arith in
    let d = deranged (suc (suc m)) x (edge_object (suc (suc m)) h) in
    subst (Edge true (derangements (suc (suc (suc (suc m))))))
    (join-pair (suc (suc m)) key x big ∙ ap (λ k. pair (suc (suc (suc (suc m)))) k x) c ∙ exchanged_is (suc (suc m)) x d)
    (edge_joined (suc (suc m)) key record { low = omega (arith, low-is (suc m)); high = omega (arith, high_is m) } (goes_on m) (rw (left_in_pair (suc (suc m)) key big) h))

pub last-two : Edge true (derangements 2) (2 ∷ 1 ∷ [])
unfolding derangements join pair lowered raised range flat_map
last-two = latest record { place = 0; here = refl; final = refl }

pub last_three : Edge true (derangements 3) (3 ∷ 1 ∷ 2 ∷ [])
unfolding derangements join pair splice lowered raised range flat_map
last_three = latest record { place = 1; here = refl; final = refl }

-- as the code writes them

pub first_none : (n : ℕ) (y : Bytes) → n ≡ 0 → y ≡ range 2 n → First (derangements n) y
unfolding range
first_none zero y none e = rw e (edge_first (empty_edge false))
first_none (suc n) y none e = absurd (omega arith)

pub first_some : (n end : ℕ) (y : Bytes) → end + 1 ≡ n → (n ≡ 1 → ⊥) → y ≡ range 2 n → First (derangements n) (set y end 1)
first_some zero end y more one e = absurd (omega arith)
first_some (suc zero) end y more one e = absurd (one refl)
first_some (suc (suc m)) end y more one e =
    let at : end ≡ length (range 2 (suc m)) = omega (arith, length-range 2 (suc m)) in
    rw (e, at, range_snoc 2 (suc m), set-append_seam) (edge_first (first_cycle m))

pub last_none : (n : ℕ) (x : Bytes) → n ≡ 0 → length x ≡ n → Last (derangements n) x
last_none zero [] none e = edge_last (empty_edge true)
last_none zero (b ∷ x) none e = absurd (omega arith)
last_none (suc n) x none e = absurd (omega arith)

pub last_of_three : (n : ℕ) (y : Bytes) → n ≡ 3 → y ≡ 3 ∷ 1 ∷ 2 ∷ [] → Last (derangements n) y
last_of_three n y three e = rw (three, e) (edge_last last_three)

two_stored : (p : Bytes) (a b : ℕ) → length p ≡ 2 → set (set p 0 a) 1 b ≡ a ∷ b ∷ []
two_stored [] a b e = absurd (omega arith)
two_stored (v ∷ []) a b e = absurd (omega arith)
two_stored (v ∷ w ∷ []) a b e = refl
two_stored (v ∷ w ∷ u ∷ p) a b e = absurd (omega arith)

pub last_behind : (n k : ℕ) (x p : Bytes) → k + 2 ≡ n → (n ≡ 3 → ⊥) → length p ≡ 2 → Last (derangements k) x → Last (derangements n) (x ++ set (set p 0 n) 1 (n - 1))
last_behind zero k x p size three two h = absurd (omega arith)
last_behind (suc zero) k x p size three two h = absurd (omega arith)
last_behind (suc (suc zero)) k x p size three two h =
    let none : k ≡ 0 = omega arith in
    rw (two_stored p 2 1 two, none_left x (subst (λ j. is_derangement j x ≡ true) none (edge_object k (latest h)))) (edge_last last-two)
last_behind (suc (suc (suc zero))) k x p size three two h = absurd (three refl)
last_behind (suc (suc (suc (suc m)))) k x p size three two h =
    let some : k ≡ suc (suc m) = omega arith in
    let end : suc (suc (suc (suc m))) - 1 ≡ suc (suc (suc m)) = omega arith in
    rw (end, two_stored p (suc (suc (suc (suc m)))) (suc (suc (suc m))) two) (edge_last (last_more m x (subst (λ j. Edge true (derangements j) x) some (latest h))))
