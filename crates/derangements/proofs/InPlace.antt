-- What the stores of the code make of a byte string: a derangement taken apart where it stands, and put together there.
-- Assumes nothing.
use mathlib.Core.Path.{◌≡◌, sym, ◌∙◌, ap, ap₂, subst}
use mathlib.Core.Bool.{true}
use Prim.Native.Nat.{ℕ, zero, suc, ◌+◌, ◌-◌, ◌≤◌, ◌<◌}
use native.Mathlib.Decide.{ℕ_discrete}
use native.Mathlib.Omega.{arith}
use lib.ListN.{length, take, get_or, set, length-set}
use lib.Seq.{length-take-le, get_or-take, get_or-set_same, get_or-set_other}
use Rattle.listings.specs.Bytes.{Bytes}
use Rattle.derangements.specs.Cycles.{image, images, cut, unpair}
use Rattle.derangements.specs.Objects.{is_derangement}
use Rattle.derangements.specs.Listing.{pair, join}
use Rattle.derangements.specs.Inner.Keys.{left_of, Keyed, TakenApart}
use Rattle.derangements.proofs.Images.{Among, images-long, image_of, same-images, Deranged, deranged, derangement}
use Rattle.derangements.proofs.Facts.{spliced, Spliced, at_end_lem, to_end, other, spliced_as, splice-is, without, without_to, without_other, cut-is, cut_among, cut_deranged, splice_cut, unpair_among, unpair_deranged, pair-unpair, is-paired, not-paired}
use Rattle.derangements.proofs.Theorem.{left_in_cycle, left_in_pair, join_cycle, join-pair}
use Rattle.derangements.proofs.Places.{left_of_lem}

-- a store, by images

pub stored : (x : Bytes) (j v i : ℕ) → j < length x → i ≡ suc j → image (set x j v) i ≡ v
stored x j v i h e = ap (λ k. get_or (set x j v) k 0) (omega (arith, e)) ∙ get_or-set_same x j v 0 h

pub kept : (x : Bytes) (j v i : ℕ) → 1 ≤ i → (i ≡ suc j → ⊥) → image (set x j v) i ≡ image x i
kept x j v i from p = get_or-set_other x j (i - 1) v 0 (λ e. p (omega (arith, from, e)))

pub front_image : (k : ℕ) (x : Bytes) (i : ℕ) → Among k i → image (take k x) i ≡ image x i
front_image k x i a = get_or-take k x (i - 1) 0 (omega (arith, a))

-- with n = m + 2 places

module _ (m : ℕ) where
  abbrev n : ℕ
  n = suc (suc m)

  left_cycle : (key : ℕ) → key < n → left_of n key ≡ suc m
  left_cycle key h = left_of_lem m key ∙ left_in_cycle m key h

  left-pair : (key : ℕ) → n ≤ key → left_of n key ≡ m
  left-pair key h = left_of_lem m key ∙ left_in_pair m key h

  -- c and n are a cycle of two
  pair_apart : (x z : Bytes) → is_derangement n x ≡ true → image x (image x n) ≡ n → take m z ≡ unpair n x → TakenApart n x (suc m + image x n) z
  pair_apart x z o e left =
      let d = deranged n x o in
      let c : ℕ = image x n in
      let q = is-paired m x e in
      let a = unpair_among m x d q in
      let h : n ≤ suc m + c = omega (arith, a) in
      let size = left-pair (suc m + c) h in
      let c_again : suc m + c - suc m ≡ c = omega arith in
      record {
        keyed = record { from = omega arith; upto = omega (arith, a); object = rw (size, left) (derangement m (unpair n x) (unpair_deranged m x d q)) };
        whole = rw (size, left) (join-pair m (suc m + c) (unpair n x) h ∙ ap (λ k. pair n k (unpair n x)) c_again ∙ pair-unpair m x d q);
      }

  -- they aren't: what goes to n goes to c
  module _ (x : Bytes) (at : ℕ) (o : is_derangement n x ≡ true) (far : image x (image x n) ≡ n → ⊥) (inside : at < suc m) (here : get_or x at 0 ≡ n) where
    abbrev c : ℕ
    c = image x n

    abbrev d : Deranged n x
    d = deranged n x o

    at_image : image x (suc at) ≡ n
    at_image = ap (λ k. get_or x k 0) (omega arith) ∙ here

    cut-same : (i : ℕ) → Among (suc m) i → Dec (i ≡ suc at) → image (set x at c) i ≡ without n (image x) i
    cut-same i a (yes e) = stored x at c i (omega (arith, inside, d.long)) e ∙ sym (without_to n (image x) i (ap (image x) e ∙ at_image))
    cut-same i a (no p) = kept x at c i a.from p ∙ sym (without_other n (image x) i (λ q. p (d.by.once i (suc at) (omega (arith, a)) (omega (arith, inside)) (q ∙ sym at_image))))

    cut_stored : take (suc m) (set x at c) ≡ cut n x
    cut_stored =
        same-images (suc m) (take (suc m) (set x at c)) (images (suc m) (without n (image x))) (length-take-le (suc m) (set x at c) (rw length-set (omega (arith, d.long)))) (images-long (suc m) (without n (image x)))
        (λ i a. front_image (suc m) (set x at c) i a ∙ cut-same i a (ℕ_discrete i (suc at)) ∙ sym (image_of (suc m) (without n (image x)) i a))
        ∙ sym (cut-is m x)

    cycle_apart : TakenApart n x c (set x at c)
    cycle_apart =
        let q = not-paired m x far in
        let a = cut_among m x d q in
        let h : c < n = omega (arith, a) in
        let size = left_cycle c h in
        record {
          keyed = record { from = a.from; upto = omega (arith, a); object = rw (size, cut_stored) (derangement (suc m) (cut n x) (cut_deranged m x d q)) };
          whole = rw (size, cut_stored) (join_cycle m c (cut n x) h ∙ splice_cut m x d q);
        }

  -- put together: n and the key stored
  module _ (z : Bytes) (key at : ℕ) (long : length z ≡ n) (k : Keyed n key z) (low : key ≤ suc m) (inside : at < suc m) (here : get_or z at 0 ≡ key) where
    abbrev x : Bytes
    x = take (suc m) z

    abbrev y : Bytes
    y = set (set z at n) (suc m) key

    front_deranged : Deranged (suc m) x
    front_deranged = deranged (suc m) x (subst (λ j. is_derangement j (take j z) ≡ true) (left_cycle key (omega arith)) k.object)

    y_long : length y ≡ n
    y_long = length-set (set z at n) (suc m) key ∙ length-set z at n ∙ long

    x_image : (i : ℕ) → Among (suc m) i → image x i ≡ image z i
    x_image i a = front_image (suc m) z i a

    x_at : image x (suc at) ≡ key
    x_at = x_image (suc at) (omega (arith, inside)) ∙ ap (λ j. get_or z j 0) (omega arith) ∙ here

    y_front : (i : ℕ) → Among (suc m) i → image y i ≡ image (set z at n) i
    y_front i a = kept (set z at n) (suc m) key i a.from (λ e. omega (arith, a, e))

    put_same : (i : ℕ) → Among n i → Spliced n key (image x) i → image y i ≡ spliced n key (image x) i
    put_same i b (at_end_lem e v) = stored (set z at n) (suc m) key i (rw length-set (omega (arith, long))) e ∙ sym v
    put_same i b (to_end p e v) =
        let a : Among (suc m) i = omega (arith, b, p) in
        let q : i ≡ suc at = front_deranged.by.once i (suc at) a (omega (arith, inside)) (e ∙ sym x_at) in
        y_front i a ∙ stored z at n i (omega (arith, inside, long)) q ∙ sym v
    put_same i b (other p q v) =
        let a : Among (suc m) i = omega (arith, b, p) in
        y_front i a ∙ kept z at n i a.from (λ e. q (ap (image x) e ∙ x_at)) ∙ sym (x_image i a) ∙ sym v

    cycle_put : y ≡ join n key (take (left_of n key) z)
    cycle_put =
        same-images n y (images n (spliced n key (image x))) y_long (images-long n (spliced n key (image x))) (λ i b. put_same i b (spliced_as n key (image x) i) ∙ sym (image_of n (spliced n key (image x)) i b))
        ∙ sym (splice-is m key x) ∙ sym (join_cycle m key x (omega arith)) ∙ ap (λ j. join n key (take j z)) (sym (left_cycle key (omega arith)))

  pair_put : (z y : Bytes) (key : ℕ) → n ≤ key → y ≡ pair n (key - suc m) (take m z) → y ≡ join n key (take (left_of n key) z)
  pair_put z y key h e = e ∙ sym (join-pair m key (take m z) h) ∙ ap (λ j. join n key (take j z)) (sym (left-pair key h))

  front_object : (z : Bytes) (key : ℕ) → n ≤ key → Keyed n key z → is_derangement m (take m z) ≡ true
  front_object z key h k = subst (λ j. is_derangement j (take j z) ≡ true) (left-pair key h) k.object

  -- n stands in front of the last place, and so does a key that is a number left
  n_stands : (x : Bytes) → is_derangement n x ≡ true → (i : ℕ) × (i < suc m) × (get_or x i 0 ≡ n)
  n_stands x o =
      let d = deranged n x o in
      let (i, a, e) = d.by.onto n (omega arith) in
      let p : i ≡ n → ⊥ = λ q. d.by.moves i a (e ∙ sym q) in
      (i - 1, omega (arith, a, p), e)

  key_stands : (z : Bytes) (key : ℕ) → key ≤ suc m → Keyed n key z → (i : ℕ) × (i < suc m) × (get_or z i 0 ≡ key)
  key_stands z key h k =
      let d = deranged (suc m) (take (suc m) z) (subst (λ j. is_derangement j (take j z) ≡ true) (left_cycle key (omega arith)) k.object) in
      let (i, a, e) = d.by.onto key (omega (arith, k.from)) in
      (i - 1, omega (arith, a), sym (front_image (suc m) z i a) ∙ e)

-- of n places, with n - 1 for m + 1 and n - 2 for m

pub apart_pair : (n : ℕ) (x z : Bytes) → 2 ≤ n → is_derangement n x ≡ true → get_or x (get_or x (n - 1) 0 - 1) 0 ≡ n → take (n - 2) z ≡ unpair n x → TakenApart n x (n - 1 + get_or x (n - 1) 0) z
apart_pair zero x z two o e left = absurd (omega arith)
apart_pair (suc zero) x z two o e left = absurd (omega arith)
apart_pair (suc (suc m)) x z two o e left =
    let size : suc (suc m) - 2 ≡ m = omega arith in
    let end : suc m ≡ suc (suc m) - 1 = omega arith in
    subst (λ k. TakenApart (suc (suc m)) x (k + image x (suc (suc m))) z) end (pair_apart m x z o e (ap (λ k. take k z) (sym size) ∙ left))

-- the search is handed the places in front of the last
found_in_front : (n v at : ℕ) (z : Bytes) → 2 ≤ n → length z ≡ n → (at < length (take (n - 1) z)) × (get_or (take (n - 1) z) at 0 ≡ v) → (at < n - 1) × (get_or z at 0 ≡ v)
found_in_front n v at z two long (h, e) =
    let inside : at < n - 1 = omega (arith, h, length-take-le (n - 1) z (omega arith)) in
    (inside, sym (get_or-take (n - 1) z at 0 inside) ∙ e)

pub apart_cycle : (n : ℕ) (x : Bytes) (at : ℕ) → 2 ≤ n → is_derangement n x ≡ true → (get_or x (get_or x (n - 1) 0 - 1) 0 ≡ n → ⊥) → (at < length (take (n - 1) x)) × (get_or (take (n - 1) x) at 0 ≡ n) → TakenApart n x (get_or x (n - 1) 0) (set x at (get_or x (n - 1) 0))
apart_cycle zero x at two o far found = absurd (omega arith)
apart_cycle (suc zero) x at two o far found = absurd (omega arith)
apart_cycle (suc (suc m)) x at two o far found =
    let (inside, here) = found_in_front (suc (suc m)) (suc (suc m)) at x two (deranged (suc (suc m)) x o).long found in
    cycle_apart m x at o far (omega (arith, inside)) here

pub put_cycle : (n : ℕ) (z : Bytes) (key at : ℕ) → 2 ≤ n → length z ≡ n → Keyed n key z → key < n → (at < length (take (n - 1) z)) × (get_or (take (n - 1) z) at 0 ≡ key) → set (set z at n) (n - 1) key ≡ join n key (take (left_of n key) z)
put_cycle zero z key at two long k low found = absurd (omega arith)
put_cycle (suc zero) z key at two long k low found = absurd (omega arith)
put_cycle (suc (suc m)) z key at two long k low found =
    let (inside, here) = found_in_front (suc (suc m)) key at z two long found in
    let end : suc (suc m) - 1 ≡ suc m = omega arith in
    ap (λ e. set (set z at (suc (suc m))) e key) end ∙ cycle_put m z key at long k (omega arith) (omega (arith, inside)) here

pub put-pair : (n : ℕ) (z y : Bytes) (key : ℕ) → 2 ≤ n → n ≤ key → y ≡ pair n (key - (n - 1)) (take (n - 2) z) → y ≡ join n key (take (left_of n key) z)
put-pair zero z y key two h e = absurd (omega arith)
put-pair (suc zero) z y key two h e = absurd (omega arith)
put-pair (suc (suc m)) z y key two h e =
    let c : key - (suc (suc m) - 1) ≡ key - suc m = omega arith in
    let size : suc (suc m) - 2 ≡ m = omega arith in
    pair_put m z y key (omega arith) (e ∙ ap₂ (λ k l. pair (suc (suc m)) k (take l z)) c size)

pub front_is : (n : ℕ) (z : Bytes) (key : ℕ) → 2 ≤ n → n ≤ key → Keyed n key z → is_derangement (n - 2) (take (n - 2) z) ≡ true
front_is zero z key two h k = absurd (omega arith)
front_is (suc zero) z key two h k = absurd (omega arith)
front_is (suc (suc m)) z key two h k = let size : m ≡ suc (suc m) - 2 = omega arith in subst (λ j. is_derangement j (take j z) ≡ true) size (front_object m z key (omega arith) k)

pub last_value : (n : ℕ) (x : Bytes) → 2 ≤ n → is_derangement n x ≡ true → Among (n - 1) (get_or x (n - 1) 0)
last_value n x two o = let d = (deranged n x o).by in let v = d.values n (omega arith) in let p = d.moves n (omega arith) in omega (arith, v, p)

-- as the search is handed the places in front of the last
stands_in_front : (n v : ℕ) (z : Bytes) → length z ≡ n → (i : ℕ) × (i < n - 1) × (get_or z i 0 ≡ v) → (i : ℕ) × (i < length (take (n - 1) z)) × (get_or (take (n - 1) z) i 0 ≡ v)
stands_in_front n v z long (i, h, e) = (i, rw (length-take-le (n - 1) z (omega arith)) h, get_or-take (n - 1) z i 0 h ∙ e)

pub last-stands : (n : ℕ) (x : Bytes) → 2 ≤ n → is_derangement n x ≡ true → (i : ℕ) × (i < length (take (n - 1) x)) × (get_or (take (n - 1) x) i 0 ≡ n)
last-stands zero x two o = absurd (omega arith)
last-stands (suc zero) x two o = absurd (omega arith)
last-stands (suc (suc m)) x two o = let (i, h, e) = n_stands m x o in stands_in_front (suc (suc m)) (suc (suc m)) x (deranged (suc (suc m)) x o).long (i, omega arith, e)

pub key_in_front : (n : ℕ) (z : Bytes) (key : ℕ) → 2 ≤ n → length z ≡ n → key < n → Keyed n key z → (i : ℕ) × (i < length (take (n - 1) z)) × (get_or (take (n - 1) z) i 0 ≡ key)
key_in_front zero z key two long h k = absurd (omega arith)
key_in_front (suc zero) z key two long h k = absurd (omega arith)
key_in_front (suc (suc m)) z key two long h k = let (i, l, e) = key_stands m z key (omega arith) k in stands_in_front (suc (suc m)) key z long (i, omega arith, e)
