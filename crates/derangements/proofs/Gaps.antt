-- Places and labels that move by one where c and n are removed, and where they are put back; and what then stands in the slice, by images.
-- Assumes nothing.
use mathlib.Core.Path.{◌≡◌, refl, sym, ◌∙◌, ap}
use mathlib.Core.Bool.{true}
use mathlib.Core.List.{◌++◌, map}
use Prim.Native.Nat.{ℕ, ◌+◌, ◌-◌, ◌≤◌, ◌<◌}
use native.Mathlib.Omega.{arith}
use lib.ListN.{length, take, drop, get_or, set, length-set, get_or-append}
use lib.Seq.{length-take-le, length_front, take_at, get_or-append_right}
use borrow.Rule.Slice.PartMut.{mid_of, put_mid, mid_len, same_len_mid}
use Rattle.std.specs.List.{SameBelow, CopiedTo}
use Rattle.std.proofs.lemmas.List.Edits.{map_over_more}
use Rattle.std.proofs.lemmas.List.{get_or_default, length-map, get_or-map, take_all, drop_all, append-nil, places}
use Rattle.std.proofs.Common.{rules}
use Rattle.basics.proofs.Lists.{head-drop}
use Rattle.listings.specs.Bytes.{Bytes}
use Rattle.derangements.specs.Cycles.{image, images, unpair, lowered, raised}
use Rattle.derangements.specs.Objects.{is_derangement}
use Rattle.derangements.specs.Listing.{pair}
use Rattle.derangements.proofs.Images.{Among, images-long, image_of, same-images, deranged}
use Rattle.derangements.proofs.Facts.{Raised, below, above, raised_as, Lowered, lowered_as, lowered_among, with_pair, Pairs, at_end_lem, there, other, pair_as}
use Rattle.derangements.proofs.InPlace.{stored, kept, front_image}

-- the loop over the labels: one more, and all
pub mapped_more : (f : ℕ → ℕ) (x y : Bytes) (i v : ℕ) → i < length y → length y ≡ length x → y ≡ map f (take i x) ++ drop i x → v ≡ f (get_or y i 0) → set y i v ≡ map f (take (i + 1) x) ++ drop (i + 1) x
mapped_more f x y i v h long e new = ap (set y i) new ∙ map_over_more f x y i (get_or y i 0) (omega arith) e (get_or_default y i 0 (get_or y i 0) h)

pub all_mapped : (f : ℕ → ℕ) (x y : Bytes) (i : ℕ) → length x ≤ i → y ≡ map f (take i x) ++ drop i x → y ≡ map f x
all_mapped f x y i h e = e ∙ rw (take_all i x h, drop_all i x h, append-nil (map f x)) refl

mapped_long : (f : ℕ → ℕ) (k : ℕ) (x : Bytes) → k ≤ length x → length (map f (take k x)) ≡ k
mapped_long f k x h = length-map (take k x) f ∙ length-take-le k x h

mapped_image : (f : ℕ → ℕ) (k : ℕ) (x : Bytes) (i : ℕ) → k ≤ length x → Among k i → image (map f (take k x)) i ≡ f (image x i)
mapped_image f k x i h a = get_or-map f (take k x) (i - 1) 0 0 (omega (arith, a, length-take-le k x h)) ∙ ap f (front_image k x i a)

-- the place c is closed: those behind it have moved to the left

closed : (n c : ℕ) (x z : Bytes) (i : ℕ) → SameBelow x z (c - 1) → CopiedTo x z c (c - 1) (n - 2 + 1 - c) → 1 ≤ c → Among (n - 2) i → Raised c i (raised c i) → image z i ≡ image x (raised c i)
closed n c x z i same moved from a (below h e) = same (i - 1) 0 (omega (arith, a)) ∙ ap (image x) (sym e)
closed n c x z i same moved from a (above h e) = moved (i - 1) 0 (omega (arith, a)) (omega (arith, a)) ∙ ap (λ k. get_or x k 0) (omega (arith, a, e))

pub dropped : (n c : ℕ) (x z l r : Bytes) → 2 ≤ n → length z ≡ n → 1 ≤ c → c ≡ image x n → SameBelow x z (c - 1) → CopiedTo x z c (c - 1) (n - 2 + 1 - c) → l ≡ map (lowered c) (take (n - 2) z) → take (n - 2) (l ++ r) ≡ unpair n x
unfolding unpair
dropped n c x z l r two long from e same moved labels =
    let within : n - 2 ≤ length z = omega arith in
    let size : length l ≡ n - 2 = ap length labels ∙ mapped_long (lowered c) (n - 2) z within in
    let f : ℕ → ℕ = λ i. lowered c (image x (raised c i)) in
    take_at l r (n - 2) size
    ∙ same-images (n - 2) l (images (n - 2) f) size (images-long (n - 2) f) (λ i a. ap (λ v. image v i) labels ∙ mapped_image (lowered c) (n - 2) z i within a ∙ ap (lowered c) (closed n c x z i same moved from a (raised_as c i)) ∙ sym (image_of (n - 2) f i a))
    ∙ ap (λ v. images (n - 2) (λ i. lowered v (image x (raised v i)))) e

-- and opened: in the part from c on, those before the last have moved to the right

module _ (n c : ℕ) (w p : Bytes) (long : length w ≡ n) (from : 1 ≤ c) (upto : c ≤ n - 1) where
  abbrev a : ℕ
  a = c - 1

  abbrev k : ℕ
  k = n - 2 + 1 - a

  abbrev moved_part : Bytes
  moved_part = put_mid a k w p

  module _ (size : length p ≡ k) (moved : CopiedTo (mid_of a k w) p 0 1 (n - 2 - a - 0)) where
    opened : (i : ℕ) → Among (n - 1) i → (i ≡ c → ⊥) → Lowered c i (lowered c i) → image moved_part i ≡ image w (lowered c i)
    opened i b q (below h e) =
        let before : i - 1 < a = omega (arith, b, q) in
        let same : get_or moved_part (i - 1) 0 ≡ get_or w (i - 1) 0 = search (rules, places) in
        same ∙ ap (image w) (sym e)
    opened i b q (above h e) =
        let j : ℕ = i - c in
        let here : i - 1 ≡ a + j = omega (arith, b) in
        let before : 0 + (j - 1) < k = omega (arith, b) in
        let inside : j < length p = omega (arith, b) in
        let now : get_or moved_part (a + j) 0 ≡ get_or p j 0 = search (rules, places) in
        let was : get_or (mid_of a k w) (0 + (j - 1)) 0 ≡ get_or w (a + (0 + (j - 1))) 0 = search (rules, places) in
        ap (λ v. get_or moved_part v 0) here ∙ now ∙ moved j 0 (omega (arith, b)) (omega (arith, b)) ∙ was ∙ ap (λ v. get_or w v 0) (omega (arith, b, e))

-- labels first, then the places, and then c and n are put back

module _ (n c : ℕ) (x l p : Bytes) (two : 2 ≤ n) (long : length x ≡ n) (from : 1 ≤ c) (upto : c ≤ n - 1) (labels : l ≡ map (raised c) (take (n - 2) x)) where
  abbrev w : Bytes
  w = l ++ drop (n - 2) x

  abbrev z : Bytes
  z = put_mid (c - 1) (n - 2 + 1 - (c - 1)) w p

  abbrev y : Bytes
  y = set (set z (c - 1) (n - 2 + 2)) (n - 2 + 1) c

  abbrev f : ℕ → ℕ
  f = with_pair n c (image (take (n - 2) x))

  front : length l ≡ n - 2
  front = ap length labels ∙ mapped_long (raised c) (n - 2) x (omega arith)

  w_long : length w ≡ n
  w_long = length_front x l (n - 2) (front ∙ sym (length-take-le (n - 2) x (omega arith))) ∙ long

  w_image : (i : ℕ) → Among (n - 2) i → image w i ≡ raised c (image (take (n - 2) x) i)
  w_image i b =
      get_or-append l (drop (n - 2) x) 0 (i - 1) (omega (arith, b, front)) ∙ ap (λ v. image v i) labels ∙ mapped_image (raised c) (n - 2) x i (omega arith) b
      ∙ ap (raised c) (sym (front_image (n - 2) x i b))

  abbrev part : Bytes
  part = mid_of (c - 1) (n - 2 + 1 - (c - 1)) w

  module _ (same_long : length p ≡ length part) (moved : CopiedTo part p 0 1 (n - 2 - (c - 1) - 0)) where
    size : length p ≡ n - 2 + 1 - (c - 1)
    size = same_long ∙ mid_len (c - 1) (n - 2 + 1) w (omega (arith, w_long))

    z_long : length z ≡ n
    z_long = same_len_mid (c - 1) (n - 2 + 1 - (c - 1)) w p same_long ∙ w_long

    same : (i : ℕ) → Among n i → Pairs n c (image (take (n - 2) x)) i → image y i ≡ f i
    same i b (at_end_lem e v) = stored (set z (c - 1) (n - 2 + 2)) (n - 2 + 1) c i (rw length-set (omega (arith, z_long))) (omega arith) ∙ sym v
    same i b (there q e v) = kept (set z (c - 1) (n - 2 + 2)) (n - 2 + 1) c i b.from (λ r. q (omega arith)) ∙ stored z (c - 1) (n - 2 + 2) i (omega (arith, z_long)) (omega arith) ∙ omega (arith, v)
    same i b (other q r v) =
        let l = lowered_among (n - 2) c i (omega arith) r (omega (arith, b, q)) in
        kept (set z (c - 1) (n - 2 + 2)) (n - 2 + 1) c i b.from (λ e. q (omega arith)) ∙ kept z (c - 1) (n - 2 + 2) i b.from (λ e. r (omega arith))
        ∙ opened n c w p w_long from upto size moved i (omega (arith, b, q)) r (lowered_as c i) ∙ w_image (lowered c i) l ∙ sym v

    pub added : y ≡ pair n c (take (n - 2) x)
    unfolding pair
    added =
        same-images n y (images n f) (length-set (set z (c - 1) (n - 2 + 2)) (n - 2 + 1) c ∙ length-set z (c - 1) (n - 2 + 2) ∙ z_long) (images-long n f)
        (λ i b. same i b (pair_as n c (image (take (n - 2) x)) i) ∙ sym (image_of n f i b))

-- the labels in front are small enough to move up
pub label_small : (n : ℕ) (x l : Bytes) (g : ℕ → ℕ) (i : ℕ) → 2 ≤ n → length x ≡ n → is_derangement (n - 2) (take (n - 2) x) ≡ true → i < length (take (n - 2) x) → l ≡ map g (take i (take (n - 2) x)) ++ drop i (take (n - 2) x) → get_or l i 0 ≤ n
label_small n x l g i two long o h e =
    let first : Bytes = take (n - 2) x in
    let within : length (map g (take i first)) ≡ i = mapped_long g i first (omega arith) in
    let behind : get_or (map g (take i first) ++ drop i first) i 0 ≡ get_or (drop i first) 0 0 = get_or-append_right (map g (take i first)) (drop i first) i 0 (omega arith) ∙ ap (λ k. get_or (drop i first) k 0) (omega arith) in
    let same : get_or l i 0 ≡ get_or first i 0 = ap (λ v. get_or v i 0) e ∙ behind ∙ head-drop first i 0 in
    let at : i + 1 - 1 ≡ i = omega arith in
    let label = (deranged (n - 2) first o).by.values (i + 1) (omega (arith, length-take-le (n - 2) x (omega arith))) in
    omega (arith, same, label, ap (λ k. get_or first k 0) at)
