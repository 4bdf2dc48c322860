-- Two places of a list that change their contents, and the step as the code takes it, which makes the neighbour. Assumes nothing.
use mathlib.Core.Path.{◌≡◌, sym, ◌∙◌, ap, ap₂, subst₂}
use mathlib.Core.Bool.{Bool, true}
use mathlib.Core.List.{List, [], ◌∷◌, ◌++◌, reverse}
use Prim.Native.Nat.{ℕ, suc, ◌+◌, ◌-◌, ◌<◌}
use native.Mathlib.Numerals.{add-one}
use native.Mathlib.Omega.{arith}
use lib.ListN.{length, get_or, set, take, drop, length-append, length-drop}
use lib.Seq.{get_or-append_seam, set-append_seam, append_snoc, split_at, get_or-drop, drop-drop, take_at, drop_at, length-take-le}
use borrow.Rule.Slice.PartMut.{mid_of, put_mid}
use Rattle.std.specs.List.{swap}
use Rattle.std.proofs.lemmas.List.Edits.{swap_is}
use Rattle.basics.proofs.Lists.{lent_rest, put_rest}
use Rattle.listings.specs.Bytes.{Bytes}
use Rattle.listings.specs.Directions.{Beside}
use Rattle.anagrams.specs.Objects.{is_anagram}
use Rattle.anagrams.specs.Listing.{anagrams}
use Rattle.anagrams.specs.Inner.Directions.{precedes_by, Spent, NoneBeyond}
use Rattle.anagrams.proofs.Neighbours.{stepped}

abbrev swapped : ℕ → ℕ → List ℕ → List ℕ
swapped i j l = set (set l i (get_or l j 0)) j (get_or l i 0)

-- a and b, at the places where they stand
swap_mid : (e m z : List ℕ) (a b : ℕ) → swapped (length e) (length (e ++ (a ∷ m))) (e ++ (a ∷ (m ++ (b ∷ z)))) ≡ e ++ (b ∷ (m ++ (a ∷ z)))
swap_mid [] m z a b = ap₂ (λ (c : ℕ) (l : List ℕ). c ∷ l) (get_or-append_seam m b z 0) (set-append_seam m b z a)
swap_mid (c ∷ e) m z a b = ap (λ (l : List ℕ). c ∷ l) (swap_mid e m z a b)

swap_at : (e m z : List ℕ) (a b i j : ℕ) (l : List ℕ) → l ≡ e ++ (a ∷ (m ++ (b ∷ z))) → i ≡ length e → j ≡ length (e ++ (a ∷ m)) → swapped i j l ≡ e ++ (b ∷ []) ++ (m ++ (a ∷ z))
swap_at e m z a b i j l is at at' = rw (is, at, at', append_snoc e b (m ++ (a ∷ z))) (swap_mid e m z a b)

-- the step at the pivot, place p, and at place q: s is the word after the swap, and t its tail behind the pivot turned round
module _ (x : Bytes) (p q : ℕ) (low : p < q) (high : q < length x) where
  abbrev front : Bytes
  front = take p x

  abbrev between : Bytes
  between = take (q - (p + 1)) (drop (p + 1) x)

  tail : drop (p + 1) x ≡ between ++ (get_or x q 0 ∷ drop (q + 1) x)
  tail =
      let e : p + 1 + (q - (p + 1)) ≡ q = omega arith in
      let f : p + 1 + suc (q - (p + 1)) ≡ q + 1 = omega arith in
      split_at (drop (p + 1) x) (q - (p + 1)) 0 (simp length-drop (omega arith)) ∙ rw (get_or-drop, drop-drop, e, f)

  parts : x ≡ front ++ (get_or x p 0 ∷ (between ++ (get_or x q 0 ∷ drop (q + 1) x)))
  parts = split_at x p 0 (omega arith) ∙ ap (λ (l : Bytes). front ++ (get_or x p 0 ∷ l)) (ap (λ (n : ℕ). drop n x) (sym (add-one p)) ∙ tail)

  made : (s t : Bytes) → s ≡ swap x p q → t ≡ reverse (mid_of (p + 1) (length s - (p + 1)) s)
      → put_mid (p + 1) (length s - (p + 1)) s t ≡ front ++ (get_or x q 0 ∷ reverse (between ++ (get_or x p 0 ∷ drop (q + 1) x)))
  made s t change turn =
      let pivot = length-take-le p x (omega arith) in
      let mid = length-take-le (q - (p + 1)) (drop (p + 1) x) (simp length-drop (omega arith)) in
      let is = change ∙ sym (swap_is x p q 0 (omega arith) high) ∙ swap_at front between (drop (q + 1) x) _ _ p q x parts (sym pivot) (simp length-append (omega arith)) in
      let wide : length (front ++ (get_or x q 0 ∷ [])) ≡ p + 1 = simp length-append (omega arith) in
      rw (put_rest (p + 1) s t, turn, lent_rest (p + 1) s, is, take_at _ _ (p + 1) wide, drop_at _ _ (p + 1) wide, append_snoc)

  pub step_made : (up : Bool) (cs : List ℕ) (s t : Bytes) → precedes_by up (get_or x p 0) (get_or x q 0) ≡ true → Spent up (drop (p + 1) x) → NoneBeyond up (get_or x p 0) (drop (q + 1) x)
      → s ≡ swap x p q → t ≡ reverse (mid_of (p + 1) (length s - (p + 1)) s) → is_anagram cs x ≡ true → Beside up (anagrams cs) x (put_mid (p + 1) (length s - (p + 1)) s t)
  step_made up cs s t less spent rest change turn o =
      subst₂ (λ v w. Beside up (anagrams cs) v w) (sym parts) (sym (made s t change turn)) (stepped up _ _ _ less rest cs front between (rw tail at spent) (rw parts at o))
