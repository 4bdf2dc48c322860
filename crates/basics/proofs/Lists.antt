-- A list taken apart at its last number; one number stored and the part in front of it filled anew; a front and then the rest filled anew; a part that is lent, and written to.
-- Assumes nothing.
use mathlib.Core.Path.{◌≡◌, refl, sym, ◌∙◌, ap, ap₂}
use mathlib.Core.List.{List, [], ◌∷◌, ◌++◌, append-nil, append_assoc}
use Prim.Native.Nat.{ℕ, zero, suc, ◌+◌, ◌-◌, ◌≤◌, ◌<◌}
use native.Mathlib.Nat.{add-zero}
use native.Mathlib.Omega.{arith}
use lib.ListN.{length, get_or, set, take, drop, length-append, length-drop, length-set, drop_of_length-le, replicate}
use lib.Seq.{take_all, take-suc, take_at, drop_at, set_split, length-take-le, length_front, get_or-drop}
use borrow.Rule.Slice.PartMut.{mid_of, put_mid}
use Rattle.basics.specs.Sums.{range}

-- the numbers in front, and the last
pub last_split : (k : ℕ) (x : List ℕ) → length x ≡ suc k → x ≡ take k x ++ (get_or x k 0 ∷ [])
last_split k x e = sym (take_all (suc k) x (omega arith)) ∙ take-suc x k 0 (omega arith)

pub head-drop : (x : List ℕ) (i d : ℕ) → get_or (drop i x) 0 d ≡ get_or x i d
head-drop x i d = get_or-drop i x 0 d ∙ ap (λ (j : ℕ). get_or x j d) (add-zero i)

-- x with v at place i, and the part in front of it lent
module _ (x : List ℕ) (i v : ℕ) (h : i < length x) where
  pub front_long : length (take i (set x i v)) ≡ i
  front_long = length-take-le i (set x i v) (rw length-set (omega arith))

  pub same-long : (part : List ℕ) → length part ≡ length (take i (set x i v)) → length (part ++ drop i (set x i v)) ≡ length x
  same-long part e = length_front (set x i v) part i e ∙ length-set x i v

  pub drop-set : drop i (set x i v) ≡ v ∷ drop (suc i) x
  drop-set = ap (drop i) (set_split x i v h) ∙ drop_at (take i x) (v ∷ drop (suc i) x) i (length-take-le i x (omega arith))

  pub refilled : (from : ℕ) {part : List ℕ} → part ≡ range from (length (take i (set x i v))) → part ++ drop i (set x i v) ≡ range from i ++ (v ∷ drop (suc i) x)
  refilled from e = ap₂ (λ u w. u ++ w) (e ∙ ap (range from) front_long) drop-set

-- all from place a on is lent: what it is, and the list with y written to it

pub lent_rest : (a : ℕ) (x : List ℕ) → mid_of a (length x - a) x ≡ drop a x
lent_rest a x = take_all (length x - a) (drop a x) (omega (arith, length-drop a x))

pub put_rest : (a : ℕ) (x y : List ℕ) → put_mid a (length x - a) x y ≡ take a x ++ y
put_rest a x y = rw (drop_of_length-le (drop a x) {i = length x - a} (omega (arith, length-drop a x)), append-nil)

-- the first a numbers are p now, and the rest is lent
module _ (a : ℕ) (d p : List ℕ) (fits : a ≤ length d) (long : length p ≡ a) where
  -- as much is lent as is left
  pub rest_lent : length (mid_of a (length (p ++ drop a d) - a) (p ++ drop a d)) ≡ length d - a
  rest_lent = ap length (lent_rest a (p ++ drop a d)) ∙ rw (length-drop, length-append, length-drop) (omega arith)

  -- what was written to it stands behind the front
  pub both_written : (q : List ℕ) → put_mid a (length (p ++ drop a d) - a) (p ++ drop a d) q ≡ p ++ q
  both_written q = put_rest a (p ++ drop a d) q ∙ ap (λ v. v ++ q) (take_at p (drop a d) a long)

-- k places from a on are written anew: what stands up to their end
pub put_part : (a k : ℕ) (x y : List ℕ) → a ≤ length x → length y ≡ k → take (a + k) (put_mid a k x y) ≡ take a x ++ y
put_part a k x y h e = rw (← append_assoc (take a x) y (drop k (drop a x))) (take_at (take a x ++ y) _ (a + k) (simp length-append (omega (arith, length-take-le a x h))))

pub take-replicate : {A : Type 0} (m n : ℕ) (a : A) → n ≤ m → take n (replicate m a) ≡ replicate n a
take-replicate m zero a h = refl
take-replicate zero (suc n) a h = absurd (omega arith)
take-replicate (suc m) (suc n) a h = ap (λ l. a ∷ l) (take-replicate m n a (omega arith))
