-- Where a jump leads: the rank r + d, where that lies among the ranks; and the same rank among fewer objects.
-- Assumes nothing.
use mathlib.Core.Path.{◌≡◌, refl, sym, ◌∙◌, ap}
use mathlib.Core.Logic.{◌↔◌}
use mathlib.Core.Bool.{Bool, true, false, cond, false≢true}
use mathlib.Core.Option.{Option, none, some, some-injective, some-ne-none}
use Prim.Native.Nat.{ℕ, suc, ◌+◌, ◌-◌, ◌≤◌, ◌<◌}
use native.Mathlib.Omega.{arith}
use native.Mathlib.Decide.{dec_lt}
use lib.Dec.{ltb}
use lib.IntN.{ℤ, pos, negsuc, ◌+ℤ◌, +ℤ_assoc, +ℤ_idr}
use borrow.Author.Tests.{lt-ltb, le-ltb, ltb-true, ltb-false}
use lib.Signed.{lt_z}
use Rattle.std.specs.Prelude.{Some, None, SomeIff, unsigned_abs}
use Rattle.std.specs.Prelude.{Option as Found}
use Rattle.jump.specs.Jumps.{rank_in, target}
use Rattle.jump.specs.Inner.Goals.{goal_as}

-- at both ends of three objects, by computation

on_from_last : target 2 3 (pos 1) ≡ none
unfolding target rank_in
on_from_last = refl

on_to_last : target 0 3 (pos 2) ≡ some 2
unfolding target rank_in
on_to_last = refl

back-from-first : target 0 3 (negsuc 0) ≡ none
unfolding target rank_in
back-from-first = refl

back_to_first : target 2 3 (negsuc 1) ≡ some 0
unfolding target rank_in
back_to_first = refl

-- a number where a test holds

held : (t : Bool) (m : ℕ) {p : ℕ} → ◌≡◌ {A = Option ℕ} (cond t (some m) none) (some p) → (t ≡ true) × (m ≡ p)
held true m {p} e = (refl, some-injective m p e)
held false m {p} e = absurd (some-ne-none p (sym e))

dropped : (t : Bool) (m : ℕ) → ◌≡◌ {A = Option ℕ} (cond t (some m) none) none → t ≡ false
dropped true m e = absurd (some-ne-none m e)
dropped false m e = refl

-- an integer is a rank where it lies from 0 to the count less one

in_is : (n : ℕ) (z : ℤ) {p : ℕ} → rank_in n z ≡ some p → (pos p ≡ z) × (p < n)
unfolding rank_in
in_is n (pos m) {p} e =
    let (below, same) = held (ltb m n) m e in
    (ap pos (sym same), omega (arith, ltb-true m n below, same))
in_is n (negsuc m) {p} e = absurd (some-ne-none p (sym e))

is_in_lem : (n : ℕ) {z : ℤ} {p : ℕ} → pos p ≡ z → p < n → rank_in n z ≡ some p
unfolding rank_in
is_in_lem n {p = p} e h = rw (← e, lt-ltb p n h)

out_of : (n : ℕ) {z : ℤ} {p : ℕ} → pos p ≡ z → n ≤ p → rank_in n z ≡ none
unfolding rank_in
out_of n {p = p} e h = rw (← e, le-ltb p n h)

still_out : (m n : ℕ) (z : ℤ) → n ≤ m → rank_in m z ≡ none → rank_in n z ≡ none
unfolding rank_in
still_out m n (pos p) h e = rw (le-ltb p n (omega (arith, ltb-false p m (dropped (ltb p m) p e))))
still_out m n (negsuc p) h e = refl

module _ (r n : ℕ) (d : ℤ) where
  -- the target is the one rank that is r + d
  pub target_is : (p : ℕ) → (target r n d ≡ some p) ↔ ((pos p ≡ pos r +ℤ d) × (p < n))
  unfolding target
  target_is p = (in_is n (pos r +ℤ d), λ h. is_in_lem n h.0 h.1)

  -- and there is none exactly where no rank is
  pub target_none : (target r n d ≡ none) ↔ ((p : ℕ) → pos p ≡ pos r +ℤ d → p < n → ⊥)
  unfolding target
  target_none = (out, inside (rank_in n (pos r +ℤ d)) refl)
    where
      out : rank_in n (pos r +ℤ d) ≡ none → (p : ℕ) → pos p ≡ pos r +ℤ d → p < n → ⊥
      out e p same h = some-ne-none p (sym (is_in_lem n same h) ∙ e)

      inside : (o : Option ℕ) → rank_in n (pos r +ℤ d) ≡ o → ((p : ℕ) → pos p ≡ pos r +ℤ d → p < n → ⊥) → rank_in n (pos r +ℤ d) ≡ none
      inside none e h = e
      inside (some p) e h = let (same, below) = in_is n (pos r +ℤ d) e in absurd (h p same below)

-- by the sign of d

module _ (r n : ℕ) where
  pub target_on : (m : ℕ) → target r n (pos m) ≡ cond (ltb (r + m) n) (some (r + m)) none
  unfolding target rank_in
  target_on m = refl

  pub target-back : (m : ℕ) → r < n → target r n (negsuc m) ≡ cond (ltb m r) (some (r - suc m)) none
  unfolding target rank_in
  target-back m below =
      elim (dec_lt m r) [
        | yes h ↦ rw (lt-ltb m r h, le-ltb r (suc m) (omega arith), lt-ltb (r - suc m) n (omega arith))
        | no h ↦ rw (le-ltb m r (omega arith), lt-ltb r (suc m) (omega arith))
      ]

-- the same where a rank is known to be there, or not to be

module _ (r n : ℕ) {d : ℤ} (m : ℕ) where
  pub before-first : d ≡ negsuc m → r < n → r ≤ m → none ≡ target r n d
  before-first e below h = rw (e, target-back r n m below, le-ltb m r h)

  pub back_to : d ≡ negsuc m → r < n → m < r → some (r - 1 - m) ≡ target r n d
  back_to e below h =
      let same : r - 1 - m ≡ r - suc m = omega arith in
      rw (e, target-back r n m below, lt-ltb m r h, same)

  pub behind_last : d ≡ pos m → n ≤ r + m → none ≡ target r n d
  behind_last e h = rw (e, target_on r n m, le-ltb (r + m) n h)

  pub on_to : d ≡ pos m → r + m < n → some (r + m) ≡ target r n d
  on_to e h = rw (e, target_on r n m, lt-ltb (r + m) n h)

-- the same as the code finds it, by a difference or a sum that may not be there

module _ (r n : ℕ) where
  pub aimed_back : (d : ℤ) (o : Found ℕ) → lt_z d (pos 0) ≡ true → r < n → SomeIff o (unsigned_abs d ≤ r) (r - unsigned_abs d) → goal_as o ≡ target r n d
  aimed_back (pos m) o s h e = absurd (omega (arith, ltb-true m 0 s))
  aimed_back (negsuc m) None s h e = rw (target-back r n m h, le-ltb m r (omega arith))
  aimed_back (negsuc m) (Some p) s h e = rw (target-back r n m h, lt-ltb m r (omega (arith, e.0)), e.1)

  pub aimed_on : (d : ℤ) (o : Found ℕ) → lt_z d (pos 0) ≡ false → SomeIff o (r + unsigned_abs d < n) (r + unsigned_abs d) → goal_as o ≡ target r n d
  aimed_on (pos m) None s e = rw (target_on r n m, le-ltb (r + m) n (omega arith))
  aimed_on (pos m) (Some p) s e = rw (target_on r n m, lt-ltb (r + m) n e.0, e.1)
  aimed_on (negsuc m) o s e = absurd (false≢true (sym s))

-- a target among m objects, and among n

module _ (r m n : ℕ) (d : ℤ) where
  pub still_there : {p : ℕ} → target r m d ≡ some p → p < n → target r n d ≡ some p
  unfolding target
  still_there e h = is_in_lem n (in_is m (pos r +ℤ d) e).0 h

  pub no_more : {p : ℕ} → target r m d ≡ some p → n ≤ p → target r n d ≡ none
  unfolding target
  no_more e h = out_of n (in_is m (pos r +ℤ d) e).0 h

  pub nowhere : n ≤ m → target r m d ≡ none → target r n d ≡ none
  unfolding target
  nowhere h e = still_out m n (pos r +ℤ d) h e

-- two distances one after the other, and none

module _ (r n : ℕ) (d : ℤ) {p : ℕ} (there : target r n d ≡ some p) where
  pub targets_add : (e : ℤ) → target p n e ≡ target r n (d +ℤ e)
  unfolding target
  targets_add e = ap (rank_in n) (ap (λ (z : ℤ). z +ℤ e) (in_is n (pos r +ℤ d) there).0 ∙ +ℤ_assoc (pos r) d e)

pub target_itself : (r n : ℕ) → r < n → target r n (pos 0) ≡ some r
unfolding target
target_itself r n h = ap (rank_in n) (+ℤ_idr (pos r)) ∙ is_in_lem n refl h
