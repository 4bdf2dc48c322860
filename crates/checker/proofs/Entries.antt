-- What the entries are that bytes are cut into: how many, which stands at a place, and that a list of one length is the cut of its bytes joined.
-- Assumes nothing.
use mathlib.Core.Path.{◌≡◌, refl, sym, ◌∙◌, ap}
use mathlib.Core.Option.{some}
use mathlib.Core.List.{List, [], ◌∷◌, flatten, Memᴰ}
use Prim.Native.Nat.{ℕ, zero, suc, ◌+◌, ◌*◌, ◌<◌}
use native.Mathlib.Nat.{zero-mul, suc-mul}
use native.Mathlib.Omega.{arith}
use lib.ListN.{length, take, drop, get_elem?, length-append}
use lib.Seq.{drop-drop, take-append_seam, drop-append_seam}
use Rattle.listings.specs.Bytes.{Bytes}
use Rattle.checker.specs.Checking.{cut_into}

pub many : (m long : ℕ) (s : Bytes) → length (cut_into m long s) ≡ m
unfolding cut_into
many zero long s = refl
many (suc m) long s = ap suc (many m long (drop long s))

pub entry_at : (m long : ℕ) (s : Bytes) (p : ℕ) → p < m → get_elem? (cut_into m long s) p ≡ some (take long (drop (p * long) s))
unfolding cut_into
entry_at zero long s p h = absurd (omega arith)
entry_at (suc m) long s zero h = rw zero-mul refl
entry_at (suc m) long s (suc p) h =
    entry_at m long (drop long s) p (omega arith)
    ∙ ap (λ (t : Bytes). some (take long t)) (drop-drop (p * long) long s ∙ ap (λ (n : ℕ). drop n s) {x = long + p * long} {y = suc p * long} (rw suc-mul (omega arith)))

-- entries of one length, joined

module _ (long : ℕ) where
  abbrev Alike : List Bytes → Type 0
  Alike l = (x : Bytes) → Memᴰ x l → length x ≡ long

  pub joined-long : (l : List Bytes) → Alike l → length (flatten l) ≡ length l * long
  unfolding flatten
  joined-long [] h = sym (zero-mul long)
  joined-long (x ∷ l) h =
      length-append x (flatten l)
      ∙ rw suc-mul (omega (arith, h x (Memᴰ.head refl), joined-long l (λ y k. h y (Memᴰ.tail k))))

  pub cut-joined : (l : List Bytes) → Alike l → cut_into (length l) long (flatten l) ≡ l
  unfolding cut_into flatten
  cut-joined [] h = refl
  cut-joined (x ∷ l) h = rw (← h x (Memᴰ.head refl), take-append_seam x (flatten l), drop-append_seam x (flatten l)) (ap (λ (m : List Bytes). x ∷ m) (rw (h x (Memᴰ.head refl)) (cut-joined l (λ y k. h y (Memᴰ.tail k)))))
