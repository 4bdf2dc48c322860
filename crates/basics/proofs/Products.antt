-- When a number is a product, told by division; and that a turn's part of a product is within it.
-- Assumes nothing.
use mathlib.Core.Path.{◌≡◌, sym, ◌∙◌, ap}
use mathlib.Core.Bool.{false}
use mathlib.Core.Logic.{⊎_elim}
use Prim.Native.Nat.{ℕ, suc, ◌+◌, ◌*◌, ◌/◌, ◌%◌, ◌≤◌, ◌<◌}
use native.Mathlib.Omega.{arith}
use native.Mathlib.Nat.{mul-mod_left, mul-div_cancel, div-add-mod', suc-mul, mul-le-mul_right}
use lib.Dec.{eqb}
use borrow.Author.Tests.{eq-eqb, ne_eqb, eqb-true, eqb-false}
use Rattle.basics.proofs.Bools.{true_or_false}

-- one turn's part of a product is within it
pub turn_within : (i n size : ℕ) → i < n → i * size + size ≤ n * size
turn_within i n size h = rw suc-mul at (mul-le-mul_right {m = suc i} size h)

-- what leaves a remainder is no product, and what leaves none is one if its quotient is the other factor
pub remainder_none : (whole many size : ℕ) → (whole % size ≡ 0 → ⊥) → eqb whole (many * size) ≡ false
remainder_none whole many size h = ne_eqb whole (many * size) (λ e. h (ap (λ (w : ℕ). w % size) e ∙ mul-mod_left many size))

pub quotient_tells : (whole many size : ℕ) → 0 < size → whole % size ≡ 0 → eqb (whole / size) many ≡ eqb whole (many * size)
quotient_tells whole many size pos none =
    let back : whole / size * size ≡ whole = omega (arith, div-add-mod' whole size) in
    ⊎_elim
    (λ t. t ∙ sym (eq-eqb _ _ (sym back ∙ ap (λ (q : ℕ). q * size) (eqb-true _ _ t))))
    (λ t. t ∙ sym (ne_eqb _ _ (λ e. eqb-false _ _ t (ap (λ (w : ℕ). w / size) e ∙ mul-div_cancel many pos))))
    (true_or_false (eqb (whole / size) many))
