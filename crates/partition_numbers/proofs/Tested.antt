-- Every stored number is the count that its place stands for: tested once, over all of them.
-- Assumes nothing.
use mathlib.Core.Path.{◌≡◌, refl}
use mathlib.Core.Bool.{Bool, true, false, ◌&&◌, and-eq-true_iff}
use Prim.Native.Nat.{ℕ, ◌+◌, ◌*◌, ◌-◌, ◌/◌, ◌%◌, ◌≤◌, ◌<◌, ◌^◌}
use native.Mathlib.Omega.{arith}
use lib.Dec.{leb, ltb, eqb}
use lib.ListN.{get_or}
use borrow.Author.Tests.{eqb-true, eq-eqb, leb-true, le-leb, ltb-true, lt-ltb, le-ltb}
use Rattle.basics.specs.Limits.{places}
use Rattle.basics.specs.Sums.{range}
use Rattle.numbers.specs.Numbers.{parts_from, partitions_of}
use Rattle.partition_numbers.specs.declared.words.TheConstants.{WORDS}
use Rattle.partition_numbers.proofs.Columns.{column, grow, holds, tests, every}

-- where the number at e of column j stands, 161 too far
abbrev pub spot : ℕ → ℕ → ℕ
spot e j = j / 2 * (83 - j) + e

-- the number at a place: three in one word
abbrev pub number : ℕ → ℕ
number at = get_or WORDS (at % 256) 0 / 2 ^ (21 * (at / 256)) % 2097152

-- what is stored: a `Place`, as `stored` requires it
abbrev pub Stored : ℕ → ℕ → Type 0
Stored e j = ((j % 2 ≡ 0) × ((e + j ≤ places + 1) × (e ≤ (places + 1) * j))) × (j ≤ e + 1)

is_stored : ℕ → ℕ → Bool
is_stored e j = eqb (j % 2) 0 && (leb (e + j) (places + 1) && (leb e ((places + 1) * j) && leb j (e + 1)))

abbrev pick : Bool → Bool → Bool → Bool
pick true a b = a
pick false a b = b

-- column 2 is worked out
right_in : ℕ → ℕ → ℕ → Bool
right_in e j c = pick (ltb j 4) (eqb (e / 2 + 1) c) (leb 161 (spot e j) && (ltb (spot e j) 929 && eqb (number (spot e j - 161)) c))

right : ℕ → ℕ → ℕ → Bool
unfolding is_stored right_in
right e j c = pick (is_stored e j) (right_in e j c) true

tested : tests right 42 0 (column 0 0 82) ≡ true
unfolding tests holds right grow range partitions_of parts_from
tested = refl

is_stored_lem : (e j : ℕ) → Stored e j → is_stored e j ≡ true
unfolding is_stored
is_stored_lem e j s = rw (eq-eqb _ _ s.0.0, le-leb _ _ s.0.1.0, le-leb _ _ s.0.1.1, le-leb _ _ s.1)

pub record InPlace (e j : ℕ) : Type 0 where
  pub from : 161 ≤ spot e j
  pub below : spot e j < 929
  pub there : number (spot e j - 161) ≡ partitions_of (e + j) j

module _ (e j : ℕ) (s : Stored e j) where
  held : right_in e j (partitions_of (e + j) j) ≡ true
  unfolding right
  held = rw (is_stored_lem e j s) at (every right 42 0 82 j e j tested (omega arith) (omega arith) (omega arith))

  pub worked_out : j < 4 → e / 2 + 1 ≡ partitions_of (e + j) j
  unfolding right_in
  worked_out h = eqb-true _ _ (rw (lt-ltb j 4 h) at held)

  pub in_place : 4 ≤ j → InPlace e j
  unfolding right_in
  in_place h =
      let r = eqb (number (spot e j - 161)) (partitions_of (e + j) j) in
      let a = (and-eq-true_iff (leb 161 (spot e j)) (ltb (spot e j) 929 && r)).0 (rw (le-ltb j 4 h) at held) in
      let b = (and-eq-true_iff (ltb (spot e j) 929) r).0 a.1 in
      record { from = leb-true _ _ a.0; below = ltb-true _ _ b.0; there = eqb-true _ _ b.1 }
