-- A table of the first numbers of a count, which are below 2^64 where the others are not: what a read of it tells.
-- Assumes nothing.
use Rattle.std.proofs.Common.{◌≡◌, ℕ, ◌^◌, ◌<◌, ◌≤◌, List, length, get_or, map, ◌∙◌, ap, arith, Option, Some, None, SomeIff, Bor}
use Rattle.std.specs.Option.{option_map}
use Rattle.std.specs.Slice.{IsItemAt}
use Rattle.basics.specs.Sums.{range}
use Rattle.basics.proofs.Ranges.{length-range, get_d_table}
use lib.ListN.{length-map}

module _ (f : ℕ → ℕ) (m n : ℕ) {xs : List ℕ} (all : xs ≡ map f (range 0 m)) (small : n < m → f n < 2 ^ 64) (large : m ≤ n → 2 ^ 64 ≤ f n) where
  long : length xs ≡ m
  long = ap length all ∙ length-map (range 0 m) f ∙ length-range 0 m

  pub number_read : (r : Option (Bor ℕ)) → IsItemAt xs n r → SomeIff (option_map (λ (x : Bor ℕ). x.now) r) (f n < 2 ^ 64) (f n)
  number_read None h = λ fits. omega (arith, h.3, long, large (omega (arith, h.3, long)))
  number_read (Some x) h =
      let inside : n < m = omega (arith, h.3.0, long) in
      (small inside, h.1 ∙ ap (λ (l : List ℕ). get_or l n x.now) all ∙ get_d_table f m n x.now inside)
