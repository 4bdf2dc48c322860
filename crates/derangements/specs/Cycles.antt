-- What is left of a derangement of n places without n (SCOPE 1.g, after 004), c being f(n): n is cut out of its cycle or, where c goes back to n, both are
-- removed.
-- Assumes nothing.
use Rattle.std.specs.Prelude.{Bool, cond, map, ℕ, suc, ◌-◌, leb, ltb, eqb, get_or}
use Rattle.basics.specs.Sums.{range}
use Rattle.listings.specs.Bytes.{Bytes}

-- "byte i being f(i)", i from 1 (SCOPE 1.7)
abbrev pub image : Bytes → ℕ → ℕ
image x i = get_or x (i - 1) 0

-- the byte string f(1), .., f(n)
abbrev pub images : ℕ → (ℕ → ℕ) → Bytes
images n f = map f (range 1 n)

-- "f(c) = n" (SCOPE 2.7): c and n make a cycle of two
unfoldable pub paired : ℕ → Bytes → Bool
paired n x = eqb (image x (image x n)) n

-- "n is cut out of its cycle" (SCOPE 2.7): what goes to n goes on to c
unfoldable pub cut : ℕ → Bytes → Bytes
cut n x = images (n - 1) (λ i. cond (eqb (image x i) n) (image x n) (image x i))

-- "labels above c move down by one" (SCOPE 2.7)
unfoldable pub lowered : ℕ → ℕ → ℕ
lowered c i = cond (ltb c i) (i - 1) i

-- and up, so that there is room for c: the places but c
unfoldable pub raised : ℕ → ℕ → ℕ
raised c i = cond (leb c i) (suc i) i

-- "c and n are removed and labels above c move down by one" (SCOPE 2.7)
unfoldable pub unpair : ℕ → Bytes → Bytes
unpair n x = images (n - 2) (λ i. lowered (image x n) (image x (raised (image x n) i)))
