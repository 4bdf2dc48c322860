-- The listing (SCOPE 5.1) of derangements, after Loehr: by the key, and for each key by the derangement left.
-- Assumes nothing.
use Rattle.std.specs.Prelude.{cond, List, [], ◌∷◌, ℕ, zero, suc, ◌-◌, ◌*◌, ltb, eqb}
use Rattle.basics.specs.Sums.{range}
use Rattle.listings.specs.Bytes.{Bytes}
use Rattle.listings.specs.Choices.{by_choice}
use Rattle.derangements.specs.Cycles.{image, images, lowered, raised}

-- n put before c into its cycle: n goes to c, and what goes to c goes to n
unfoldable pub splice : ℕ → ℕ → Bytes → Bytes
splice n c x = images n (λ i. cond (eqb i n) c (cond (eqb (image x i) c) n (image x i)))

-- n put to c as a cycle of two: n goes to c, and c goes to n
unfoldable pub pair : ℕ → ℕ → Bytes → Bytes
pair n c x = images n (λ i. cond (eqb i n) c (cond (eqb i c) n (raised c (image x (lowered c i)))))

-- of n places, the derangement of a key and of the one left: below n the key is c, and from n on n - 1 + c (SCOPE 2.7)
unfoldable pub join : ℕ → ℕ → Bytes → Bytes
join n key x = cond (ltb key n) (splice n key x) (pair n (key - (n - 1)) x)

-- the derangements of n places (SCOPE 1.7, 2.7): of none "the empty string is the one object", of one there is none (SCOPE 1.b)
unfoldable pub derangements : ℕ → List Bytes
derangements zero = [] ∷ []
derangements (suc zero) = []
derangements (suc (suc m)) = by_choice (range 1 (2 * suc m)) (λ key. cond (ltb key (suc (suc m))) (derangements (suc m)) (derangements m)) (join (suc (suc m)))
