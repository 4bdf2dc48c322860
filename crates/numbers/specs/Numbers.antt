-- The counts of paper 01's families (SCOPE 6) as unbounded numbers, each by the rule that builds its objects.
-- Assumes nothing.
use Rattle.std.specs.Prelude.{ℕ, zero, suc, pred, ◌+◌, ◌-◌, ◌*◌, List, [], ◌∷◌, get_or}
use Rattle.basics.specs.Sums.{total, range, sum_over}

-- kind 1, "k site numbers from 1 to n": n is taken or it is not, which is the addition rule of "Pascal's triangle" (SCOPE 1.1, 6.1)
unfoldable pub choose : ℕ → ℕ → ℕ
choose n zero = 1
choose zero (suc k) = 0
choose (suc n) (suc k) = choose n k + choose n (suc k)

-- kind 3, "each of 1 to n" (SCOPE 1.3, 6.3)
unfoldable pub factorial_of : ℕ → ℕ
factorial_of zero = 1
factorial_of (suc n) = suc n * factorial_of n

-- kind 2, "word with letter i exactly as often as count i says": the places of one letter, then a word of the others (SCOPE 1.2, 6.2)
unfoldable pub multinomial_of : List ℕ → ℕ
multinomial_of [] = 1
multinomial_of (c ∷ cs) = choose (c + total cs) c * multinomial_of cs

-- the letter counts left when letter i (from 0) has been used once
unfoldable pub one_less : List ℕ → ℕ → List ℕ
one_less [] i = []
one_less (c ∷ cs) zero = pred c ∷ cs
one_less (c ∷ cs) (suc i) = c ∷ one_less cs i

-- the letters that have a count left, ascending, counted from i on: "a count may be 0" (SCOPE 1.2)
unfoldable pub letters_from : ℕ → List ℕ → List ℕ
letters_from i [] = []
letters_from i (zero ∷ cs) = letters_from (suc i) cs
letters_from i (suc c ∷ cs) = i ∷ letters_from (suc i) cs

-- kind 4, "blocks are 1 to k, all used": model n is alone in a block, or joins one of the k blocks of the others (SCOPE 1.4, 6.4)
unfoldable pub stirling_of : ℕ → ℕ → ℕ
stirling_of zero zero = 1
stirling_of zero (suc k) = 0
stirling_of (suc n) zero = 0
stirling_of (suc n) (suc k) = stirling_of n k + suc k * stirling_of n (suc k)

-- kind 5, "k parts, .. weakly descending, sum n", "every part of kind 5 is at least that floor" f: the last is p, and the others are at least p
-- (SCOPE 1.5, 1.e, 6.5)
unfoldable pub parts_from : ℕ → ℕ → ℕ → ℕ
parts_from f zero zero = 1
parts_from f (suc n) zero = 0
parts_from f n (suc k) = sum_over (range f (suc n - f)) (λ p. parts_from p (n - p) k)

-- "Floor 1 is the split of old": "k parts, each at least 1, weakly descending, sum n" (SCOPE 1.5, 1.e, 6.5)
unfoldable pub partitions_of : ℕ → ℕ → ℕ
partitions_of n k = parts_from 1 n k

-- the Catalan numbers of n, n - 1, .., 0: the inside has j branches, and the rest the others (SCOPE 6.6)
unfoldable pub catalans_down : ℕ → List ℕ
catalans_down zero = 1 ∷ []
catalans_down (suc n) =
    sum_over (range 0 (suc n)) (λ j. get_or (catalans_down n) (n - j) 0 * get_or (catalans_down n) j 0) ∷ catalans_down n

-- kind 6, "as many of each, no prefix with more 0 than 1", n of each (SCOPE 1.6, 6.6)
unfoldable pub catalan_of : ℕ → ℕ
catalan_of n = get_or (catalans_down n) 0 0

-- kind 7, "f(i) never i": f(n) is one of the n - 1 others, and what is left is a derangement of n - 1 or of n - 2 (SCOPE 1.7, 6.10)
unfoldable pub derangements_of : ℕ → ℕ
derangements_of zero = 1
derangements_of (suc zero) = 0
derangements_of (suc (suc n)) = suc n * (derangements_of (suc n) + derangements_of n)
