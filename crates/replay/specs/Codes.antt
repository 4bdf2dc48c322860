-- Calls as numbers, for lists of them in lent buffers (SCOPE 0.3).
-- Assumes nothing.
use Rattle.std.specs.Prelude.{Bool, true, ◌&&◌, List, [], ◌∷◌, ℕ, leb, get_or}
use Rattle.listings.specs.Calls.{Call, FIRST, LAST, NEXT, PREVIOUS, UNRANK}

-- 1 FIRST, 2 LAST, 3 NEXT, 4 PREVIOUS, 5 UNRANK with the rank beside it. It is total: any other number reads as FIRST, but no replay reads
-- one, since `outcome` looks at the calls only where every code is `known`.
unfoldable pub call_of : ℕ → ℕ → Call
call_of code r = get_or (FIRST ∷ FIRST ∷ LAST ∷ NEXT ∷ PREVIOUS ∷ UNRANK r ∷ []) code FIRST

-- "the calls with their arguments" (SCOPE 5.2): a code, and the rank beside it. Where `outcome` looks at them the two lists are equally long.
unfoldable pub calls_of : List ℕ → List ℕ → List Call
calls_of [] rs = []
calls_of (c ∷ cs) [] = []
calls_of (c ∷ cs) (r ∷ rs) = call_of c r ∷ calls_of cs rs

-- is every code one of the five?
unfoldable pub known : List ℕ → Bool
known [] = true
known (c ∷ cs) = leb 1 c && leb c 5 && known cs
