-- Answers as numbers, for buffers of them and for callers in other languages: one table for all.
-- Assumes nothing.
use Rattle.std.specs.Prelude.{ℕ}
use Rattle.listings.specs.Bytes.{Bytes}
use Rattle.listings.specs.Calls.{Answer, REFUSED, COUNTED, RANKED, MEASURED, WRITTEN, STEPPED, END, Said}

-- a refusal "hands back its number only" (SCOPE 4.a); 20 written, 21 stepped, 100 END; 0 for an answer that is a number of its own, which no
-- replay has
unfoldable pub code_of : Answer → ℕ
code_of (REFUSED q) = q
code_of (COUNTED n) = 0
code_of (RANKED n) = 0
code_of (MEASURED n) = 0
code_of WRITTEN = 20
code_of STEPPED = 21
code_of END = 100

-- that number, where there is one; every other answer leaves a lent number v as it was. Only COUNT, RANK and the length of an object are asked for one: the
-- last three cases are never reached
unfoldable pub value_of : Answer → ℕ → ℕ
value_of (REFUSED q) v = v
value_of (COUNTED n) v = n
value_of (RANKED n) v = n
value_of (MEASURED n) v = n
value_of WRITTEN v = v
value_of STEPPED v = v
value_of END v = v

-- what a call says, with the code in the answer's place
abbrev pub Coded : Type 0
Coded = ℕ × Bytes

-- its code, and the lent bytes after it
abbrev pub coded : Said → Coded
coded s = (code_of s.0, s.1)
