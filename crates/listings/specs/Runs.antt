-- What a run of calls gives, for the sentences about whole walks (SCOPE 5.8).
-- Assumes nothing.
use Rattle.std.proofs.Math.Option
use Rattle.std.proofs.Math.Option.{Option, none, some}
use Rattle.std.specs.Prelude.{List, [], ◌∷◌, map, ℕ}
use Rattle.basics.specs.Sums.{range}
use Rattle.listings.specs.Bytes.{Bytes}
use Rattle.listings.specs.Calls.{Call, UNRANK, Answer, REFUSED, COUNTED, RANKED, MEASURED, WRITTEN, STEPPED, END, Said}

-- END ends a walk; every other answer is followed by its bytes (SCOPE 5.8). No theorem asks END of a run with COUNT or RANK in it, and no call answers
-- MEASURED: those three cases are there to be total
unfoldable pub heard : Answer → Bytes → Option (List Bytes) → Option (List Bytes)
heard END x later = some []
heard (REFUSED q) x later = Option.map (λ l. x ∷ l) later
heard (COUNTED n) x later = Option.map (λ l. x ∷ l) later
heard (RANKED n) x later = Option.map (λ l. x ∷ l) later
heard (MEASURED n) x later = Option.map (λ l. x ∷ l) later
heard WRITTEN x later = Option.map (λ l. x ∷ l) later
heard STEPPED x later = Option.map (λ l. x ∷ l) later

-- "What a run gives is the bytes after each of its calls, in turn, without the call that hears END" (SCOPE 5.8); none if END is never heard
unfoldable pub until_end : List Said → Option (List Bytes)
until_end [] = none
until_end (s ∷ ss) = heard s.0 s.1 (until_end ss)

-- the bytes after each call (SCOPE 5.8)
unfoldable pub bytes_of : List Said → List Bytes
bytes_of ss = map (λ s. s.1) ss

-- the bytes after the last call, and x where there is none
unfoldable pub finally : Bytes → List Said → Bytes
finally x [] = x
finally x (s ∷ ss) = finally s.1 ss

-- UNRANK with each of m ranks from r on (SCOPE 5.8)
unfoldable pub unranks : ℕ → ℕ → List Call
unranks r m = map UNRANK (range r m)
