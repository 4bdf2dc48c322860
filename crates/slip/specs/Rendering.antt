-- What `render` promises: the program's whole text (SCOPE 7), in a buffer that is long enough for every slip.
-- Assumes nothing.
use Rattle.std.specs.Prelude.{◌≡◌, ℕ, Result, Ok, IsErr, ◌≤◌, ◌<◌, length, take}
use Rattle.listings.specs.Bytes.{Bytes}
use Rattle.slip.specs.declared.Short.{Short}
use Rattle.slip.specs.Sizes.{largest}
use Rattle.slip.specs.Text.{output}

pub record Renders (input before after : Bytes) (r : Result ℕ Short) : Type 0 where
  -- in a buffer that is long enough the text stands at its start
  pub whole : largest ≤ length before → (r ≡ Ok (length (output input))) × (take (length (output input)) after ≡ output input)
  -- a shorter buffer is said to be short, whatever the slip, and left as it was
  pub short : length before < largest → IsErr r × (after ≡ before)
