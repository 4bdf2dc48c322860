-- Where a thing stands in a list, what follows it, and how many come before it.
-- Assumes nothing.
use Rattle.std.specs.Prelude.{◌≡◌, Bool, cond, List, [], ◌∷◌, ℕ, suc, ◌+◌, length}
use Rattle.std.proofs.Math.Option.{some}
use Rattle.std.proofs.Math.ListN.{get_elem?}

-- x stands at place r, counted from 0: "ranks start at 0" (SCOPE 2.a)
abbrev pub At : {A : Type 0} → List A → A → ℕ → Type 0
At l x r = get_elem? l r ≡ some x

-- y is "the one just after" x, and x the one just before y (SCOPE 3.4, 3.5)
pub record Follows {A : Type 0} (l : List A) (x y : A) : Type 0 where
  pub place : ℕ
  pub here : At l x place
  pub there : At l y (suc place)

-- "the earliest" (SCOPE 3.2)
abbrev pub First : {A : Type 0} → List A → A → Type 0
First l x = At l x 0

-- "and latest" (SCOPE 3.3)
pub record Last {A : Type 0} (l : List A) (x : A) : Type 0 where
  pub place : ℕ
  pub here : At l x place
  pub final : suc place ≡ length l

-- 1 for a yes
abbrev pub tick : Bool → ℕ
tick b = cond b 1 0

-- how many of the list come before x, by the order and not by the place (SCOPE 2.a)
unfoldable pub count_before : {A : Type 0} → (A → A → Bool) → A → List A → ℕ
count_before lt x [] = 0
count_before lt x (y ∷ l) = tick (lt y x) + count_before lt x l
