-- The twelve proof cases of paper 01 (SCOPE 8), as one table of facts about the definitions, and beside them what edition 2 is said to give;
-- proofs/Cases.antt proves that all hold.
-- Assumes nothing.
use Rattle.std.specs.Prelude.{◌≡◌, List, [], ◌∷◌, ℕ}
use Rattle.listings.specs.Bytes.{Bytes}
use Rattle.listings.specs.Calls.{Call, COUNT, LAST, NEXT, RANK, Said, COUNTED, RANKED, WRITTEN, STEPPED}
use Rattle.families.specs.declared.Family.{Family}
use Rattle.families.specs.Table.{Lent, only_counts, plain_family}
use Rattle.families.specs.Families.{listing}
use Rattle.families.specs.Calls.{respond}

-- a call on some bytes says this; or the listing is this
pub data Fact : Type 0 where
  says : Call → Bytes → Said → Fact
  lists : List Bytes → Fact

-- a row of the table (SCOPE 8)
pub record Case : Type 0 where
  pub family : Family
  pub beside : Lent
  pub facts : List Fact

-- a fact holds of a family: the definition of the call, or of the listing, is equal to it
abbrev pub Holds : Family → Lent → Fact → Type 0
Holds f b (says c x s) = respond c f b x ≡ s
Holds f b (lists l) = listing f b ≡ l

-- so does every fact of a list
abbrev pub FactsHold : Family → Lent → List Fact → Type 0
FactsHold f b [] = Unit
FactsHold f b (fact ∷ facts) = Holds f b fact × FactsHold f b facts

-- and every fact of every row
abbrev pub CasesHold : List Case → Type 0
CasesHold [] = Unit
CasesHold (c ∷ cs) = FactsHold c.family c.beside c.facts × CasesHold cs

-- a row by its kind, n, k, letter counts and facts
abbrev pub case : ℕ → ℕ → ℕ → List ℕ → List Fact → Case
case kind n k cs facts = record { family = plain_family kind n k; beside = only_counts cs; facts = facts }

-- "has rank" (SCOPE 8)
abbrev pub ranked : Bytes → ℕ → Fact
ranked x r = says RANK x (RANKED r, x)

-- "count" (SCOPE 8)
abbrev pub counted : ℕ → Fact
counted n = says COUNT [] (COUNTED n, [])

-- "after .. comes" (SCOPE 8)
abbrev pub next : Bytes → Bytes → Fact
next x y = says NEXT x (STEPPED, y)

-- "the last" (SCOPE 8): LAST writes x over bytes w of its length
abbrev pub last : Bytes → Bytes → Fact
last w x = says LAST w (WRITTEN, x)

-- "Proof cases", in the order of the paper (SCOPE 8.1 to 8.12)
abbrev pub cases : List Case
cases =
    case 1 8 4 [] (ranked (3 ∷ 4 ∷ 6 ∷ 7 ∷ []) 30 ∷ [])
    ∷ case 1 8 4 [] (ranked (5 ∷ 6 ∷ 7 ∷ 8 ∷ []) 69 ∷ last (0 ∷ 0 ∷ 0 ∷ 0 ∷ []) (5 ∷ 6 ∷ 7 ∷ 8 ∷ []) ∷ [])
    ∷ case 1 5 0 [] (ranked [] 0 ∷ counted 1 ∷ [])
    ∷ case 2 2 0 (2 ∷ 1 ∷ []) (ranked (1 ∷ 2 ∷ 1 ∷ []) 1 ∷ [])
    ∷ case 2 3 0 (1 ∷ 0 ∷ 2 ∷ []) (next (1 ∷ 3 ∷ 3 ∷ []) (3 ∷ 1 ∷ 3 ∷ []) ∷ [])
    ∷ case 3 3 0 [] (ranked (2 ∷ 3 ∷ 1 ∷ []) 3 ∷ [])
    ∷ case 4 4 2 [] (ranked (1 ∷ 1 ∷ 1 ∷ 2 ∷ []) 0 ∷ ranked (1 ∷ 1 ∷ 2 ∷ 2 ∷ []) 4 ∷ counted 7 ∷ [])
    ∷ case 5 7 3 [] (lists ((5 ∷ 1 ∷ 1 ∷ []) ∷ (4 ∷ 2 ∷ 1 ∷ []) ∷ (3 ∷ 3 ∷ 1 ∷ []) ∷ (3 ∷ 2 ∷ 2 ∷ []) ∷ []) ∷ [])
    ∷ case 5 3 0 [] (counted 0 ∷ [])
    ∷ case 6 3 0 [] (ranked (1 ∷ 1 ∷ 0 ∷ 0 ∷ 1 ∷ 0 ∷ []) 2 ∷ ranked (1 ∷ 1 ∷ 1 ∷ 0 ∷ 0 ∷ 0 ∷ []) 4 ∷ [])
    ∷ case 6 4 0 [] (ranked (1 ∷ 1 ∷ 1 ∷ 0 ∷ 0 ∷ 0 ∷ 1 ∷ 0 ∷ []) 8 ∷ ranked (1 ∷ 1 ∷ 0 ∷ 1 ∷ 0 ∷ 1 ∷ 0 ∷ 0 ∷ []) 9 ∷ [])
    ∷ case 6 7 0 [] (next (1 ∷ 1 ∷ 0 ∷ 1 ∷ 1 ∷ 0 ∷ 0 ∷ 0 ∷ 1 ∷ 1 ∷ 1 ∷ 0 ∷ 0 ∷ 0 ∷ []) (1 ∷ 1 ∷ 1 ∷ 0 ∷ 0 ∷ 1 ∷ 0 ∷ 0 ∷ 1 ∷ 0 ∷ 1 ∷ 0 ∷ 1 ∷ 0 ∷ []) ∷ [])
    ∷ []

-- what edition 2 of kind 4 makes of them (SCOPE 1.f, 2.b): "For four models in two blocks edition 2 therefore ends with 1 1 1 2", and the object that 001 names
abbrev pub edition_cases : List Case
edition_cases =
    record {
      family = record { kind = 4; n = 4; k = 2; floor = 1; edition = 2 };
      beside = only_counts [];
      facts =
          counted 7
          ∷ lists
          ((1 ∷ 2 ∷ 1 ∷ 1 ∷ [])
          ∷ (1 ∷ 2 ∷ 2 ∷ 1 ∷ [])
          ∷ (1 ∷ 1 ∷ 2 ∷ 1 ∷ [])
          ∷ (1 ∷ 2 ∷ 1 ∷ 2 ∷ [])
          ∷ (1 ∷ 2 ∷ 2 ∷ 2 ∷ [])
          ∷ (1 ∷ 1 ∷ 2 ∷ 2 ∷ [])
          ∷ (1 ∷ 1 ∷ 1 ∷ 2 ∷ [])
          ∷ [])
          ∷ last (0 ∷ 0 ∷ 0 ∷ 0 ∷ []) (1 ∷ 1 ∷ 1 ∷ 2 ∷ [])
          ∷ [];
    }
    ∷ record { family = record { kind = 4; n = 5; k = 3; floor = 1; edition = 2 }; beside = only_counts []; facts = ranked (1 ∷ 1 ∷ 2 ∷ 1 ∷ 3 ∷ []) 20 ∷ [] }
    ∷ []
