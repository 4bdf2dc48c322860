-- That the listing of each family is the listing of its objects, as many as the kind's number, and what the table allows.
-- Assumes nothing.
use mathlib.Core.Path.{◌≡◌, sym, ◌∙◌, ap}
use mathlib.Core.Bool.{Bool, true, false, cond, ◌&&◌, false≢true}
use mathlib.Core.Logic.{⊎_elim}
use mathlib.Core.Option.{none, some, some-ne-none}
use mathlib.Core.List.{List, []}
use Prim.Native.Nat.{ℕ, ◌≤◌}
use lib.Dec.{ltb, leb}
use borrow.Author.Tests.{leb-true}
use Rattle.basics.specs.Limits.{longest_object, floors}
use Rattle.basics.proofs.Bools.{and-true, true_or_false}
use Rattle.listings.specs.Bytes.{Bytes}
use Rattle.listings.specs.Calls.{first_no}
use Rattle.listings.specs.Listings.{Listing, StrictTotal}
use Rattle.listings.specs.Places.{At}
use Rattle.listings.proofs.Uniqueness.{unique}
use Rattle.listings.proofs.Ranks.{place-is_rank}
use Rattle.listings.proofs.Demand.{Lawful}
use Rattle.families.specs.declared.Family.{Family}
use Rattle.families.specs.Table.{Lent, last_kind}
use Rattle.families.specs.Families.{row, is_kind, in_table, floor_fits, lists_fit, asked_of_all, allowed, object_length, is_object, comes_before, listing, count_of, rank_of}
use Rattle.families.proofs.QuestionLaws.{passed, all_yes_lem, none_no}
use Rattle.families.proofs.RowsHold.{empty_listed, row_laws}

listed_if : (t : Bool) {object : Bytes → Bool} {lt : Bytes → Bytes → Bool} {l : List Bytes} → Listing object lt l → Listing (λ x. t && object x) lt (cond t l [])
listed_if true h = h
listed_if false {lt = lt} h = empty_listed lt (λ x o. false≢true o)

-- "all its objects, each exactly once, in the order above"
pub listed : (f : Family) (b : Lent) → Listing (is_object f b) (comes_before f b) (listing f b)
unfolding is_object comes_before listing
listed f b = listed_if (allowed f b) (row_laws f b).lists

-- two lists with these properties are equal, so it is the listing
pub the_listing : (f : Family) (b : Lent) (l : List Bytes) → Listing (is_object f b) (comes_before f b) l → l ≡ listing f b
the_listing f b l h = unique h (listed f b)

-- the order of each kind is a strict total order on the family's objects
pub ordered : (f : Family) (b : Lent) → StrictTotal (is_object f b) (comes_before f b)
ordered f b = (listed f b).order

-- "what the table above doesn't allow has an empty one"
pub not-allowed : (f : Family) (b : Lent) → allowed f b ≡ false → listing f b ≡ []
unfolding listing
not-allowed f b e = rw e

-- and no object
pub object-allowed : (f : Family) (b : Lent) (x : Bytes) → is_object f b x ≡ true → allowed f b ≡ true
unfolding is_object
object-allowed f b x o = (and-true (allowed f b) ((row f b).is_object x) o).0

-- each object has "the length in the table"
pub lawful : (f : Family) (b : Lent) → Lawful (is_object f b) (comes_before f b) (listing f b) (object_length f b)
unfolding is_object object_length
lawful f b = record { lists = listed f b; long = λ x o. (row_laws f b).long x (and-true (allowed f b) ((row f b).is_object x) o).1 }

-- the rank by the order is the place
pub rank_is_place : (f : Family) (b : Lent) (r : ℕ) {x : Bytes} → At (listing f b) x r → rank_of f b x ≡ r
unfolding rank_of
rank_is_place f b r h = place-is_rank (listed f b) r h

-- what the table allows has passed the questions that are put to all

module _ (f : Family) (b : Lent) where
  pub allowed-asked : first_no (asked_of_all f b) ≡ none → allowed f b ≡ true
  unfolding allowed
  allowed-asked e = all_yes_lem (asked_of_all f b) e

  pub asked-allowed : allowed f b ≡ true → first_no (asked_of_all f b) ≡ none
  unfolding allowed
  asked-allowed a = none_no (asked_of_all f b) a

  pub not-asked : {q : ℕ} → first_no (asked_of_all f b) ≡ some q → allowed f b ≡ false
  not-asked {q} e = ⊎_elim (λ t. absurd (some-ne-none q (sym e ∙ asked-allowed t))) (λ t. t) (true_or_false (allowed f b))

  pub none_allowed : (x : Bytes) {q : ℕ} → first_no (asked_of_all f b) ≡ some q → is_object f b x ≡ false
  unfolding is_object
  none_allowed x e = rw (not-asked e)

  module _ (a : allowed f b ≡ true) where
    -- "Question 1 now allows 1 to 7"
    pub of_kind : (1 ≤ f.kind) × (f.kind ≤ last_kind)
    unfolding asked_of_all is_kind
    of_kind =
        let p = and-true (leb 1 f.kind) (leb f.kind last_kind) (passed 1 (asked_of_all f b) (asked-allowed a)) in
        (leb-true 1 f.kind p.0, leb-true f.kind last_kind p.1)

    pub bounded : (row f b).in_bounds ≡ true
    unfolding asked_of_all in_table
    bounded = passed 2 (asked_of_all f b) (asked-allowed a)

    pub fitting : (row f b).lists_fit ≡ true
    unfolding asked_of_all lists_fit
    fitting = passed 3 (asked_of_all f b) (asked-allowed a)

    -- "is the floor 1 to 80", as kind 5 is asked
    module _ (e : f.kind ≡ 5) where
      pub floor_within : (leb 1 f.floor && leb f.floor floors) ≡ true
      unfolding asked_of_all floor_fits
      floor_within = rw e at (passed 10 (asked_of_all f b) (asked-allowed a))

      pub floor_positive : 1 ≤ f.floor
      floor_positive = leb-true 1 f.floor (and-true (leb 1 f.floor) (leb f.floor floors) floor_within).0

      pub floor_most : f.floor ≤ floors
      floor_most = leb-true f.floor floors (and-true (leb 1 f.floor) (leb f.floor floors) floor_within).1

    -- the count is the number of the kind
    pub count_is : count_of f b ≡ (row f b).number
    unfolding count_of listing
    count_is = rw a ((row_laws f b).counted bounded fitting)

    -- question 4
    pub has_object_lem : ltb 0 (count_of f b) ≡ (row f b).has_object
    has_object_lem = ap (λ (v : ℕ). ltb 0 v) count_is ∙ (row_laws f b).positive bounded fitting

    -- "A family has no more than 80 places"
    pub short : object_length f b ≤ longest_object
    unfolding object_length
    short = (row_laws f b).short bounded fitting

-- for `#[tactic(using(..))]`: where the questions pass that are put to all the family is allowed, and where one doesn't it has no object
pub ruleset admits = (allowed-asked, not-asked, not-allowed, none_allowed)
