-- `slip::listing::put_body` meets its contract: the length of an object is told, and within the room for the longest.
use Rattle.std.proofs.Common.{◌≡◌, ℕ, length, take, replicate, sym, ◌∙◌, arith}
use Rattle.std.proofs.Math.Seq.{length-take-le}
use mathlib.Core.List.{map}
use Rattle.basics.specs.Limits.{longest_object}
use Rattle.families.specs.Table.{lent}
use Rattle.families.proofs.Going.{Told, length-known, length-not_refused}
use Rattle.slip.proofs.listing.put_body.Goals as goal

pub returns-in_default : goal.returns-in_default
returns-in_default c = let a = c.args in absurd (length-not_refused a.f (lent (map (λ x. x.now) a.lists)) c.requires.lists_value c.in_default.ensures)

pub slice_bounds-space-end : goal.slice_bounds-space-end
slice_bounds-space-end c = let a = c.args in omega (arith, (length-known a.f (lent (map (λ x. x.now) a.lists)) c.in-Ok.ensures).within)

pub slice_bounds-put_listing-end : goal.slice_bounds-put_listing-end
slice_bounds-put_listing-end c = let a = c.args in sym (length-take-le c.in-Ok.size (replicate {A = ℕ} longest_object 0) (length-known a.f (lent (map (λ x. x.now) a.lists)) c.in-Ok.ensures).within)

pub put_listing-requires-clause-object_len : goal.put_listing-requires-clause-object_len
put_listing-requires-clause-object_len c =
    let a = c.args in
    let told = length-known a.f (lent (map (λ x. x.now) a.lists)) c.in-Ok.ensures in
    let n = c.in-Ok.size in
    length-take-le n (replicate {A = ℕ} longest_object 0) told.within ∙ told.long
