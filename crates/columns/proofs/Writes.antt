-- No write, and two writes in a row.
-- Assumes nothing.
use mathlib.Core.Path.{refl, ◌∙◌}
use mathlib.Core.List.{[], ◌++◌, append_assoc, append-nil}
use native.Mathlib.Omega.{arith}
use lib.ListN.{length-append}
use Rattle.listings.specs.Bytes.{Bytes}
use Rattle.columns.specs.declared.Text.{Text}
use Rattle.columns.specs.Inner.Writing.{Wrote}

pub wrote_nothing : (d : Text) → Wrote d d []
wrote_nothing d = record { till = omega arith; bytes = rw append-nil; room = refl; lent = refl }

pub then : {d e f : Text} {s t : Bytes} → Wrote d e s → Wrote e f t → Wrote d f (s ++ t)
then {s} {t} v w = record {
  till = rw length-append (omega arith);
  bytes = w.bytes ∙ rw (v.bytes, append_assoc);
  room = w.room ∙ v.room;
  lent = w.lent ∙ v.lent;
}
