-- The loop's invariant: the digits so far show the value, which is as wide as they are, and those that are left are read behind them.
use Rattle.std.proofs.Common.{◌≡◌, ◌<◌, ◌^◌, drop}
use Rattle.columns.specs.Fields.{digits as digits_of}
use Rattle.columns.proofs.fields.digits.Given as goal

abbrev pub invariant-loop-digit : goal.invariant-loop-digit
invariant-loop-digit l = (l.value < 10 ^ l.digit-index) × (digits_of l.value (drop l.digit-index l.part) ≡ digits_of 0 l.part)
