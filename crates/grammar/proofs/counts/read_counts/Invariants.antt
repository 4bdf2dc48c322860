-- The loop's invariant: the counts so far stand before what the rest of the line hands on.
use Rattle.std.proofs.Common.{◌≡◌, ◌-◌, ◌*◌, length, take, drop}
use Rattle.columns.specs.Fields.{field_width}
use Rattle.grammar.specs.Grammar.{fields, handed_on}
use Rattle.grammar.proofs.LineLaws.{after}
use Rattle.grammar.proofs.counts.read_counts.Given as goal

abbrev pub invariant-loop-i : goal.invariant-loop-i
invariant-loop-i l = handed_on (fields (length l.counts) l.line) ≡ after (take l.i l.counts) (handed_on (fields (length l.counts - l.i) (drop (field_width * l.i) l.line)))
