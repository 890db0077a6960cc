use mathlib.Core.Path.{◌≡◌}
use Rattle.frame.specs.FieldMap.{big_endian}
use Rattle.frame.proofs.big_endian.number_at.Given as goal

abbrev pub invariant-loop-i : goal.invariant-loop-i
invariant-loop-i l = l.number ≡ big_endian l.bytes l.at l.i
