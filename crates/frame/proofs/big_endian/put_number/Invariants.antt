use mathlib.Core.Path.{◌≡◌}
use lib.Seq.{sets}
use Rattle.frame.specs.FieldMap.{bytes_of}
use Rattle.frame.proofs.big_endian.put_number.Given as goal

abbrev pub invariant-loop-i : goal.invariant-loop-i
invariant-loop-i l = sets l.out l.at (bytes_of l.i l.rest) ≡ sets l.fn.out l.at (bytes_of l.width l.number)
