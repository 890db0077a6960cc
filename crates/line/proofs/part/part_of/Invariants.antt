use Prim.Native.Nat.{◌-◌}
use mathlib.Core.Path.{◌≡◌}
use lib.Seq.{slice}
use Rattle.line.specs.LineParts.{part_of}
use Rattle.line.proofs.part.part_of.Given as goal

abbrev pub invariant-loop-i : goal.invariant-loop-i
invariant-loop-i l = part_of l.part l.i (slice l.i l.end l.bytes) ≡ part_of l.initial.part l.from (slice l.from l.to l.bytes)

abbrev pub decreases-loop-i : goal.decreases-loop-i
decreases-loop-i l = l.end - l.i
