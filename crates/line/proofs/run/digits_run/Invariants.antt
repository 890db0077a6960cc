use Rattle.std.proofs.Common.{◌≡◌, ◌+◌}
use Rattle.line.proofs.RunLaws.{RunRead}
use Rattle.line.proofs.run.digits_run.Given as goal

abbrev pub invariant-loop-byte : goal.invariant-loop-byte
invariant-loop-byte l = (l.next ≡ l.from + l.byte-index) × RunRead l.bytes l.from l.to l.value l.next
