-- The bytes in use are written, or none where more are said to be in use than there are.
use Rattle.std.proofs.Common.{arith}
use Rattle.text_buffer.proofs.OutputLaws.{nothing_appended, inside, beyond}
use Rattle.text_buffer.proofs.output.flush.Goals as goal

pub returns-in_ok-write_all-clause-written : goal.returns-in_ok-write_all-clause-written
returns-in_ok-write_all-clause-written g c = rw (inside c.args.filled c.args.buffer.now (omega arith)) c.in_ok-write_all.ensures.bytes

pub returns-else-filled-buffer-clause-written : goal.returns-else-filled-buffer-clause-written
returns-else-filled-buffer-clause-written g c = rw (beyond c.args.filled c.args.buffer.now (omega arith)) (nothing_appended (g.W.Write.contents c.args.to.now))
