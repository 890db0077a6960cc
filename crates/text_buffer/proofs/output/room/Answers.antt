-- The test says whether a line fits behind the bytes in use.
use Rattle.std.proofs.Common.{◌+◌, ◌≤◌, length, arith}
use Rattle.text_buffer.proofs.OutputLaws.{nothing_appended, line_fits, line_too_long}
use Rattle.text_buffer.proofs.output.room.Goals as goal

pub returns-then-line-saturating_sub-clause-used : goal.returns-then-line-saturating_sub-clause-used
returns-then-line-saturating_sub-clause-used g c = rw ((line_fits c.args.filled c.args.buffer.now c.args.line (omega (arith, c.saturating_sub.ensures))).0)

pub returns-then-line-saturating_sub-clause-written : goal.returns-then-line-saturating_sub-clause-written
returns-then-line-saturating_sub-clause-written g c =
    rw ((line_fits c.args.filled c.args.buffer.now c.args.line (omega (arith, c.saturating_sub.ensures))).1) (nothing_appended (g.W.Write.contents c.args.to.now))

pub returns-clause-used : goal.returns-clause-used
returns-clause-used g c =
    let full : length c.args.buffer.now ≤ c.args.filled + c.args.line = omega (arith, c.saturating_sub.ensures) in
    rw ((line_too_long c.args.filled c.args.buffer.now c.args.line full).0) c.flush.ensures.used

pub returns-clause-written : goal.returns-clause-written
returns-clause-written g c =
    let full : length c.args.buffer.now ≤ c.args.filled + c.args.line = omega (arith, c.saturating_sub.ensures) in
    rw ((line_too_long c.args.filled c.args.buffer.now c.args.line full).1) c.flush.ensures.written
