-- `command::judge_turn` meets its contract, test by test.
use mathlib.Core.Path.{◌≡◌, sym}
use mathlib.Core.Bool.{true, false}
use mathlib.Core.Logic.{◌≢◌}
use native.Mathlib.Omega.{arith}
use borrow.Author.Tests.{eq-eqb, ne_eqb}
use Prim.Native.Nat.{◌+◌}
use lib.Dec.{eqb}
use Rattle.conditions.specs.Conditions.{both}
use Rattle.refusal.specs.Judging.{refuse_if}
use Rattle.answers.specs.Answers.{unless_refused}
use Rattle.record.specs.Idle.{is_writer_idle}
use Rattle.command.specs.Command.{change_starts, number_equal, number_other, in_turn}
use Rattle.command.proofs.judge_turn.Goals as goal

pub returns-then-both_hold : goal.returns-then-both_hold
unfolding in_turn number_equal
returns-then-both_hold c slots =
    let same : both (eqb c.args.sent.point c.args.last.point) (eqb c.args.sent.action c.args.last.action) ≡ true = sym c.if-both_hold.ensures in
    rw (eq-eqb _ _ c.if-sent-last.true, same)

pub returns-else-both_hold : goal.returns-else-both_hold
unfolding in_turn number_equal
returns-else-both_hold c slots =
    let other : both (eqb c.args.sent.point c.args.last.point) (eqb c.args.sent.action c.args.last.action) ≡ false = sym c.if-both_hold.ensures in
    rw (eq-eqb _ _ c.if-sent-last.true, other)

pub returns-then-from-next : goal.returns-then-from-next
unfolding in_turn number_other
returns-then-from-next c slots =
    let other : c.args.sent.number ≢ c.args.last.number + 1 = omega (arith, c.if-from-next.true) in
    rw (ne_eqb _ _ c.if-sent-last.false, ne_eqb c.args.sent.number (c.args.last.number + 1) other)

pub returns-then-not-is_writer_idle : goal.returns-then-not-is_writer_idle
unfolding in_turn number_other change_starts refuse_if unless_refused
returns-then-not-is_writer_idle c slots =
    let next : c.args.sent.number ≡ c.args.last.number + 1 = omega arith in
    let engaged : is_writer_idle c.args.panel.writer.work ≡ false = sym c.if-not-is_writer_idle.ensures in
    rw (ne_eqb _ _ c.if-sent-last.false, eq-eqb c.args.sent.number (c.args.last.number + 1) next, engaged)

pub returns : goal.returns
unfolding in_turn number_other change_starts refuse_if unless_refused
returns c slots =
    let next : c.args.sent.number ≡ c.args.last.number + 1 = omega arith in
    let idle : is_writer_idle c.args.panel.writer.work ≡ true = sym c.if-not-is_writer_idle.ensures in
    rw (ne_eqb _ _ c.if-sent-last.false, eq-eqb c.args.sent.number (c.args.last.number + 1) next, idle)
