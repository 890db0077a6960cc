-- `command::take_command` meets its contract: refusal 1, a refused frame, or what the command comes to beside its station's last.
use mathlib.Core.Path.{sym, ap, ◌∙◌}
use Rattle.std.proofs.lemmas.Result.{err_from_is_err_and}
use Rattle.refusal.specs.Judging.{refuse_if}
use Rattle.answers.specs.Answers.{outcome, unless_refused}
use Rattle.answers.proofs.AnswerLaws.{refused_call}
use Rattle.command.specs.Command.{entry_refusal, in_turn, start_command}
use Rattle.command.specs.CommandFrames.{answer_received}
use Rattle.command.proofs.FrameTaken.{received_answered}
use Rattle.command.proofs.take_command.Goals as goal

pub returns-then-not-is_in_range : goal.returns-then-not-is_in_range
unfolding start_command entry_refusal refuse_if unless_refused
returns-then-not-is_in_range c = rw (sym c.if-not-is_in_range.ensures)

pub returns-in_err-sent : goal.returns-in_err-sent
unfolding answer_received
returns-in_err-sent c =
    let panel = c.args.panel in
    let s = c.args.slots.now in
    let p = err_from_is_err_and c.from_residual.result c.from_residual.ensures.1 in
    rw (p.1, p.2)
    (sym (refused_call (outcome panel s) _ c.in_err-sent.field-0.0)
    ∙ ap (answer_received panel s) c.in_err-sent.ensures
    ∙ received_answered panel s c.args.bytes.now (sym c.if-not-is_in_range.ensures))

pub returns : goal.returns
unfolding answer_received unless_refused
returns c =
    let panel = c.args.panel in
    let s = c.args.slots.now in
    c.judge_turn.ensures s
    ∙ ap (in_turn panel s c.in_ok-sent.sent) c.station_of.ensures
    ∙ ap (answer_received panel s) c.in_ok-sent.ensures
    ∙ received_answered panel s c.args.bytes.now (sym c.if-not-is_in_range.ensures)
