-- `command::receive_command` meets its contract: an empty string, another map byte, or what the frame reader says.
use Rattle.std.proofs.lemmas.Result.{err_from_is_err_and}
use Rattle.command.proofs.FrameTaken.{nothing_taken, other_map_taken, command_taken, refusal_taken}
use Rattle.command.proofs.receive_command.Goals as goal

pub returns-in_default : goal.returns-in_default
returns-in_default c = nothing_taken c.args.bytes.now c.in_default.ensures.value

pub returns-then-map-ne15 : goal.returns-then-map-ne15
returns-then-map-ne15 c = other_map_taken c.args.bytes.now c.in-Some.field-0.now c.in-Some.ensures.value c.if-map-ne15.true

pub returns-in_err-read : goal.returns-in_err-read
returns-in_err-read c =
    let p = err_from_is_err_and c.from_residual.result c.from_residual.ensures.1 in
    let first = rw c.if-map-ne15.false at c.in-Some.ensures.value in
    rw (p.1, p.2) (refusal_taken c.args.bytes.now first c.in_err-read.field-0.0 c.in_err-read.ensures)

pub returns : goal.returns
returns c =
    let first = rw c.if-map-ne15.false at c.in-Some.ensures.value in
    rw c.from.ensures (command_taken c.args.bytes.now first c.in_ok-read.field-0 c.in_ok-read.ensures)
