-- `panel_and_list::kept_list::commanded` meets its contract: a frame that is a command has the fields that the frame reader gives.
use mathlib.Core.Path.{ap, ◌∙◌}
use Rattle.history.specs.Log.{as_change}
use Rattle.panel_and_list.proofs.KeptLaws.{frame_sent, frame_not_refused}
use Rattle.panel_and_list.proofs.kept_list.commanded.Goals as goal

pub returns-in-Ok : goal.returns-in-Ok
unfolding as_change
returns-in-Ok c allowed =
    let bytes = c.args.frame.now in
    c.change_of.ensures
    ∙ ap as_change (frame_sent bytes allowed c.in-Ok.read c.in-Ok.ensures)

pub returns-in-Err : goal.returns-in-Err
returns-in-Err c allowed =
    let bytes = c.args.frame.now in
    absurd (frame_not_refused bytes allowed c.in-Err.field-0 c.in-Err.ensures)
