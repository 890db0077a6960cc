-- `dispatcher::writer_turn` meets its contract: the place is replaced, then the step is made.
use mathlib.Core.Path.{◌∙◌, ap}
use mathlib.Core.Bool.{true}
use Rattle.record.specs.declared.Record.{Record}
use Rattle.writer.specs.Work.{step_stored}
use Rattle.dispatcher.specs.Due.{turned_by, writer_turn}
use Rattle.dispatcher.proofs.writer_turn.Goals as goal

pub returns : goal.returns
unfolding writer_turn
returns c =
    let a = c.args in
    c.turned.ensures _
    ∙ ap (turned_by 0) (c.step_judged.ensures ∙ ap (λ (p : Record). step_stored true p a.slots.now) c.with_place.ensures)
