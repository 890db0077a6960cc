-- `dispatcher::reader_turn` meets its contract: the place is replaced, then the step is made.
use mathlib.Core.Path.{◌∙◌, ap}
use lib.Dec.{ltb}
use Rattle.record.specs.Parts.{with_place}
use Rattle.reader_step.specs.Reader.{step_judged}
use Rattle.dispatcher.specs.Due.{turned_by, reader_turn}
use Rattle.dispatcher.proofs.reader_turn.Goals as goal

pub returns : goal.returns
unfolding reader_turn
returns c =
    let a = c.args in
    let s = a.slots.now in
    let placed = c.with_place-placed.ensures ∙ ap (with_place a.panel) c.place_after.ensures in
    c.turned.ensures s
    ∙ ap (turned_by a.due) (c.step_judged.ensures ∙ (λ j. step_judged (ltb a.due 18) (placed j) s (c.numbered_place-reader.ensures j)))
