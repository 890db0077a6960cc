use Rattle.std.proofs.Common.{ltb, set, ap, ◌∙◌}
use Rattle.record.specs.Parts.{work_of, with_readers, with_work, with_place}
use Rattle.answers.specs.Answers.{outcome}
use Rattle.reader_step.specs.Reader.{after_step, step_judged}
use Rattle.reader_step.proofs.StepWork.{step_by_work}
use Rattle.circle.specs.Marks.{place_after}
use Rattle.dispatcher.specs.Due.{turned_by, reader_turn}
use Rattle.in_place.proofs.readers_turn.Goals as goal

pub returns : goal.returns
unfolding reader_turn after_step work_of with_work with_readers with_place
returns c =
    let a = c.args in
    let p = a.panel.now in
    let s = a.slots.now in
    let at = c.numbered_place-at in
    let next = c.step_work-next in
    let placed = with_place p (place_after p.place a.due) in
    let stored = with_readers p (set p.readers at.result next.result.reader) in
    (λ j. outcome (with_place stored (c.place_after-panel.ensures j)) s (c.turn_answer.ensures j))
    ∙ ap (turned_by a.due)
    (ap (after_step placed s at.result) next.ensures
    ∙ step_by_work placed s at.result (ltb a.due 18)
    ∙ ap (step_judged (ltb a.due 18) placed s) at.ensures)
