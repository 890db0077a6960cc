-- `panel_and_list::kept_list::stores_now` meets its contract.
use mathlib.Core.Bool.{not}
use mathlib.Core.Path.{ap, ap₂, ◌∙◌}
use Rattle.conditions.specs.Conditions.{both}
use Rattle.answers.specs.Answers.{paper_call}
use Rattle.effects.specs.Memory.{stores_slot}
use Rattle.panel_and_list.proofs.KeptLaws.{stores_by_step}
use Rattle.panel_and_list.proofs.kept_list.stores_now.Goals as goal

pub returns : goal.returns
returns c frame =
    let a = c.args in
    c.both_hold.ensures
    ∙ ap₂ both c.is_writer_step.ensures
    (c.both_hold-stores.ensures
    ∙ ap₂ both (ap not c.is_refused.ensures)
    (c.stores_slot.ensures ∙ ap stores_slot c.writer_access-access.ensures))
    ∙ stores_by_step a.panel.now (paper_call a.answer) frame a.call
