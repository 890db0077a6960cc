-- `panel_and_list::kept_list::ends_now` meets its contract.
use mathlib.Core.Path.{ap₂, ◌∙◌}
use Rattle.conditions.specs.Conditions.{both}
use Rattle.answers.specs.Answers.{paper_call}
use Rattle.panel_and_list.proofs.KeptLaws.{ends_by_step}
use Rattle.panel_and_list.proofs.kept_list.ends_now.Goals as goal

pub returns : goal.returns
returns c frame =
    let a = c.args in
    c.both_hold.ensures
    ∙ ap₂ both c.is_writer_step.ensures c.has_ended.ensures
    ∙ ends_by_step (paper_call a.answer) frame a.call
