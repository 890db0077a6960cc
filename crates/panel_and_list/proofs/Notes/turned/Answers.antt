-- `panel_and_list::Notes::turned` meets its contract: the notes after the writer's step, or as they were.
use mathlib.Core.Path.{sym, subst, ◌∙◌}
use Rattle.answers.specs.Answers.{paper_call}
use Rattle.history.specs.Log.{Role, served_by}
use Rattle.panel_and_list.specs.Kept.{NotesAfter}
use Rattle.panel_and_list.proofs.KeptLaws.{stepped_noted, passed_noted, served_writer}
use Rattle.panel_and_list.proofs.Notes.turned.Goals as goal

pub returns-then-serves_writer : goal.returns-then-serves_writer
returns-then-serves_writer c =
    let a = c.args in
    subst (λ (role : Role). NotesAfter a.self a.feeds (paper_call a.answer) role c.stepped.result) (sym (served_writer (served_by (paper_call a.answer)) (sym c.serves_writer.ensures ∙ c.if-serves_writer.true)))
    (stepped_noted a.self a.feeds (paper_call a.answer) _ c.stepped.ensures)

pub returns-else-serves_writer : goal.returns-else-serves_writer
returns-else-serves_writer c =
    let a = c.args in
    passed_noted a.self a.feeds (paper_call a.answer) (served_by (paper_call a.answer)) (sym c.serves_writer.ensures ∙ c.if-serves_writer.false)
