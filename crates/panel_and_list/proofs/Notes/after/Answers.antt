-- `panel_and_list::Notes::after` meets its contract, call by call.
use mathlib.Core.Path.{refl, sym, subst}
use Rattle.answers.specs.Answers.{paper_call}
use Rattle.calls.specs.declared.Call.{Call}
use Rattle.history.specs.Log.{role_of}
use Rattle.panel_and_list.specs.Kept.{NotesAfter}
use Rattle.panel_and_list.proofs.KeptLaws.{begun_noted, stepped_noted}
use Rattle.panel_and_list.proofs.Notes.after.Goals as goal

pub returns-in-StartPut : goal.returns-in-StartPut
unfolding role_of
returns-in-StartPut c framed =
    let a = c.args in
    subst (λ (x : Call). NotesAfter a.self a.feeds (paper_call a.answer) (role_of x a.frame.now (paper_call a.answer)) c.begun.result) (sym c.in-StartPut.is)
    (begun_noted a.self a.feeds (paper_call a.answer) _ _ _ c.begun.ensures (λ s. refl))

pub returns-in-StartChange : goal.returns-in-StartChange
unfolding role_of
returns-in-StartChange c framed =
    let a = c.args in
    subst (λ (x : Call). NotesAfter a.self a.feeds (paper_call a.answer) (role_of x a.frame.now (paper_call a.answer)) c.begun-in-StartChange.result) (sym c.in-StartChange.is)
    (begun_noted a.self a.feeds (paper_call a.answer) _ _ _ c.begun-in-StartChange.ensures (λ s. refl))

pub returns-in-StartRemoval : goal.returns-in-StartRemoval
unfolding role_of
returns-in-StartRemoval c framed =
    let a = c.args in
    subst (λ (x : Call). NotesAfter a.self a.feeds (paper_call a.answer) (role_of x a.frame.now (paper_call a.answer)) c.begun-in-StartRemoval.result) (sym c.in-StartRemoval.is)
    (begun_noted a.self a.feeds (paper_call a.answer) _ _ _ c.begun-in-StartRemoval.ensures (λ s. refl))

pub returns-in-StartCommand : goal.returns-in-StartCommand
unfolding role_of
returns-in-StartCommand c framed =
    let a = c.args in
    subst (λ (x : Call). NotesAfter a.self a.feeds (paper_call a.answer) (role_of x a.frame.now (paper_call a.answer)) c.begun-in-StartCommand.result) (sym c.in-StartCommand.is)
    (begun_noted a.self a.feeds (paper_call a.answer) _ _ _ c.begun-in-StartCommand.ensures (λ s. c.commanded.ensures (framed c.in-StartCommand.is s)))

pub returns-in-StepWriter : goal.returns-in-StepWriter
unfolding role_of
returns-in-StepWriter c framed =
    let a = c.args in
    subst (λ (x : Call). NotesAfter a.self a.feeds (paper_call a.answer) (role_of x a.frame.now (paper_call a.answer)) c.stepped.result) (sym c.in-StepWriter.is)
    (stepped_noted a.self a.feeds (paper_call a.answer) _ c.stepped.ensures)
