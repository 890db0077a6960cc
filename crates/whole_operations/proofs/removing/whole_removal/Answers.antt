-- `whole_operations::removing::whole_removal` meets its contract: refused, or searched and then stepped to the end.
use mathlib.Core.Path.{◌∙◌, sym, ap}
use Rattle.std.proofs.lemmas.Result.{err_from_is_err_and}
use Rattle.refusal.specs.Refusals.{paper_judged}
use Rattle.answers.specs.declared.Ending.TheVariants.{Unknown}
use Rattle.counting.specs.declared.steps.OperationKind.TheVariants.{Removal}
use Rattle.counting.specs.Steps.{step_bound}
use Rattle.writer.specs.Starts.{removal_begun, start_removal}
use Rattle.whole_operations.specs.Whole.{whole_removal, changes_of}
use Rattle.whole_operations.proofs.ChangesMade.{hands_back, hands_back_plain, leaves_writer}
use Rattle.whole_operations.proofs.WholeWriting.{reach_fits, run_refused}
use Rattle.whole_operations.proofs.WriterSearch.{removal_left, removal_unknown}
use Rattle.whole_operations.proofs.removing.whole_removal.Goals as goal

pub returns-in_err-judge_start : goal.returns-in_err-judge_start
unfolding whole_removal start_removal changes_of
returns-in_err-judge_start c =
    let a = c.args in
    let e = sym c.judge_start.ensures ∙ ap paper_judged c.in_err-judge_start.was in
    let p = err_from_is_err_and c.from_residual.result c.from_residual.ensures.1 in
    let same = run_refused a.panel a.slots.now a.point _ (step_bound Removal a.panel.k) c.in_err-judge_start.field-0.0 e in
    rw (p.1, p.2) (same, ap (changes_of a.panel) same)

pub whole_search-found-requires : goal.whole_search-found-requires
whole_search-found-requires c =
    let a = c.args in
    let e = sym c.judge_start.ensures ∙ ap paper_judged c.in_ok-judge_start.was in
    reach_fits a.panel a.slots.now a.point (removal_begun a.point) (step_bound Removal a.panel.k) e

pub returns-in_default : goal.returns-in_default
returns-in_default c =
    let a = c.args in
    let e = sym c.judge_start.ensures ∙ ap paper_judged c.in_ok-judge_start.was in
    hands_back_plain a.panel a.slots.now (record { ending = Unknown; steps = c.whole_search-found.result.steps }) (whole_removal a.panel a.slots.now a.point) (removal_unknown a.panel a.slots.now a.point e _ c.whole_search-found.ensures 0 c.in_default.is)

pub steps-ran-requires : goal.steps-ran-requires
steps-ran-requires c =
    let a = c.args in
    let e = sym c.judge_start.ensures ∙ ap paper_judged c.in_ok-judge_start.was in
    let left = removal_left a.panel a.slots.now a.point e _ c.whole_search-found.ensures _ c.in-Some.place c.in-Some.is c.step_bound-budget.ensures in
    (left.fits, left.ends)

pub returns : goal.returns
returns c =
    let a = c.args in
    let e = sym c.judge_start.ensures ∙ ap paper_judged c.in_ok-judge_start.was in
    let left = removal_left a.panel a.slots.now a.point e _ c.whole_search-found.ensures _ c.in-Some.place c.in-Some.is c.step_bound-budget.ensures in
    let ran = c.steps-ran.result in
    hands_back a.panel ran.changes c.since.result _ ran.completion (whole_removal a.panel a.slots.now a.point) c.since.ensures
    (left.comes _ _ _ (leaves_writer a.panel ran.changes) c.steps-ran.ensures)
