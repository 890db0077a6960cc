-- `whole_operations::putting::whole_put` meets its contract: refused, or searched and then stepped to the end.
use mathlib.Core.Path.{◌∙◌, sym, ap}
use Rattle.std.proofs.lemmas.Result.{err_from_is_err_and}
use Rattle.refusal.specs.Refusals.{paper_judged}
use Rattle.counting.specs.declared.steps.OperationKind.TheVariants.{Put}
use Rattle.counting.specs.Steps.{step_bound}
use Rattle.writer.specs.Starts.{put_begun, start_put}
use Rattle.whole_operations.specs.Whole.{whole_put, changes_of}
use Rattle.whole_operations.proofs.ChangesMade.{hands_back, leaves_writer}
use Rattle.whole_operations.proofs.WholeWriting.{reach_fits, run_refused}
use Rattle.whole_operations.proofs.WriterSearch.{put_left}
use Rattle.whole_operations.proofs.putting.whole_put.Goals as goal

pub returns-in_err-judge_start : goal.returns-in_err-judge_start
unfolding whole_put start_put changes_of
returns-in_err-judge_start c =
    let a = c.args in
    let e = sym c.judge_start.ensures ∙ ap paper_judged c.in_err-judge_start.was in
    let p = err_from_is_err_and c.from_residual.result c.from_residual.ensures.1 in
    let same = run_refused a.panel a.slots.now a.point _ (step_bound Put a.panel.k) c.in_err-judge_start.field-0.0 e in
    rw (p.1, p.2) (same, ap (changes_of a.panel) same)

pub whole_search-found-requires : goal.whole_search-found-requires
whole_search-found-requires c =
    let a = c.args in
    let e = sym c.judge_start.ensures ∙ ap paper_judged c.in_ok-judge_start.was in
    reach_fits a.panel a.slots.now a.point (put_begun a.point a.value) (step_bound Put a.panel.k) e

pub steps-ran-requires : goal.steps-ran-requires
steps-ran-requires c =
    let a = c.args in
    let e = sym c.judge_start.ensures ∙ ap paper_judged c.in_ok-judge_start.was in
    let on = put_left a.panel a.slots.now a.point e _ c.whole_search-found.ensures _ a.value _ c.put_answered-begun.ensures c.step_bound-budget.ensures in
    (on.left.fits, on.putting, on.left.ends)

pub returns : goal.returns
returns c =
    let a = c.args in
    let e = sym c.judge_start.ensures ∙ ap paper_judged c.in_ok-judge_start.was in
    let on = put_left a.panel a.slots.now a.point e _ c.whole_search-found.ensures _ a.value _ c.put_answered-begun.ensures c.step_bound-budget.ensures in
    let ran = c.steps-ran.result in
    hands_back a.panel ran.changes c.since.result _ ran.completion (whole_put a.panel a.slots.now a.point a.value) c.since.ensures
    (on.left.comes _ _ _ (leaves_writer a.panel ran.changes) c.steps-ran.ensures)
