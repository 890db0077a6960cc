-- `reader_step::step_judged` meets its contract: the step of the reader's work, put back in its place.
use mathlib.Core.Path.{◌∙◌, ap}
use Rattle.answers.specs.Answers.{outcome, paper_step}
use Rattle.reader_step.specs.Reader.{after_step, step_work}
use Rattle.reader_step.proofs.StepWork.{step_by_work}
use Rattle.reader_step.proofs.step_judged.Goals as goal

pub returns : goal.returns
unfolding after_step
returns c =
    let a = c.args in
    let p = a.panel in
    let s = a.slots.now in
    let put = c.put_back.ensures in
    let work = c.work_of.ensures in
    (λ j. outcome (put.work j) s (paper_step (put.answer j)))
    ∙ ap (after_step p s a.reader) (c.step_work.ensures ∙ (λ j. step_work a.fits a.reader p.m p.k p.reach (work j) s))
    ∙ step_by_work p s a.reader a.fits
