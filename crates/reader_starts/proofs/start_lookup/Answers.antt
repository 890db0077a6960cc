-- `reader_starts::start_lookup` meets its contract: the start by the reader's work, put back in its place.
use mathlib.Core.Path.{◌∙◌, ap}
use Rattle.answers.specs.Answers.{outcome, paper_start}
use Rattle.reader_step.specs.Reader.{after_step}
use Rattle.reader_starts.specs.Starts.{lookup_work}
use Rattle.reader_starts.proofs.StartWork.{lookup_by_work}
use Rattle.reader_starts.proofs.start_lookup.Goals as goal

pub returns : goal.returns
unfolding after_step
returns c =
    let a = c.args in
    let p = a.panel in
    let s = a.slots.now in
    let put = c.put_back.ensures in
    let fits = c.is_in_range-fits.ensures in
    let work = c.work_of.ensures in
    (λ j. outcome (put.work j) s (paper_start (put.answer j)))
    ∙ ap (after_step p s a.reader) (c.lookup_started.ensures ∙ (λ j. lookup_work (fits j) a.reader a.point (work j)))
    ∙ lookup_by_work p s a.reader a.point
