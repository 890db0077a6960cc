use Rattle.std.proofs.Common.{ap, ◌∙◌}
use Rattle.record.specs.Parts.{with_readers}
use Rattle.reader_step.specs.Reader.{step_work}
use Rattle.reader_step.proofs.StepWork.{step_in_place}
use Rattle.in_place.proofs.Stored.{reader_at, reader_stored}
use Rattle.in_place.proofs.step_reader.Goals as goal

pub returns : goal.returns
unfolding with_readers
returns c =
    let a = c.args in
    let p = a.panel.now in
    let s = a.slots.now in
    ap (reader_stored p s c.reader_place-at.result) c.step_work-next.ensures
    ∙ (λ j. reader_stored p s (c.reader_place-at.ensures j) (step_work (c.fits_at-fits.ensures j) a.reader p.m p.k p.reach (reader_at p (c.reader_place-at.ensures j)).work s))
    ∙ step_in_place p s a.reader
