use Rattle.record.specs.Parts.{with_writer}
use Rattle.answers.specs.Answers.{underway, outcome}
use Rattle.writer.proofs.WriterLaws.{AtWork}
use Rattle.whole_operations.specs.Whole.{writer_step}
use Rattle.whole_operations.specs.WholeFacts.{removing_from}
use Rattle.whole_operations.proofs.WholeLaws.{OnTheWay}
use Rattle.whole_operations.proofs.Removals.{Removes}
use Rattle.whole_operations.proofs.removing.steps.Given as goal

abbrev pub invariant-loop : goal.invariant-loop
invariant-loop l = OnTheWay writer_step AtWork (outcome (with_writer l.fn.panel (removing_from l.point l.place l.before)) l.initial.slots underway) l.budget l.counter (outcome (with_writer l.held l.work) l.slots underway)
    × Removes l.fn.panel l.place.index l.held l.work
