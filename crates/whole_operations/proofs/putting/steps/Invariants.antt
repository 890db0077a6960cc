use mathlib.Core.Bool.{true}
use mathlib.Core.Path.{◌≡◌}
use Rattle.record.specs.Parts.{with_reach, with_writer}
use Rattle.answers.specs.Answers.{underway, outcome}
use Rattle.writer.proofs.WriterLaws.{AtWork}
use Rattle.whole_operations.specs.Whole.{writer_step}
use Rattle.whole_operations.specs.WholeFacts.{is_putting}
use Rattle.whole_operations.proofs.WholeLaws.{OnTheWay}
use Rattle.whole_operations.proofs.putting.steps.Given as goal

abbrev pub invariant-loop : goal.invariant-loop
invariant-loop l = OnTheWay writer_step AtWork (outcome (with_writer l.panel l.fn.begun) l.initial.slots underway) l.budget l.counter (outcome (with_writer (with_reach l.panel l.reach) l.work) l.slots underway)
    × (is_putting l.work ≡ true)
