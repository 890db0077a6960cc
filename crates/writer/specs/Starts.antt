-- Document 01, "Steps": starting one of the writer's operations; "starting an operation takes no step".
use Rattle.std.specs.Prelude.{ℕ, Bool, not, List, length}
use Rattle.refusal.specs.Judging.{refuse_if}
use Rattle.record.specs.declared.Record.{Record}
use Rattle.record.specs.declared.Search.TheVariants.{Unread}
use Rattle.record.specs.declared.PutStage.TheVariants.{Searching as PutStage-as-Searching}
use Rattle.record.specs.declared.Alteration.TheVariants.{Given}
use Rattle.record.specs.declared.ChangeStage.TheVariants.{Searching as ChangeStage-as-Searching}
use Rattle.record.specs.declared.RemovalStage.TheVariants.{Searching as RemovalStage-as-Searching}
use Rattle.record.specs.declared.WriterWork.{WriterWork}
use Rattle.record.specs.declared.WriterWork.TheVariants.{Putting, Changing, Removing}
use Rattle.record.specs.Parts.{with_writer}
use Rattle.slot_words.specs.Points.{valid_point}
use Rattle.record_ranges.specs.Ranges.{in_range}
use Rattle.answers.specs.Answers.{Answer, started, paper_start, Outcome, outcome, unless_refused}
use Rattle.record.specs.Idle.{is_writer_idle}
use Rattle.writer.specs.declared.starts.StartedWriter.{StartedWriter}

-- "put, change, remove 1, 2, 4", of a writer with this work, by whether the record is in range
unfoldable pub work_start_refusal : Bool → ℕ → WriterWork → ℕ
work_start_refusal fits point work =
    refuse_if (not fits) 1 (refuse_if (not (valid_point point)) 2 (refuse_if (not (is_writer_idle work)) 4 0))

-- "put, change, remove 1, 2, 4"
unfoldable pub start_refusal : ℕ → Record → ℕ → ℕ
start_refusal lent panel point = work_start_refusal (in_range lent panel) point panel.writer.work

-- the writer is given its work, unless the call is refused
unfoldable pub start_writer : Record → List ℕ → ℕ → WriterWork → Outcome
start_writer panel slots point work =
    unless_refused (start_refusal (length slots) panel point) (outcome panel slots) (outcome (with_writer panel work) slots started)

-- a put that begins
abbrev pub put_begun : ℕ → ℕ → WriterWork
put_begun point value = Putting (record { point = point; value = value; stage = PutStage-as-Searching Unread; steps = 0 })

-- a change that begins
abbrev pub change_begun : ℕ → ℕ → ℕ → WriterWork
change_begun point keep flip =
    Changing (record { point = point; alteration = Given (record { keep = keep; flip = flip }); stage = ChangeStage-as-Searching Unread; steps = 0 })

-- a removal that begins
abbrev pub removal_begun : ℕ → WriterWork
removal_begun point = Removing (record { point = point; stage = RemovalStage-as-Searching Unread; steps = 0 })

-- starting a put
unfoldable pub start_put : Record → List ℕ → ℕ → ℕ → Outcome
start_put panel slots point value = start_writer panel slots point (put_begun point value)

-- starting a change
unfoldable pub start_change : Record → List ℕ → ℕ → ℕ → ℕ → Outcome
start_change panel slots point keep flip = start_writer panel slots point (change_begun point keep flip)

-- starting a removal
unfoldable pub start_removal : Record → List ℕ → ℕ → Outcome
start_removal panel slots point = start_writer panel slots point (removal_begun point)

-- what a start makes of the writer's work, and its answer
pub record StartedWork : Type 0 where
  pub work : WriterWork
  pub answer : Answer

-- the two together
abbrev pub started_work : WriterWork → Answer → StartedWork
started_work work answer = record { work = work; answer = answer }

-- the same in the code's struct
abbrev pub paper_started : StartedWriter → StartedWork
paper_started next = started_work next.writer.work (paper_start next.answer)

-- the start of an operation on this point, by whether the record is in range and by the writer's work so far
unfoldable pub start_work : Bool → WriterWork → ℕ → WriterWork → StartedWork
start_work fits work point new = unless_refused (work_start_refusal fits point work) (started_work work) (started_work new started)
