-- Document 01, "Steps", and request N2: the writer's step.
use Rattle.std.specs.Prelude.{ℕ, Bool, not, List, length}
use Rattle.refusal.specs.Judging.{refuse_if}
use Rattle.record.specs.declared.Record.{Record}
use Rattle.record.specs.declared.WriterWork.{WriterWork}
use Rattle.record.specs.declared.WriterWork.TheVariants.{Idle, Putting, Changing, Removing}
use Rattle.record.specs.Parts.{with_writer}
use Rattle.record_ranges.specs.Ranges.{in_range}
use Rattle.search.specs.declared.access.ReadAccess.TheVariants.{Nothing as ReadAccess-as-Nothing}
use Rattle.counting.specs.Steps.{writer_counted, steps_made}
use Rattle.answers.specs.Answers.{step_answer, Outcome, outcome, unless_refused}
use Rattle.effects.specs.declared.memory.WriterAccess.{WriterAccess}
use Rattle.effects.specs.declared.memory.WriterAccess.TheVariants.{Read}
use Rattle.effects.specs.Memory.{slot_stored, access_read, slots_after}
use Rattle.effects.specs.Effects.{WriterEffect, going_on, updated}
use Rattle.record.specs.Idle.{is_writer_idle}
use Rattle.put.specs.Put.{put_access, put_advance}
use Rattle.change.specs.Change.{change_access, change_advance}
use Rattle.removal.specs.Removal.{removal_access, removal_advance}

-- part 1, of a record with these numbers: the access that comes next
unfoldable pub work_access : ℕ → ℕ → ℕ → List ℕ → WriterWork → WriterAccess
work_access m k reach counts Idle = Read ReadAccess-as-Nothing
work_access m k reach counts (Putting put) = put_access m reach put
work_access m k reach counts (Changing change) = change_access m change
work_access m k reach counts (Removing removal) = removal_access m k counts removal

-- part 1: the access that comes next
abbrev pub writer_access : Record → WriterWork → WriterAccess
writer_access panel work = work_access panel.m panel.k panel.reach panel.counts work

-- part 3, of a record with these numbers: what follows from the reach, from the word read, or from the slot stored; a writer without work never comes to it, since 5 is judged before
unfoldable pub work_advance : ℕ → ℕ → List ℕ → WriterWork → ℕ → ℕ → WriterEffect
work_advance k reach counts Idle slot word = going_on Idle
work_advance k reach counts (Putting put) slot word = put_advance k reach slot put word
work_advance k reach counts (Changing change) slot word = change_advance reach change word
work_advance k reach counts (Removing removal) slot word = removal_advance k reach counts removal word

-- part 3: what follows from the access
abbrev pub writer_advance : Record → WriterWork → ℕ → ℕ → WriterEffect
writer_advance panel work slot word = work_advance panel.k panel.reach panel.counts work slot word

-- "writer's step 1, 5", of a writer with this work, by whether the record is in range
unfoldable pub work_refusal : Bool → WriterWork → ℕ
work_refusal fits work = refuse_if (not fits) 1 (refuse_if (is_writer_idle work) 5 0)

-- "writer's step 1, 5"
unfoldable pub step_refusal : ℕ → Record → ℕ
step_refusal lent panel = work_refusal (in_range lent panel) panel.writer.work

-- the record with its update and the writer's new work, and the answer, which has the steps made if the operation has ended
unfoldable pub after_step : Record → List ℕ → ℕ → WriterEffect → Outcome
after_step panel slots steps effect =
    outcome (with_writer (updated panel effect.update) effect.work) slots (step_answer steps effect.progress)

-- the three parts of the step of a writer whose work counts it
unfoldable pub writer_runs : Record → List ℕ → WriterWork → Outcome
writer_runs panel slots work =
    after_step panel (slots_after slots (writer_access panel work)) (steps_made work)
    (writer_advance panel work (slot_stored (writer_access panel work)) (access_read slots (writer_access panel work)))

-- the writer's step: "gives the number of steps it took", so it is counted, then made
unfoldable pub step_writer : Record → List ℕ → Outcome
step_writer panel slots =
    unless_refused (step_refusal (length slots) panel) (outcome panel slots) (writer_runs panel slots (writer_counted panel.k panel.writer.work))
