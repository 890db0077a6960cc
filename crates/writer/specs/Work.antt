-- The writer's step by what it needs of the record, and what it makes of that: the writer's work, the reach, one count and one station's last command.
use Rattle.std.specs.Prelude.{ℕ, Bool, List, get_or, set}
use Rattle.record.specs.declared.Record.{Record}
use Rattle.record.specs.declared.Station.{Station}
use Rattle.record.specs.declared.WriterWork.{WriterWork}
use Rattle.record.specs.declared.WriterWork.TheVariants.{Idle, Putting, Changing, Removing}
use Rattle.record.specs.Parts.{unheard_station, with_reach, with_counts, with_writer, with_stations, numbered_place}
use Rattle.counting.specs.Steps.{writer_counted, steps_made}
use Rattle.answers.specs.Answers.{Answer, step_answer, paper_step, Outcome, outcome, unless_refused}
use Rattle.effects.specs.declared.update.Update.{Update}
use Rattle.effects.specs.declared.update.Update.TheVariants.{Nothing}
use Rattle.effects.specs.Memory.{slot_stored, access_read, slots_after}
use Rattle.effects.specs.Effects.{WriterEffect, reach_after, count_place, count_after, station_after}
use Rattle.change.specs.Change.{commanding_station}
use Rattle.writer.specs.declared.work.WorkStep.{WorkStep}
use Rattle.writer.specs.declared.work.SteppedWriter.{SteppedWriter}
use Rattle.writer.specs.Step.{work_access, work_advance, work_refusal}

-- what a step comes to: the work after it, what changes in the record besides, the slots and the answer
pub record WorkOutcome : Type 0 where
  pub work : WriterWork
  pub update : Update
  pub slots : List ℕ
  pub answer : Answer

-- the same in the code's struct and the slots
abbrev pub paper_work : WorkStep → List ℕ → WorkOutcome
paper_work step slots = record { work = step.work; update = step.update; slots = slots; answer = paper_step step.answer }

-- what is left by a step that is refused
abbrev pub work_left : WriterWork → List ℕ → Answer → WorkOutcome
work_left work slots answer = record { work = work; update = Nothing; slots = slots; answer = answer }

-- a step with these slots after its access, this count and this effect
unfoldable pub after_access : List ℕ → ℕ → WriterEffect → WorkOutcome
after_access slots steps effect =
    record { work = effect.work; update = effect.update; slots = slots; answer = step_answer steps effect.progress }

-- the three parts of a step of work that counts it
unfoldable pub work_runs : ℕ → ℕ → ℕ → List ℕ → WriterWork → List ℕ → WorkOutcome
work_runs m k reach counts work slots =
    after_access (slots_after slots (work_access m k reach counts work)) (steps_made work)
    (work_advance k reach counts work (slot_stored (work_access m k reach counts work)) (access_read slots (work_access m k reach counts work)))

-- the step of a writer with this work, by whether the record is in range; the step is counted, then made
unfoldable pub step_work : Bool → ℕ → ℕ → ℕ → List ℕ → WriterWork → List ℕ → WorkOutcome
step_work fits m k reach counts work slots =
    unless_refused (work_refusal fits work) (work_left work slots) (work_runs m k reach counts (writer_counted k work) slots)

-- the station whose command's change is underway; 0 where none is
abbrev pub station_underway : WriterWork → ℕ
station_underway Idle = 0
station_underway (Putting put) = 0
station_underway (Changing change) = commanding_station change.alteration
station_underway (Removing removal) = 0

-- its place among the stations
unfoldable pub station_at : WriterWork → ℕ
station_at work = numbered_place 32 (station_underway work)

-- what a step stores in the record, with the slots and the answer: the work, the reach, the count at a place and a station's last command
pub record StepStores : Type 0 where
  pub work : WriterWork
  pub reach : ℕ
  pub at : ℕ
  pub count : ℕ
  pub station : Station
  pub slots : List ℕ
  pub answer : Answer

-- the same in the code's struct and the slots
abbrev pub paper_stores : SteppedWriter → List ℕ → StepStores
paper_stores next slots =
    record {
      work = next.writer.work;
      reach = next.reach;
      at = next.at;
      count = next.count;
      station = next.station;
      slots = slots;
      answer = paper_step next.answer;
    }

-- by what the step comes to; what no update changes is stored again as it was
unfoldable pub stores : ℕ → ℕ → List ℕ → Station → WorkOutcome → StepStores
stores m reach counts station after =
    record {
      work = after.work;
      reach = reach_after reach after.update;
      at = count_place after.update;
      count = count_after m after.update (get_or counts (count_place after.update) 0);
      station = station_after after.update station;
      slots = after.slots;
      answer = after.answer;
    }

-- what the writer's step stores in a record, by whether the record is in range
abbrev pub step_stores : Bool → Record → List ℕ → StepStores
step_stores fits panel slots =
    stores panel.m panel.reach panel.counts (get_or panel.stations (station_at panel.writer.work) unheard_station)
    (step_work fits panel.m panel.k panel.reach panel.counts panel.writer.work slots)

-- a record with these stored, the station's last command at this place; the slots and the answer
abbrev pub stored_in : Record → ℕ → StepStores → Outcome
stored_in panel place next =
    outcome
    (with_writer
    (with_stations (with_counts (with_reach panel next.reach) (set panel.counts next.at next.count)) (set panel.stations place next.station))
    next.work)
    next.slots next.answer

-- the writer's step on a record that has been judged: of one in range it is the writer's step
unfoldable pub step_stored : Bool → Record → List ℕ → Outcome
step_stored fits panel slots = stored_in panel (station_at panel.writer.work) (step_stores fits panel slots)
