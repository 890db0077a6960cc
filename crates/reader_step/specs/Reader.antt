-- Document 01, "Steps", and request N2: a reader's step of a lookup or of a walk.
use Rattle.record.specs.declared.Place.{Place}
use Rattle.std.specs.Prelude.{ℕ, ◌+◌, Bool, cond, not, List, ltb, length, Option, Some, None, Result, Ok, Err}
use Rattle.refusal.specs.Judging.{refuse_if}
use Rattle.refusal.specs.declared.Refusal.{Refusal}
use Rattle.answers.specs.declared.StepResult.{StepResult}
use Rattle.record.specs.declared.Reader.{Reader}
use Rattle.record.specs.declared.Record.{Record}
use Rattle.record.specs.declared.Lookup.{Lookup}
use Rattle.record.specs.declared.Walk.{Walk}
use Rattle.record.specs.declared.ReaderWork.{ReaderWork}
use Rattle.record.specs.declared.ReaderWork.TheVariants.{Idle, LookingUp, Walking}
use Rattle.record.specs.Parts.{reader_with, work_of, with_work}
use Rattle.record.specs.Idle.{is_reader_idle}
use Rattle.record_ranges.specs.Ranges.{in_range}
use Rattle.search.specs.declared.access.ReadAccess.{ReadAccess}
use Rattle.search.specs.declared.access.ReadAccess.TheVariants.{Nothing, Slot}
use Rattle.search.specs.declared.Searched.{Searched}
use Rattle.search.specs.declared.Searched.TheVariants.{Going, Answered}
use Rattle.reader_step.specs.declared.Effect.{Effect}
use Rattle.reader_step.specs.declared.ReaderAfter.{ReaderAfter}
use Rattle.counting.specs.Steps.{reader_counted}
use Rattle.answers.specs.Answers.{Ending, looked_up, ended_with, completed, Answer, underway, ended, walked, walked_last, Outcome, outcome, unless_refused, paper_answer, paper_result}
use Rattle.search.specs.Access.{word_read}
use Rattle.search.specs.Search.{search_access, search_advance}

-- part 1: the access that comes next; of a walk "slots 0 to m − 1, one a step"
unfoldable pub reader_access : ℕ → ReaderWork → ReadAccess
reader_access m Idle = Nothing
reader_access m (LookingUp lookup) = search_access m lookup.point lookup.search
reader_access m (Walking walk) = Slot walk.next

-- what a reader's step comes to: its work after it, and the answer
pub record ReaderEffect : Type 0 where
  pub work : ReaderWork
  pub answer : Answer

-- the two together
abbrev pub effect_of : ReaderWork → Answer → ReaderEffect
effect_of work answer = record { work = work; answer = answer }

-- what the code's step comes to, in these words
abbrev pub paper_effect : Effect StepResult → ReaderEffect
paper_effect effect = record { work = effect.work; answer = paper_result effect.result }

-- a reader after what its call has made; a refused one leaves it as it was found
abbrev pub reader_left : {A : Type 0} → Reader → Result (Effect A) Refusal → ReaderAfter A
reader_left found (Ok effect) = record { reader = reader_with effect.work; answer = Ok effect.result }
reader_left found (Err r) = record { reader = found; answer = Err r }

-- a reader's work and the answer, after a call of its own
abbrev pub paper_after : {A : Type 0} → (A → Answer) → ReaderAfter A → ReaderEffect
paper_after paper after = record { work = after.reader.work; answer = paper_answer paper after.answer }

-- the same after a step
abbrev pub paper_stepped : ReaderAfter StepResult → ReaderEffect
paper_stepped = paper_after paper_result

-- a lookup ends "with its value", or "with 7"
unfoldable pub lookup_ending : Option Place → Ending
lookup_ending (Some place) = looked_up place.value
lookup_ending None = ended_with 7

-- a lookup goes on, or ends with the steps counted so far
unfoldable pub lookup_effect : Lookup → Searched → ReaderEffect
lookup_effect lookup (Going search) =
    record { work = LookingUp (record { point = lookup.point; search = search; steps = lookup.steps }); answer = underway }
lookup_effect lookup (Answered answer) = record { work = Idle; answer = ended (completed (lookup_ending answer) lookup.steps) }

-- part 3 of a lookup's step
unfoldable pub lookup_advance : ℕ → Lookup → ℕ → ReaderEffect
lookup_advance reach lookup word = lookup_effect lookup (search_advance reach lookup.point lookup.search word)

-- part 3 of a walk's step: "each walk step gives the word read, and the m-th also ends the walk"
unfoldable pub walk_advance : ℕ → Walk → ℕ → ReaderEffect
walk_advance m walk word =
    cond (ltb (walk.next + 1) m) (record { work = Walking (record { next = walk.next + 1 }); answer = walked word })
    (record { work = Idle; answer = walked_last word })

-- part 3: what follows from the reach or from the word read; a reader without work never comes to it, since 5 is judged before
unfoldable pub reader_advance : ℕ → ℕ → ReaderWork → ℕ → ReaderEffect
reader_advance m reach Idle word = record { work = Idle; answer = underway }
reader_advance m reach (LookingUp lookup) word = lookup_advance reach lookup word
reader_advance m reach (Walking walk) word = walk_advance m walk word

-- "reader's step 1, 3, 5", of a reader with this work, by whether the record is in range
unfoldable pub work_refusal : Bool → ℕ → ReaderWork → ℕ
work_refusal fits reader work = refuse_if (not fits) 1 (refuse_if (ltb 15 reader) 3 (refuse_if (is_reader_idle work) 5 0))

-- the same, of a reader of this record
unfoldable pub step_refusal : ℕ → Record → ℕ → ℕ
step_refusal lent panel reader = work_refusal (in_range lent panel) reader (work_of panel reader)

-- the three parts of the step of a reader whose work counts it
unfoldable pub work_runs : ℕ → ℕ → ReaderWork → List ℕ → ReaderEffect
work_runs m reach work slots = reader_advance m reach work (word_read slots (reader_access m work))

-- a reader's step by what it needs: whether the record is in range, m, k, the reach, the reader's work and the slots; the step is counted, then made
unfoldable pub step_work : Bool → ℕ → ℕ → ℕ → ℕ → ReaderWork → List ℕ → ReaderEffect
step_work fits reader m k reach work slots =
    unless_refused (work_refusal fits reader work) (effect_of work) (work_runs m reach (reader_counted k work) slots)

-- the reader's new work in its place, and the answer
unfoldable pub after_step : Record → List ℕ → ℕ → ReaderEffect → Outcome
after_step panel slots reader effect = outcome (with_work panel reader effect.work) slots effect.answer

-- the step of a reader with this work: "gives the number of steps it took", so it is counted, then made
unfoldable pub reader_runs : Record → List ℕ → ℕ → ReaderWork → Outcome
reader_runs panel slots reader work =
    after_step panel slots reader (work_runs panel.m panel.reach (reader_counted panel.k work) slots)

-- a reader's step, by whether the record is in range
unfoldable pub step_judged : Bool → Record → List ℕ → ℕ → Outcome
step_judged fits panel slots reader =
    unless_refused (work_refusal fits reader (work_of panel reader)) (outcome panel slots) (reader_runs panel slots reader (work_of panel reader))

-- a reader's step
unfoldable pub step_reader : Record → List ℕ → ℕ → Outcome
step_reader panel slots reader =
    unless_refused (step_refusal (length slots) panel reader) (outcome panel slots) (reader_runs panel slots reader (work_of panel reader))
