-- Document 01, "Steps": starting a reader's lookup or walk; "starting an operation takes no step".
use Rattle.std.specs.Prelude.{ℕ, Bool, not, List, ltb, length, Option, Some, None, ⊤}
use Rattle.refusal.specs.Judging.{refuse_if}
use Rattle.record.specs.declared.Record.{Record}
use Rattle.record.specs.declared.ReaderWork.{ReaderWork}
use Rattle.record.specs.declared.ReaderWork.TheVariants.{LookingUp, Walking}
use Rattle.record.specs.declared.Search.TheVariants.{Unread}
use Rattle.record.specs.Parts.{work_of, with_work}
use Rattle.record_ranges.specs.Ranges.{in_range}
use Rattle.slot_words.specs.Points.{valid_point}
use Rattle.answers.specs.Answers.{started, Outcome, outcome, unless_refused}
use Rattle.record.specs.Idle.{is_reader_idle}
use Rattle.reader_step.specs.Reader.{ReaderEffect, effect_of, paper_after}
use Rattle.reader_step.specs.declared.ReaderAfter.{ReaderAfter}

-- "starting a lookup 1, 3, 2, 4", of a reader with this work, by whether the record is in range
unfoldable pub lookup_work_refusal : Bool → ℕ → ℕ → ReaderWork → ℕ
lookup_work_refusal fits reader point work =
    refuse_if (not fits) 1
    (refuse_if (ltb 15 reader) 3 (refuse_if (not (valid_point point)) 2 (refuse_if (not (is_reader_idle work)) 4 0)))

-- the same, of a reader of this record
unfoldable pub lookup_refusal : ℕ → Record → ℕ → ℕ → ℕ
lookup_refusal lent panel reader point = lookup_work_refusal (in_range lent panel) reader point (work_of panel reader)

-- "starting a walk 1, 3, 4", likewise
unfoldable pub walk_work_refusal : Bool → ℕ → ReaderWork → ℕ
walk_work_refusal fits reader work = refuse_if (not fits) 1 (refuse_if (ltb 15 reader) 3 (refuse_if (not (is_reader_idle work)) 4 0))

-- the same, of a reader of this record
unfoldable pub walk_refusal : ℕ → Record → ℕ → ℕ
walk_refusal lent panel reader = walk_work_refusal (in_range lent panel) reader (work_of panel reader)

-- a start by the point that it names: a lookup, or a walk, which names none
abbrev pub start_refusal : Bool → ℕ → Option ℕ → ReaderWork → ℕ
start_refusal fits reader (Some point) work = lookup_work_refusal fits reader point work
start_refusal fits reader None work = walk_work_refusal fits reader work

-- a lookup of a point that has read nothing yet
abbrev pub new_lookup : ℕ → ReaderWork
new_lookup point = LookingUp (record { point = point; search = Unread; steps = 0 })

-- a walk that has read nothing yet
abbrev pub new_walk : ReaderWork
new_walk = Walking (record { next = 0 })

-- the reader is given its work, unless the call is refused with that number
unfoldable pub start_reader : ℕ → Record → List ℕ → ℕ → ReaderWork → Outcome
start_reader n panel slots reader work = unless_refused n (outcome panel slots) (outcome (with_work panel reader work) slots started)

-- starting a lookup
unfoldable pub start_lookup : Record → List ℕ → ℕ → ℕ → Outcome
start_lookup panel slots reader point =
    start_reader (lookup_refusal (length slots) panel reader point) panel slots reader (new_lookup point)

-- starting a walk
unfoldable pub start_walk : Record → List ℕ → ℕ → Outcome
start_walk panel slots reader = start_reader (walk_refusal (length slots) panel reader) panel slots reader new_walk

-- a reader's work and the answer, after a start
abbrev pub paper_started : ReaderAfter ⊤ → ReaderEffect
paper_started = paper_after (λ (_ : ⊤). started)

-- a reader with this work is given new work, unless the call is refused with that number
unfoldable pub given_work : ℕ → ReaderWork → ReaderWork → ReaderEffect
given_work n work new = unless_refused n (effect_of work) (effect_of new started)

-- starting a lookup by what it needs: whether the record is in range, and the reader's work
unfoldable pub lookup_work : Bool → ℕ → ℕ → ReaderWork → ReaderEffect
lookup_work fits reader point work = given_work (lookup_work_refusal fits reader point work) work (new_lookup point)

-- starting a walk, likewise
unfoldable pub walk_work : Bool → ℕ → ReaderWork → ReaderEffect
walk_work fits reader work = given_work (walk_work_refusal fits reader work) work new_walk
