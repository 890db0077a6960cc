-- Whole operations: started, and stepped to their end.
use Rattle.std.specs.Prelude.{ℕ, zero, suc, Bool, cond, not, List, eqb, Option, Some, None, is_some, Result, Ok, Err}
use Rattle.conditions.specs.Conditions.{either}
use Rattle.refusal.specs.declared.Refusal.{Refusal}
use Rattle.record.specs.declared.Record.{Record}
use Rattle.record.specs.Parts.{with_reach, count_of, with_count}
use Rattle.counting.specs.declared.steps.OperationKind.TheVariants.{Lookup, Put, Removal}
use Rattle.counting.specs.Steps.{step_bound}
use Rattle.answers.specs.Answers.{Answer, ended, paper_answer, paper_completion, is_underway, is_refused, Outcome}
use Rattle.reader_step.specs.Reader.{step_reader}
use Rattle.reader_starts.specs.Starts.{start_lookup}
use Rattle.writer.specs.Step.{step_writer}
use Rattle.writer.specs.Starts.{start_put, start_removal}
use Rattle.whole_operations.specs.declared.changes.IndexCount.{IndexCount}
use Rattle.whole_operations.specs.declared.changes.Changes.{Changes}
use Rattle.whole_operations.specs.declared.changes.Finished.{Finished}

-- as many steps as the operation takes, at most n
unfoldable pub until_ended : (Outcome → Outcome) → ℕ → Outcome → Outcome
until_ended step zero now = now
until_ended step (suc n) now = cond (is_underway now.answer) (until_ended step n (step now)) now

-- a reader's step, from what the call before it left
unfoldable pub reader_step : ℕ → Outcome → Outcome
reader_step reader now = step_reader now.panel now.slots reader

-- the writer's step, from what the call before it left
unfoldable pub writer_step : Outcome → Outcome
writer_step now = step_writer now.panel now.slots

-- "Lookup: read the reach r; then positions 1 to r"
unfoldable pub whole_lookup : Record → List ℕ → ℕ → ℕ → Outcome
whole_lookup panel slots reader point = until_ended (reader_step reader) (step_bound Lookup panel.k) (start_lookup panel slots reader point)

-- a put, within its bound
unfoldable pub whole_put : Record → List ℕ → ℕ → ℕ → Outcome
whole_put panel slots point value = until_ended writer_step (step_bound Put panel.k) (start_put panel slots point value)

-- a removal, within its bound
unfoldable pub whole_removal : Record → List ℕ → ℕ → Outcome
whole_removal panel slots point = until_ended writer_step (step_bound Removal panel.k) (start_removal panel slots point)

-- the largest index of 1 to n whose count is another in the second record, with that count, if there is one
unfoldable pub recounted_up_to : Record → Record → ℕ → Option IndexCount
recounted_up_to before after zero = None
recounted_up_to before after (suc i) =
    cond (eqb (count_of before (suc i)) (count_of after (suc i))) (recounted_up_to before after i)
    (Some (record { index = suc i; count = count_of after (suc i) }))

-- the index whose count is another than before, with its count after, if there is one
unfoldable pub recounted : Record → Record → Option IndexCount
recounted before after = recounted_up_to before after 64

-- what is another than before in a record: the reach after, and the count that is another
unfoldable pub changes_between : Record → Record → Changes
changes_between before after = record { reach = after.reach; count = recounted before after }

-- "With a refusal every other number handed back is 0"
abbrev pub zeros : Changes
zeros = record { reach = 0; count = None }

-- the numbers that a put or removal hands back besides its answer
unfoldable pub changes_of : Record → Outcome → Changes
changes_of before after = cond (is_refused after.answer) zeros (changes_between before after.panel)

-- the same in the code's result
abbrev pub changes_in : Result Finished Refusal → Changes
changes_in (Err r) = zeros
changes_in (Ok finished) = finished.changes

-- and the answer
abbrev pub paper_written : Result Finished Refusal → Answer
paper_written = paper_answer (λ (finished : Finished). ended (paper_completion finished.completion))

-- a record with this count of an index, or as it is where there is none
unfoldable pub with_recount : Record → Option IndexCount → Record
with_recount panel None = panel
with_recount panel (Some recount) = with_count panel recount.index recount.count

-- a record with these changes made: the reach, and the count of one index, or of none
unfoldable pub leaves : Record → Changes → Record
leaves panel changes = with_recount (with_reach panel changes.reach) changes.count

-- the record after a put or removal: a refused one leaves it as it is
abbrev pub record_after : Record → Result Finished Refusal → Record
record_after panel (Err r) = panel
record_after panel (Ok finished) = leaves panel finished.changes

-- they change something in a record of this reach
unfoldable pub changes_any : ℕ → Changes → Bool
changes_any reach changes = either (is_some changes.count) (not (eqb changes.reach reach))
