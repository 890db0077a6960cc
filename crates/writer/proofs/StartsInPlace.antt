-- What a start hands back, stored in the record, makes of it what the start makes of the record.
use Prim.Native.Nat.{ℕ, zero, suc}
use mathlib.Core.Path.{◌≡◌, refl}
use mathlib.Core.List.{List}
use lib.ListN.{length}
use Rattle.record.specs.declared.Record.{Record}
use Rattle.record.specs.declared.WriterWork.{WriterWork}
use Rattle.record.specs.Parts.{with_writer}
use Rattle.record_ranges.specs.Ranges.{in_range}
use Rattle.answers.specs.Answers.{started, Outcome, outcome, unless_refused}
use Rattle.writer.specs.Starts.{start_refusal, start_writer, put_begun, change_begun, removal_begun, start_put, start_change, start_removal, StartedWork, started_work, start_work}

-- the record with what a start hands back stored in it, the slots and the answer
abbrev pub started_in : Record → List ℕ → StartedWork → Outcome
started_in panel slots next = outcome (with_writer panel next.work) slots next.answer

module _ (panel : Record) (slots : List ℕ) (point : ℕ) where
  pub start_in_place : (new : WriterWork) → started_in panel slots (start_work (in_range (length slots) panel) panel.writer.work point new) ≡ start_writer panel slots point new
  unfolding start_work start_writer start_refusal unless_refused with_writer
  start_in_place new = stands (start_refusal (length slots) panel point)
    where
      stands : (n : ℕ) → started_in panel slots (unless_refused n (started_work panel.writer.work) (started_work new started)) ≡ unless_refused n (outcome panel slots) (outcome (with_writer panel new) slots started)
      stands zero = refl
      stands (suc n) = refl

  pub put_in_place : (value : ℕ) → started_in panel slots (start_work (in_range (length slots) panel) panel.writer.work point (put_begun point value)) ≡ start_put panel slots point value
  unfolding start_put
  put_in_place value = start_in_place (put_begun point value)

  pub change_in_place : (keep flip : ℕ) → started_in panel slots (start_work (in_range (length slots) panel) panel.writer.work point (change_begun point keep flip)) ≡ start_change panel slots point keep flip
  unfolding start_change
  change_in_place keep flip = start_in_place (change_begun point keep flip)

  pub removal_in_place : started_in panel slots (start_work (in_range (length slots) panel) panel.writer.work point (removal_begun point)) ≡ start_removal panel slots point
  unfolding start_removal
  removal_in_place = start_in_place (removal_begun point)
