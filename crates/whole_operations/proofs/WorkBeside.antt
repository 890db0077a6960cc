-- The parts of the writer's step look at the work that they are given, not at the work in the record: so a loop may keep the work beside the
-- record, and the step of the record with that work put back comes to the same.
use Prim.Native.Nat.{ℕ}
use mathlib.Core.Path.{◌≡◌, refl, ap, ◌∙◌, sym}
use mathlib.Core.Bool.{true}
use mathlib.Core.List.{List}
use Rattle.record.specs.declared.Record.{Record}
use Rattle.record.specs.declared.WriterWork.{WriterWork}
use Rattle.record.specs.Parts.{count_of, with_count, with_reach, with_station, with_writer, with_counts, with_stations}
use Rattle.counting.specs.Steps.{writer_counted, steps_made}
use Rattle.answers.specs.Answers.{Answer, step_answer, is_underway, outcome}
use Rattle.effects.specs.declared.memory.WriterAccess.{WriterAccess}
use Rattle.effects.specs.declared.update.Update.{Update}
use Rattle.effects.specs.declared.update.Update.TheVariants.{Nothing, Reach, Counted, Uncounted, Answered}
use Rattle.effects.specs.Counts.{counted, uncounted}
use Rattle.effects.specs.Memory.{slot_stored, access_read, slots_after}
use Rattle.effects.specs.Effects.{WriterEffect, updated}
use Rattle.writer.specs.Step.{writer_access, writer_advance, after_step, writer_runs}
use Rattle.writer.proofs.WriterLaws.{AtWork, works, allowed}
use Rattle.whole_operations.specs.Whole.{writer_step}

module _ (panel : Record) (old : WriterWork) where
  update : (change : Update) (new : WriterWork) → with_writer (updated (with_writer panel old) change) new ≡ with_writer (updated panel change) new
  unfolding updated with_writer with_reach with_count with_counts with_station with_stations counted uncounted count_of
  update Nothing new = refl
  update (Reach reach) new = refl
  update (Counted index) new = refl
  update (Uncounted index) new = refl
  update (Answered command) new = refl

  runs : (slots : List ℕ) (work : WriterWork) → writer_runs (with_writer panel old) slots work ≡ writer_runs panel slots work
  unfolding writer_runs after_step with_writer
  runs slots work =
      let access = writer_access panel work in
      let after = writer_advance panel work (slot_stored access) (access_read slots access) in
      ap (λ (r : Record). outcome r (slots_after slots access) (step_answer (steps_made work) after.progress)) (update after.update after.work)

-- a step of the record with this work put back, from what its three parts gave for the record without it and for the work with the step counted
pub step_beside : (panel after : Record) (slots stored : List ℕ) (work made : WriterWork) (answer : Answer) (access : WriterAccess) (slot word steps : ℕ) (effect : WriterEffect) → AtWork (outcome (with_writer panel work) slots answer) → is_underway answer ≡ true → made ≡ writer_counted panel.k work → access ≡ writer_access panel made → slot ≡ slot_stored access → word ≡ access_read slots access → stored ≡ slots_after slots access → effect ≡ writer_advance panel made slot word → steps ≡ steps_made made → after ≡ updated panel effect.update → writer_step (outcome (with_writer panel work) slots answer) ≡ outcome (with_writer after effect.work) stored (step_answer steps effect.progress)
unfolding writer_step with_writer writer_runs after_step
step_beside panel after slots stored work made answer access slot word steps effect p e same-made same_access same-slot same_word same_slots same_effect same-steps same_update =
    let from-access = same-slot ∙ ap slot_stored same_access in
    let read = same_word ∙ ap (access_read slots) same_access in
    let effects = same_effect ∙ (λ j. writer_advance panel made (from-access j) (read j)) in
    allowed (with_writer panel work) slots p.fits (works (outcome (with_writer panel work) slots answer) p e)
    ∙ runs panel work slots (writer_counted panel.k work)
    ∙ ap (writer_runs panel slots) (sym same-made)
    ∙ sym
    ((λ j. outcome (with_writer (same_update j) effect.work) (same_slots j) (step_answer (same-steps j) effect.progress))
    ∙ (λ j. outcome (with_writer (updated panel (effects j).update) (effects j).work) (slots_after slots (same_access j)) (step_answer (steps_made made) (effects j).progress)))
