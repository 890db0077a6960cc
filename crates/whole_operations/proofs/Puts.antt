-- What a step of a put does to the record besides the work: at most it stores the reach, or it ends and counts one index. So a loop may keep the reach
-- beside the record.
use Rattle.std.specs.Prelude.{Option, Some, None}
use Prim.Native.Nat.{ℕ, ◌+◌}
use mathlib.Core.Path.{◌≡◌, refl, ◌∙◌, sym, ap, subst}
use mathlib.Core.Bool.{Bool, true, false, cond, false≢true}
use mathlib.Core.List.{List}
use lib.Dec.{ltb, eqb}
use Rattle.record.specs.declared.Put.{Put}
use Rattle.record.specs.declared.PutStage.{PutStage}
use Rattle.record.specs.declared.PutStage.TheVariants.{Searching as PutStage-as-Searching, Scanning, Found as PutStage-as-Found, Chosen}
use Rattle.record.specs.declared.Record.{Record}
use Rattle.record.specs.declared.WriterWork.{WriterWork}
use Rattle.record.specs.declared.WriterWork.TheVariants.{Idle, Putting, Changing, Removing}
use Rattle.record.specs.Parts.{count_of, with_reach, with_count, with_writer, with_counts}
use Rattle.record.specs.Idle.{is_writer_idle}
use Rattle.counting.specs.Steps.{writer_counted}
use Rattle.answers.specs.Answers.{Ending, ended_with, placed, completed, ended, underway, Progress, continues, finishes, step_answer, outcome}
use Rattle.search.specs.declared.Searched.{Searched}
use Rattle.search.specs.declared.Searched.TheVariants.{Going, Answered as Searched-as-Answered}
use Rattle.search.specs.Search.{search_advance}
use Rattle.effects.specs.declared.update.Update.{Update}
use Rattle.effects.specs.declared.update.Update.TheVariants.{Nothing, Reach, Counted, Uncounted, Answered}
use Rattle.effects.specs.declared.memory.WriterAccess.{WriterAccess}
use Rattle.effects.specs.Memory.{slot_stored, access_read, slots_after}
use Rattle.effects.specs.Counts.{counted}
use Rattle.effects.specs.Effects.{WriterEffect, going_on, ends, updated, reach_after}
use Rattle.put.specs.Put.{exceeds, put_at, put_answered, put_searched, put_scanned, put_takes, put_stage_advance, put_access, put_advance}
use Rattle.writer.specs.Step.{work_access, work_advance}
use Rattle.writer.proofs.WriterLaws.{AtWork}
use Rattle.whole_operations.specs.declared.changes.IndexCount.{IndexCount}
use Rattle.whole_operations.specs.Whole.{writer_step, with_recount, leaves}
use Rattle.whole_operations.specs.WholeFacts.{is_putting, count_added}
use Rattle.whole_operations.proofs.WorkBeside.{step_beside}

pub record Adds (effect : WriterEffect) : Type 0 where
  pub goes : effect.progress ≡ continues → (is_putting effect.work ≡ true) × ((panel : Record) → updated panel effect.update ≡ with_reach panel (reach_after panel.reach effect.update))
  -- an index is counted by the last step only
  pub finishes_so : (answer : Ending) → effect.progress ≡ finishes answer → (effect.work ≡ Idle) × ((panel : Record) → updated panel effect.update ≡ leaves panel (record { reach = reach_after panel.reach effect.update; count = count_added panel effect.update }))

going : (work : WriterWork) → is_putting work ≡ true → Adds (going_on work)
unfolding going_on updated with_reach
going work e = record { goes = λ h. (e, λ panel. refl); finishes_so = λ answer h. cc }

ending : (answer : Ending) → Adds (ends Nothing answer)
unfolding ends updated leaves with_recount with_reach count_added
ending answer = record { goes = λ h. cc; finishes_so = λ other h. (refl, λ panel. refl) }

raising : (put : Put) (index : ℕ) → Adds (record { work = Putting put; update = Reach index; progress = continues })
unfolding updated with_reach
raising put index = record { goes = λ h. (refl, λ panel. refl); finishes_so = λ answer h. cc }

counting : (index : ℕ) (answer : Ending) → Adds (ends (Counted index) answer)
unfolding ends updated counted leaves with_recount with_reach with_count with_counts count_added
counting index answer = record { goes = λ h. cc; finishes_so = λ other h. (refl, λ panel. refl) }

module _ (put : Put) where
  at_stage : (stage : PutStage) → Adds (put_at put stage)
  unfolding put_at
  at_stage stage = going _ refl

  searched : (after : Searched) → Adds (put_searched put after)
  unfolding put_searched put_answered
  searched (Going search) = at_stage (PutStage-as-Searching search)
  searched (Searched-as-Answered (Some place)) = at_stage (PutStage-as-Found place)
  searched (Searched-as-Answered None) = at_stage (Scanning 1)

  scanned : (k index word : ℕ) → Adds (put_scanned k put index word)
  unfolding put_scanned
  scanned k index word = go (eqb word 0) (ltb index k)
    where
      go : (empty more : Bool) → Adds (cond empty (put_at put (Chosen index)) (cond more (put_at put (Scanning (index + 1))) (ends Nothing (ended_with 6))))
      go true more = at_stage (Chosen index)
      go false true = at_stage (Scanning (index + 1))
      go false false = ending (ended_with 6)

  takes : (reach slot index : ℕ) → Adds (put_takes reach slot put index)
  unfolding put_takes
  takes reach slot index = go (exceeds reach index)
    where
      go : (high : Bool) → Adds (cond high (record { work = Putting put; update = Reach index; progress = continues }) (ends (Counted index) (placed slot index)))
      go true = raising put index
      go false = counting index _

  put_adds : (k reach slot : ℕ) (stage : PutStage) (word : ℕ) → Adds (put_stage_advance k reach slot put stage word)
  unfolding put_stage_advance
  put_adds k reach slot (PutStage-as-Searching search) word = searched (search_advance reach put.point search word)
  put_adds k reach slot (Scanning index) word = scanned k index word
  put_adds k reach slot (PutStage-as-Found place) word = ending _
  put_adds k reach slot (Chosen index) word = takes reach slot index

-- ---- a step of the record with the reach kept beside it
module _ (panel : Record) (reach : ℕ) (slots stored : List ℕ) (work : WriterWork) (put : Put) (access : WriterAccess) (slot word : ℕ) (effect : WriterEffect) (p : AtWork (outcome (with_writer (with_reach panel reach) work) slots underway)) (same-made : Putting put ≡ writer_counted panel.k work) (same_access : access ≡ put_access panel.m reach put) (same-slot : slot ≡ slot_stored access) (same_word : word ≡ access_read slots access) (same_slots : stored ≡ slots_after slots access) (same_effect : effect ≡ put_advance panel.k reach slot put word) where
  held : Record
  held = with_reach panel reach

  adds : Adds effect
  unfolding put_advance
  adds = subst Adds (sym same_effect) (put_adds put panel.k reach slot put.stage word)

  steps_to : (after : Record) → after ≡ updated held effect.update → writer_step (outcome (with_writer held work) slots underway) ≡ outcome (with_writer after effect.work) stored (step_answer put.steps effect.progress)
  unfolding held with_reach work_access work_advance
  steps_to after same = step_beside held after slots stored work (Putting put) underway access slot word put.steps effect p refl same-made same_access same-slot same_word same_slots same_effect refl same

  pub step_goes : effect.progress ≡ continues → (writer_step (outcome (with_writer (with_reach panel reach) work) slots underway) ≡ outcome (with_writer (with_reach panel (reach_after reach effect.update)) effect.work) stored underway) × (is_putting effect.work ≡ true)
  unfolding held with_reach
  step_goes e =
      let so = adds.goes e in
      (steps_to (with_reach panel (reach_after reach effect.update)) (sym (so.1 held)) ∙ ap (λ (after : Progress). outcome (with_writer (with_reach panel (reach_after reach effect.update)) effect.work) stored (step_answer put.steps after)) e, so.0)

  counts_alike : (update : Update) → count_added held update ≡ count_added panel update
  unfolding held with_reach count_added count_of
  counts_alike Nothing = refl
  counts_alike (Reach reach) = refl
  counts_alike (Counted index) = refl
  counts_alike (Uncounted index) = refl
  counts_alike (Answered command) = refl

  pub step_ends : (answer : Ending) → effect.progress ≡ finishes answer → writer_step (outcome (with_writer (with_reach panel reach) work) slots underway) ≡ outcome (with_writer (leaves panel (record { reach = reach_after reach effect.update; count = count_added panel effect.update })) Idle) stored (ended (completed answer put.steps))
  unfolding held with_reach leaves
  step_ends answer e =
      let so = adds.finishes_so answer e in
      let after = leaves panel (record { reach = reach_after reach effect.update; count = count_added panel effect.update }) in
      let left = ap (λ (n : Option IndexCount). leaves held (record { reach = reach_after reach effect.update; count = n })) (sym (counts_alike effect.update)) in
      steps_to after (left ∙ sym (so.1 held))
      ∙ ap (λ (last : WriterWork). outcome (with_writer after last) stored (step_answer put.steps effect.progress)) so.0
      ∙ ap (λ (now : Progress). outcome (with_writer after Idle) stored (step_answer put.steps now)) e

-- a put is work, and no other work is one
pub putting_works : (work : WriterWork) → is_putting work ≡ true → is_writer_idle work ≡ false
putting_works Idle e = absurd (false≢true e)
putting_works (Putting put) e = refl
putting_works (Changing change) e = absurd (false≢true e)
putting_works (Removing removal) e = absurd (false≢true e)

pub putting_only : (work : WriterWork) → is_putting work ≡ true → ((put : Put) → work ≡ Putting put → ⊥) → ⊥
putting_only Idle e other = false≢true e
putting_only (Putting put) e other = other put refl
putting_only (Changing change) e other = false≢true e
putting_only (Removing removal) e other = false≢true e

-- counting a step leaves that it is a put's
pub counted_puts : (k : ℕ) (work : WriterWork) → is_putting work ≡ true → is_putting (writer_counted k work) ≡ true
unfolding writer_counted
counted_puts k Idle e = absurd (false≢true e)
counted_puts k (Putting put) e = refl
counted_puts k (Changing change) e = absurd (false≢true e)
counted_puts k (Removing removal) e = absurd (false≢true e)
