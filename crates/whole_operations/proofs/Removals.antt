-- What the steps of a removal behind its search do to the record besides the work: the first one stores one count, of the place's index; where there is a
-- second one, it stores the reach.
use Rattle.std.specs.Prelude.{Some}
use Prim.Native.Nat.{ℕ, zero, suc}
use mathlib.Core.Path.{◌≡◌, refl, ap, ◌∙◌, sym, subst}
use mathlib.Core.Bool.{Bool, true, false, cond}
use mathlib.Core.List.{List}
use lib.ListN.{set, get_or}
use lib.Seq.{set-get_or, set-set}
use Rattle.record.specs.declared.Record.{Record}
use Rattle.record.specs.declared.Removal.{Removal}
use Rattle.record.specs.declared.RemovalStage.{RemovalStage}
use Rattle.record.specs.declared.RemovalStage.TheVariants.{Searching, Found as RemovalStage-as-Found, Lowering}
use Rattle.record.specs.declared.WriterWork.{WriterWork}
use Rattle.record.specs.declared.WriterWork.TheVariants.{Idle, Putting, Changing, Removing}
use Rattle.record.specs.Parts.{numbered, with_numbered, count_of, with_reach, with_count, with_counts, with_writer}
use Rattle.counting.specs.Steps.{removal_counted, writer_counted}
use Rattle.answers.specs.Answers.{Ending, removed, completed, ended, underway, Progress, continues, finishes, step_answer, outcome}
use Rattle.effects.specs.declared.memory.WriterAccess.{WriterAccess}
use Rattle.effects.specs.declared.update.Update.TheVariants.{Uncounted}
use Rattle.effects.specs.Counts.{one_less, uncounted, largest_counted}
use Rattle.effects.specs.Memory.{slot_stored, access_read, slots_after}
use Rattle.effects.specs.Effects.{WriterEffect, ends, updated}
use Rattle.removal.specs.Removal.{is_last, removal_at, removal_access, removal_empties, removal_lowers, removal_stage_advance, removal_advance}
use Rattle.writer.specs.Step.{work_access, work_advance}
use Rattle.writer.proofs.WriterLaws.{AtWork}
use Rattle.whole_operations.specs.declared.changes.Changes.{Changes}
use Rattle.whole_operations.specs.Whole.{writer_step, with_recount, leaves}
use Rattle.whole_operations.proofs.WorkBeside.{step_beside}

-- before the slot is emptied the record held is the one that the removal began with; then it differs from that one in this index's count
abbrev pub KeptAt : Record → ℕ → Record → RemovalStage → Type 0
KeptAt panel index held (Searching search) = ⊥
KeptAt panel index held (RemovalStage-as-Found place) = (held ≡ panel) × (place.index ≡ index)
KeptAt panel index held Lowering = held ≡ with_count panel index (count_of held index)

-- a removal behind its search, with a record that is so
abbrev pub Removes : Record → ℕ → Record → WriterWork → Type 0
Removes panel index held Idle = ⊥
Removes panel index held (Putting put) = ⊥
Removes panel index held (Changing change) = ⊥
Removes panel index held (Removing removal) = KeptAt panel index held removal.stage

-- what changes in the record until the removal ends
abbrev pub changes_to : ℕ → Record → Changes
changes_to index held = record { reach = held.reach; count = Some (record { index = index; count = count_of held index }) }

record Keeps (panel : Record) (index : ℕ) (held : Record) (effect : WriterEffect) : Type 0 where
  goes : effect.progress ≡ continues → Removes panel index (updated held effect.update) effect.work
  finishes_so : (answer : Ending) → effect.progress ≡ finishes answer → (effect.work ≡ Idle) × (updated held effect.update ≡ leaves panel (changes_to index (updated held effect.update)))

-- a count replaced by itself
recount : (list : List ℕ) (index count : ℕ) → with_numbered list index (numbered (with_numbered list index count) index 0) ≡ with_numbered list index count
unfolding numbered with_numbered
recount list zero count = refl
recount list (suc i) count = sym (set-set list i count (get_or (set list i count) i 0)) ∙ set-get_or (set list i count) i 0

uncounts : (panel : Record) (i : ℕ) → uncounted panel i ≡ with_count panel i (count_of (uncounted panel i) i)
unfolding uncounted with_count with_counts count_of
uncounts panel i = ap (with_counts panel) (sym (recount panel.counts i (one_less (numbered panel.counts i 0))))

empties : (panel : Record) (removal : Removal) (i : ℕ) → Keeps panel i panel (removal_empties panel.reach panel.counts removal i)
unfolding removal_empties removal_at ends updated leaves with_recount with_reach uncounted with_count with_counts
empties panel removal i = go (is_last panel.reach panel.counts i)
  where
    go : (last : Bool) → Keeps panel i panel (cond last (removal_at removal Lowering (Uncounted i)) (ends (Uncounted i) (removed panel.reach)))
    go true = record { goes = λ h. uncounts panel i; finishes_so = λ answer h. cc }
    go false = record { goes = λ h. cc; finishes_so = λ answer h. (refl, uncounts panel i) }

by_stage : (panel : Record) (index : ℕ) (held : Record) (removal : Removal) (stage : RemovalStage) (word : ℕ) → KeptAt panel index held stage → Keeps panel index held (removal_stage_advance held.k held.reach held.counts removal stage word)
unfolding removal_stage_advance removal_lowers ends updated leaves with_recount with_reach with_count with_counts count_of
by_stage panel index held removal (Searching search) word kept = absurd kept
by_stage panel index held removal (RemovalStage-as-Found place) word kept =
    subst (λ (r : Record). Keeps panel index r (removal_empties r.reach r.counts removal place.index)) (sym kept.0)
    (subst (λ (i : ℕ). Keeps panel i panel (removal_empties panel.reach panel.counts removal place.index)) kept.1 (empties panel removal place.index))
by_stage panel index held removal Lowering word kept =
    record {
      goes = λ h. cc;
      finishes_so = λ answer h. (refl, ap (λ (r : Record). with_reach r (largest_counted held.k held.counts)) kept);
    }

-- counting a step leaves what is kept
counted_kept : (panel : Record) (index : ℕ) (held : Record) (k : ℕ) (work : WriterWork) → Removes panel index held work → Removes panel index held (writer_counted k work)
unfolding writer_counted removal_counted
counted_kept panel index held k Idle kept = absurd kept
counted_kept panel index held k (Putting put) kept = absurd kept
counted_kept panel index held k (Changing change) kept = absurd kept
counted_kept panel index held k (Removing removal) kept = kept

-- and no other work is counted for it
pub counted_removes : (panel : Record) (index : ℕ) (held : Record) (work counted : WriterWork) → Removes panel index held work → counted ≡ writer_counted held.k work → Removes panel index held counted
counted_removes panel index held work counted kept e = subst (Removes panel index held) (sym e) (counted_kept panel index held held.k work kept)

pub removes_only : (panel : Record) (index : ℕ) (held : Record) (work : WriterWork) → Removes panel index held work → ((removal : Removal) → work ≡ Removing removal → ⊥) → ⊥
removes_only panel index held Idle kept other = kept
removes_only panel index held (Putting put) kept other = kept
removes_only panel index held (Changing change) kept other = kept
removes_only panel index held (Removing removal) kept other = other removal refl

-- ---- a step of the record held
module _ (panel : Record) (index : ℕ) (held : Record) (slots stored : List ℕ) (work : WriterWork) (removal : Removal) (access : WriterAccess) (word : ℕ) (effect : WriterEffect) (after : Record) (p : AtWork (outcome (with_writer held work) slots underway)) (kept : Removes panel index held work) (same-made : Removing removal ≡ writer_counted held.k work) (same_access : access ≡ removal_access held.m held.k held.counts removal) (same_word : word ≡ access_read slots access) (same_slots : stored ≡ slots_after slots access) (same_effect : effect ≡ removal_advance held.k held.reach held.counts removal word) (updates : after ≡ updated held effect.update) where
  keeps : Keeps panel index held effect
  unfolding removal_advance
  keeps = subst (Keeps panel index held) (sym same_effect) (by_stage panel index held removal removal.stage word (counted_removes panel index held work (Removing removal) kept same-made))

  takes : writer_step (outcome (with_writer held work) slots underway) ≡ outcome (with_writer after effect.work) stored (step_answer removal.steps effect.progress)
  unfolding work_access work_advance
  takes = step_beside held after slots stored work (Removing removal) underway access (slot_stored access) word removal.steps effect p refl same-made same_access refl same_word same_slots same_effect refl updates

  pub step_goes : effect.progress ≡ continues → (writer_step (outcome (with_writer held work) slots underway) ≡ outcome (with_writer after effect.work) stored underway) × Removes panel index after effect.work
  step_goes e =
      (takes ∙ ap (λ (now : Progress). outcome (with_writer after effect.work) stored (step_answer removal.steps now)) e, subst (λ (r : Record). Removes panel index r effect.work) (sym updates) (keeps.goes e))

  pub step_ends : (answer : Ending) → effect.progress ≡ finishes answer → writer_step (outcome (with_writer held work) slots underway) ≡ outcome (with_writer (leaves panel (changes_to index after)) Idle) stored (ended (completed answer removal.steps))
  step_ends answer e =
      let so = keeps.finishes_so answer e in
      let left = updates ∙ so.1 ∙ ap (λ (r : Record). leaves panel (changes_to index r)) (sym updates) in
      takes
      ∙ ap (λ (r : Record). outcome (with_writer r effect.work) stored (step_answer removal.steps effect.progress)) left
      ∙ ap (λ (last : WriterWork). outcome (with_writer (leaves panel (changes_to index after)) last) stored (step_answer removal.steps effect.progress)) so.0
      ∙ ap (λ (now : Progress). outcome (with_writer (leaves panel (changes_to index after)) Idle) stored (step_answer removal.steps now)) e
