-- Laws of the writer's calls, for whoever reasons about orders of calls: a step does what its access says and leaves the rest, keeps a record in range,
-- and takes one of the steps that are left; a put takes at most 2k + 2, a change k + 2, a removal k + 3.
use Prim.Native.Nat.{ℕ, zero, suc, ◌+◌, ◌≤◌, ◌<◌}
use mathlib.Core.Path.{◌≡◌, refl, ap, ◌∙◌, sym, transport}
use mathlib.Core.Bool.{true, false, not, false≢true}
use mathlib.Core.List.{List}
use native.Mathlib.Omega.{arith}
use borrow.Author.Tests.{not-true, not-false}
use lib.ListN.{length, get_or, length-set}
use lib.Seq.{get_or-set_same, get_or-set_other}
use Rattle.refusal.specs.Judging.{refuse_if}
use Rattle.conditions.specs.Conditions.{both}
use Rattle.conditions.proofs.ConditionLaws.{both_true}
use Rattle.refusal.proofs.Laws.{not_refused}
use Rattle.record.specs.declared.Record.{Record}
use Rattle.record.specs.declared.WriterWork.{WriterWork}
use Rattle.record.specs.declared.WriterWork.TheVariants.{Idle, Putting, Changing, Removing}
use Rattle.record.specs.Parts.{with_writer}
use Rattle.slot_words.specs.Points.{valid_point}
use Rattle.counting.specs.declared.steps.OperationKind.TheVariants.{Put, Change, Removal}
use Rattle.counting.specs.Steps.{writer_counted, steps_made}
use Rattle.counting.proofs.StepLaws.{writer_counted_idle}
use Rattle.work_ranges.specs.WorkRanges.{search_in_range, steps_in_range, put_stage_in_range, put_in_range, alteration_in_range, change_stage_in_range, change_in_range, removal_stage_in_range, removal_in_range, writer_in_range}
use Rattle.work_ranges.proofs.CountedRanges.{none_made, writer_counted_fits}
use Rattle.record_ranges.specs.Ranges.{in_range}
use Rattle.record_ranges.proofs.Laws.{fields, sizes_in_range_lem, with_writer_in_range}
use Rattle.writer.specs.Starts.{work_start_refusal, start_refusal, start_writer, put_begun, change_begun, removal_begun, start_put, start_removal}
use Rattle.writer.specs.WriterFacts.{Does, reads, stores_reach, does_store_slot, Keeps, Begun}
use Rattle.writer.specs.Step.{work_access, writer_access, work_advance, writer_advance, work_refusal, step_refusal, after_step, writer_runs, step_writer}
use Rattle.writer.specs.Work.{station_at}
use Rattle.answers.specs.Answers.{started, is_underway, Outcome, outcome, unless_refused}
use Rattle.answers.proofs.AnswerLaws.{unless}
use Rattle.search.proofs.SearchLaws.{slot_read}
use Rattle.effects.specs.declared.memory.WriterAccess.{WriterAccess}
use Rattle.effects.specs.declared.memory.WriterAccess.TheVariants.{Read, StoreReach, StoreSlot}
use Rattle.effects.specs.Memory.{slot_stored, access_read, slots_after}
use Rattle.effects.specs.Effects.{WriterEffect, going_on, updated, reach_after}
use Rattle.record.specs.Idle.{is_writer_idle}
use Rattle.effects.proofs.EffectLaws.{slot_named, update_in_range, updated_in_range, reach_stored, Updated, update_leaves, writer_left, OneEffect}
use Rattle.writer.proofs.CountedWork.{same_access, same_left, same_station}
use Rattle.put.proofs.PutLaws.{put_effect, put_reach, put_inside}
use Rattle.change.proofs.ChangeLaws.{change_effect, change_reach, change_inside}
use Rattle.removal.proofs.RemovalLaws.{removal_effect, removal_reach, removal_inside}

writer_effect : (panel : Record) (work : WriterWork) (slot word : ℕ) → 1 ≤ panel.k → panel.reach ≤ panel.k → writer_in_range panel.k work ≡ true → is_writer_idle work ≡ false → OneEffect panel.k panel.reach (station_at work) (writer_left panel.k panel.reach work) (writer_advance panel work slot word)
unfolding work_advance writer_in_range station_at
writer_effect panel Idle slot word low r h e = absurd (false≢true (sym e))
writer_effect panel (Putting put) slot word low r h e = put_effect panel.k panel.reach _ slot put word low r h
writer_effect panel (Changing change) slot word low r h e = change_effect panel.k panel.reach change word r h
writer_effect panel (Removing removal) slot word low r h e = removal_effect panel.k panel.reach _ panel.counts removal word r h

writer_reach : (panel : Record) (work : WriterWork) (slot word : ℕ) → reach_after panel.reach (writer_advance panel work slot word).update ≡ reach_stored panel.reach (writer_access panel work)
unfolding work_advance work_access reach_stored going_on
writer_reach panel Idle slot word = refl
writer_reach panel (Putting put) slot word = put_reach panel.m panel.k panel.reach slot put word
writer_reach panel (Changing change) slot word = change_reach panel.m panel.reach change word
writer_reach panel (Removing removal) slot word = removal_reach panel.m panel.k panel.reach panel.counts removal word

pub slots_length : (slots : List ℕ) (access : WriterAccess) → length (slots_after slots access) ≡ length slots
unfolding slots_after
slots_length slots (Read access) = refl
slots_length slots (StoreReach reach) = refl
slots_length slots (StoreSlot store) = length-set slots store.slot store.word

-- the writer's work with the step counted that it makes now
abbrev pub counted_work : Record → WriterWork
counted_work panel = writer_counted panel.k panel.writer.work

-- a step of a writer at work on a record in range
module _ (panel : Record) (slots : List ℕ) (fits : in_range (length slots) panel ≡ true) (works : is_writer_idle panel.writer.work ≡ false) where
  access : WriterAccess
  access = writer_access panel (counted_work panel)

  effect : WriterEffect
  effect = writer_advance panel (counted_work panel) (slot_stored access) (access_read slots access)

  -- no call is refused
  pub allowed : step_writer panel slots ≡ writer_runs panel slots (counted_work panel)
  unfolding step_writer step_refusal work_refusal refuse_if unless_refused
  allowed = rw (fits, works)

  -- the step counted, the work is in range
  pub counted_fits : writer_in_range panel.k (counted_work panel) ≡ true
  counted_fits = writer_counted_fits panel.k panel.writer.work (sizes_in_range_lem (length slots) panel fits).k_high (fields (length slots) panel fits).writer_fits

  one : OneEffect panel.k panel.reach (station_at (counted_work panel)) (writer_left panel.k panel.reach (counted_work panel)) effect
  unfolding effect access
  one =
      writer_effect panel (counted_work panel) _ _ (sizes_in_range_lem (length slots) panel fits).k_low (fields (length slots) panel fits).reach_fits counted_fits
      (writer_counted_idle panel.k panel.writer.work ∙ works)

  -- what the step stores in the record is in range, and each part stands at its place
  pub run_update_fits : update_in_range panel.k (station_at panel.writer.work) (writer_advance panel (counted_work panel) (slot_stored (writer_access panel (counted_work panel))) (access_read slots (writer_access panel (counted_work panel)))).update ≡ true
  unfolding effect access
  run_update_fits = ap (λ (place : ℕ). update_in_range panel.k place effect.update) (sym (same_station panel.k panel.writer.work)) ∙ one.update_fits

  leaves : Updated panel effect.update
  leaves = update_leaves panel effect.update

  pub run_in_range : in_range (length (writer_runs panel slots (counted_work panel)).slots) (writer_runs panel slots (counted_work panel)).panel ≡ true
  unfolding writer_runs after_step effect access
  run_in_range =
      transport (λ j. in_range (sym (slots_length slots access) j) (with_writer (updated panel effect.update) effect.work) ≡ true)
      (with_writer_in_range (length slots) (updated panel effect.update) (updated_in_range (length slots) (station_at (counted_work panel)) panel effect.update fits one.update_fits) effect.work
      (ap (λ (k : ℕ). writer_in_range k effect.work) leaves.k_stays ∙ one.work_fits))

  -- "A step that ends an operation .. leaves that party idle", and only such a step does
  pub run_ended : is_underway (writer_runs panel slots (counted_work panel)).answer ≡ not (is_writer_idle (writer_runs panel slots (counted_work panel)).panel.writer.work)
  unfolding writer_runs after_step with_writer effect access
  run_ended = one.ended (steps_made (counted_work panel))

  pub run_less : writer_left (writer_runs panel slots (counted_work panel)).panel.k (writer_runs panel slots (counted_work panel)).panel.reach (writer_runs panel slots (counted_work panel)).panel.writer.work + 1 ≤ writer_left panel.k panel.reach panel.writer.work
  unfolding writer_runs after_step with_writer effect access
  run_less =
      transport (λ j. writer_left (sym leaves.k_stays j) (sym leaves.reach_is_after j) effect.work + 1 ≤ same_left panel.k panel.reach panel.writer.work j)
      one.less

-- what holds of a writer at work and right after its last step: the record in range, and work exactly while the operation is underway
pub record AtWork (now : Outcome) : Type 0 where
  pub fits : in_range (length now.slots) now.panel ≡ true
  pub busy : is_underway now.answer ≡ not (is_writer_idle now.panel.writer.work)

-- an operation that is underway has work
pub works : (now : Outcome) → AtWork now → is_underway now.answer ≡ true → is_writer_idle now.panel.writer.work ≡ false
works now p e = not-true (is_writer_idle now.panel.writer.work) (sym p.busy ∙ e)

pub run_at_work : (panel : Record) (slots : List ℕ) → in_range (length slots) panel ≡ true → is_writer_idle panel.writer.work ≡ false → AtWork (writer_runs panel slots (counted_work panel))
run_at_work panel slots fits working = record { fits = run_in_range panel slots fits working; busy = run_ended panel slots fits working }

-- a start, and what it leaves
module _ (panel : Record) (slots : List ℕ) (point : ℕ) (work : WriterWork) where
  started_fits : start_refusal (length slots) panel point ≡ 0 → (valid_point point ≡ true → writer_in_range panel.k work ≡ true) → in_range (length slots) (with_writer panel work) ≡ true
  unfolding start_refusal work_start_refusal
  started_fits e h =
      let after-1 = not_refused (not (in_range (length slots) panel)) 1 _ (omega arith) e in
      let after-2 = not_refused (not (valid_point point)) 2 _ (omega arith) after-1.1 in
      with_writer_in_range (length slots) panel (not-false (in_range (length slots) panel) after-1.0) work (h (not-false (valid_point point) after-2.0))

  begun : (n : ℕ) → start_refusal (length slots) panel point ≡ n → (valid_point point ≡ true → writer_in_range panel.k work ≡ true) → is_writer_idle work ≡ false → Begun (unless_refused n (outcome panel slots) (outcome (with_writer panel work) slots started))
  unfolding unless_refused with_writer
  begun zero e h w = record { fits = λ u. started_fits e h; works = λ u. w }
  begun (suc n) e h w = record { fits = λ u. absurd (false≢true u); works = λ u. absurd (false≢true u) }

  pub start_begins : (valid_point point ≡ true → writer_in_range panel.k work ≡ true) → is_writer_idle work ≡ false → Begun (start_writer panel slots point work)
  unfolding start_writer
  start_begins h w = begun (start_refusal (length slots) panel point) refl h w

-- work on a valid point that begins is in range
module _ (k point : ℕ) (valid : valid_point point ≡ true) where
  pub put_begun_fits : (value : ℕ) → writer_in_range k (put_begun point value) ≡ true
  unfolding writer_in_range put_in_range put_stage_in_range search_in_range
  put_begun_fits value = both_true (valid_point point) (both true (steps_in_range Put k 0)) valid (both_true true _ refl (none_made Put k))

  pub change_begun_fits : (keep flip : ℕ) → writer_in_range k (change_begun point keep flip) ≡ true
  unfolding writer_in_range change_in_range alteration_in_range change_stage_in_range search_in_range
  change_begun_fits keep flip =
      both_true (valid_point point) (both true (both true (steps_in_range Change k 0))) valid (both_true true _ refl (both_true true _ refl (none_made Change k)))

  pub removal_begun_fits : writer_in_range k (removal_begun point) ≡ true
  unfolding writer_in_range removal_in_range removal_stage_in_range search_in_range
  removal_begun_fits = both_true (valid_point point) (both true (steps_in_range Removal k 0)) valid (both_true true _ refl (none_made Removal k))

module _ (panel : Record) (slots : List ℕ) (point : ℕ) where
  pub put_begins : (value : ℕ) → Begun (start_put panel slots point value)
  unfolding start_put
  put_begins value = start_begins panel slots point (put_begun point value) (λ valid. put_begun_fits panel.k point valid value) refl

  pub removal_begins : Begun (start_removal panel slots point)
  unfolding start_removal
  removal_begins = start_begins panel slots point (removal_begun point) (λ valid. removal_begun_fits panel.k point valid) refl

writer_inside : (panel : Record) (work : WriterWork) → 1 ≤ panel.m → slot_named (writer_access panel work) < panel.m
unfolding work_access slot_named slot_read
writer_inside panel Idle low = low
writer_inside panel (Putting put) low = put_inside panel.m panel.reach put low
writer_inside panel (Changing change) low = change_inside panel.m change low
writer_inside panel (Removing removal) low = removal_inside panel.m panel.k panel.counts removal low

module _ (panel : Record) (slots : List ℕ) where
  -- m, k, the number of slots, the readers and the place in the circle stay
  pub step_keeps : Keeps panel slots (step_writer panel slots)
  unfolding step_writer writer_runs after_step with_writer
  step_keeps =
      unless (Keeps panel slots) (step_refusal (length slots) panel) (outcome panel slots) _
      (λ answer. record { length_stays = refl; m_stays = refl; k_stays = refl; readers_stay = refl; place_stays = refl })
      (λ e.
      let leaves = update_leaves panel _ in
      record {
        length_stays = slots_length slots (writer_access panel (counted_work panel));
        m_stays = leaves.m_stays;
        k_stays = leaves.k_stays;
        readers_stay = leaves.readers_stay;
        place_stays = leaves.place_stays;
      })

  pub at_work : step_refusal (length slots) panel ≡ 0 → (in_range (length slots) panel ≡ true) × (is_writer_idle panel.writer.work ≡ false)
  unfolding step_refusal work_refusal
  at_work e =
      let after-1 = not_refused (not (in_range (length slots) panel)) 1 _ (omega arith) e in
      let after-5 = not_refused (is_writer_idle panel.writer.work) 5 _ (omega arith) after-1.1 in
      (not-false (in_range (length slots) panel) after-1.0, after-5.0)

  pub step_in_range : in_range (length slots) panel ≡ true → in_range (length (step_writer panel slots).slots) (step_writer panel slots).panel ≡ true
  unfolding step_writer
  step_in_range fits =
      unless (λ (o : Outcome). in_range (length o.slots) o.panel ≡ true) (step_refusal (length slots) panel) (outcome panel slots) _ (λ answer. fits)
      (λ e. let w = at_work e in run_in_range panel slots w.0 w.1)

  reach_is_after : (writer_runs panel slots (counted_work panel)).panel.reach ≡ reach_stored panel.reach (writer_access panel (counted_work panel))
  unfolding writer_runs after_step with_writer
  reach_is_after = (update_leaves panel _).reach_is_after ∙ writer_reach panel (counted_work panel) _ _

  does : (access : WriterAccess) → slot_named access < length slots → (after : Outcome) → after.slots ≡ slots_after slots access → after.panel.reach ≡ reach_stored panel.reach access → Does panel.reach slots after access
  unfolding slots_after reach_stored slot_named
  does (Read read) inside after e r = reads e r
  does (StoreReach new) inside after e r = stores_reach e r
  does (StoreSlot store) inside after e r =
      does_store_slot inside (ap (λ (l : List ℕ). get_or l store.slot 0) e ∙ get_or-set_same slots store.slot store.word 0 inside)
      (λ other h. ap (λ (l : List ℕ). get_or l other 0) e ∙ get_or-set_other slots store.slot other store.word 0 h) r

  -- "A step reads or stores exactly one slot, or reads or stores the reach": the one that its access names, and no other
  pub step_does : step_refusal (length slots) panel ≡ 0 → Does panel.reach slots (step_writer panel slots) (writer_access panel panel.writer.work)
  unfolding writer_runs after_step
  step_does e =
      let w = at_work e in
      let sizes = sizes_in_range_lem (length slots) panel w.0 in
      let inside = writer_inside panel (counted_work panel) sizes.m_low in
      transport (λ j. Does panel.reach slots (sym (allowed panel slots w.0 w.1) j) (same_access panel.m panel.k panel.reach panel.counts panel.writer.work j))
      (does (writer_access panel (counted_work panel)) (omega (arith, inside, sizes.whole)) (writer_runs panel slots (counted_work panel)) refl reach_is_after)
