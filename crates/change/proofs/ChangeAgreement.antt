-- A change's step, where the table agrees with a plain list: it goes on as it should, or ends with the answer that the plain list gives to the change, fed in the
-- step that stores the slot or, where the point is unknown, in the last. A command's change is the change by its action's masks.
use Rattle.std.specs.Prelude.{Option, Some, None}
use Prim.Native.Nat.{ℕ, ◌<◌}
use mathlib.Core.Bool.{Bool, true, false, cond}
use mathlib.Core.Path.{◌≡◌, refl, sym, ap, subst}
use mathlib.Core.List.{List}
use native.Mathlib.Omega.{arith}
use lib.Bits.{bit_and, and_le_l, xor_lt}
use lib.Dec.{eqb}
use Rattle.conditions.proofs.ConditionLaws.{both_left, both_right}
use Rattle.hash.specs.Position.{position_of}
use Rattle.slot_words.specs.Word.{word_of}
use Rattle.record.specs.declared.Record.{Record}
use Rattle.record.specs.declared.Place.{Place}
use Rattle.record.specs.declared.Masks.{Masks}
use Rattle.record.specs.declared.Alteration.{Alteration}
use Rattle.record.specs.declared.Alteration.TheVariants.{Given, Commanded}
use Rattle.record.specs.declared.Change.{Change}
use Rattle.record.specs.declared.ChangeStage.{ChangeStage}
use Rattle.record.specs.declared.ChangeStage.TheVariants.{Searching, Found as ChangeStage-as-Found}
use Rattle.record.specs.declared.WriterWork.TheVariants.{Changing}
use Rattle.record.specs.Parts.{with_station, with_stations}
use Rattle.slot_words.specs.Points.{valid_point}
use Rattle.work_ranges.specs.WorkRanges.{alteration_in_range, change_stage_in_range, change_in_range}
use Rattle.answers.specs.Answers.{changed, ended_with, stored_answer}
use Rattle.plain_list.specs.PlainList.{Rows, absent, entry_of, with_value, Told, tells, change_entry, change_row}
use Rattle.plain_list.proofs.RowLaws.{Steady, steady_same, steady_value}
use Rattle.plain_list.proofs.Agreement.{valid_low, Agrees, Tight, tight_value}
use Rattle.plain_list.proofs.Changes.{agrees_stored}
use Rattle.search.specs.declared.access.ReadAccess.{ReadAccess}
use Rattle.search.specs.declared.Searched.{Searched}
use Rattle.search.specs.declared.Searched.TheVariants.{Going, Answered}
use Rattle.search.specs.Access.{word_read}
use Rattle.search.specs.Search.{search_access, search_advance}
use Rattle.search.proofs.TrailLaws.{Knows, search_knows}
use Rattle.effects.specs.declared.memory.WriterAccess.{WriterAccess}
use Rattle.effects.specs.declared.memory.WriterAccess.TheVariants.{Read}
use Rattle.effects.specs.Memory.{store_word, access_read, slots_after}
use Rattle.effects.specs.Effects.{going_on, ends, updated}
use Rattle.effects.proofs.StepAgreement.{Standing, standing, ChangeOK, FlipFits, WorkOK, begun, is_commanded, not_a_command, command_ends_lem, StepOK, goes_on, ends_fed}
use Rattle.change.specs.Change.{action_masks, masks_of, new_value, change_stage_access, change_access, alteration_ends, command_ends, change_at, change_answered, change_searched, change_stores, change_stage_advance, change_advance}

-- what the plain list says to this change
abbrev pub change_told : Change → Rows → Told
change_told change rows = change_row change.point (masks_of change.alteration).keep (masks_of change.alteration).flip rows

action_flip : (action : ℕ) → (action_masks action).flip < 4294967296
unfolding action_masks
action_flip action = go (eqb action 0) (eqb action 1)
  where
    go : (enable disable : Bool) → (cond {A = Masks} enable (record { keep = 0xFFFF_FFFE; flip = 0 }) (cond disable (record { keep = 0xFFFF_FFFE; flip = 1 }) (record { keep = 0xFFFF_FFFF; flip = 1 }))).flip < 4294967296
    go true disable = omega arith
    go false true = omega arith
    go false false = omega arith

flip_fits : (m k reach : ℕ) (slots : List ℕ) (rows : Rows) (alteration : Alteration) → FlipFits m k reach slots rows alteration → (masks_of alteration).flip < 4294967296
unfolding masks_of
flip_fits m k reach slots rows (Given masks) h = h
flip_fits m k reach slots rows (Commanded command) h = action_flip command.action

new_fits : (alteration : Alteration) (value : ℕ) → (masks_of alteration).flip < 4294967296 → value < 4294967296 → new_value alteration value < 4294967296
unfolding new_value
new_fits alteration value flip h =
    xor_lt 32 (bit_and value (masks_of alteration).keep) (masks_of alteration).flip (omega (arith, and_le_l value (masks_of alteration).keep)) flip

module _ (panel : Record) (slots : List ℕ) (rows : Rows) (change : Change) (agrees : Agrees panel.m panel.k panel.reach panel.counts slots rows) (valid : valid_point change.point ≡ true) (flips : FlipFits panel.m panel.k panel.reach slots rows change.alteration) where
  abbrev m : ℕ
  m = panel.m

  abbrev k : ℕ
  k = panel.k

  abbrev q : ℕ
  q = change.point

  -- the end of a change, which stores nothing but a station's last command in the record
  at_end : (access : WriterAccess) (alteration : Alteration) (stored : Option ℕ) (told : Told) → change.alteration ≡ alteration → stored_answer stored ≡ told.answer → Steady rows told.rows → Agrees m k panel.reach panel.counts (slots_after slots access) told.rows → Tight m k panel.reach told.rows → StepOK panel slots access (ends (alteration_ends alteration q stored) told.answer) rows told (Changing change)
  unfolding alteration_ends ends updated with_station with_stations
  at_end access (Given masks) stored told is same steady after tight =
      ends_fed refl refl refl steady (not_a_command (ap is_commanded is) refl) (record { agrees = after; work = tight })
  at_end access (Commanded command) stored told is same steady after tight =
      ends_fed refl refl refl steady (command_ends_lem command stored is same refl) (record { agrees = after; work = tight })

  -- a step that reads, and goes on at this stage
  on_stage : (read : ReadAccess) (stage : ChangeStage) → ChangeOK m k panel.reach slots rows q stage → StepOK panel slots (Read read) (change_at change stage) rows (change_told change rows) (Changing change)
  unfolding slots_after change_at going_on updated begun
  on_stage read stage h = goes_on refl refl refl refl refl refl refl refl (record { agrees = agrees; work = (h, flips) })

  searched : (read : ReadAccess) (after : Searched) → Tight m k panel.reach rows → Knows (entry_of q rows ≡ absent) m k q rows after → StepOK panel slots (Read read) (change_searched change after) rows (change_told change rows) (Changing change)
  unfolding change_searched change_answered command_ends change_row change_entry stored_answer slots_after
  searched read (Going search) tight h = on_stage read (Searching search) (h, tight)
  searched read (Answered (Some place)) tight h = on_stage read (ChangeStage-as-Found place) (standing m k q rows place h, tight)
  searched read (Answered None) tight h =
      let told : change_told change rows ≡ tells rows (ended_with 7) = rw h in
      subst (λ t. StepOK panel slots (Read read) (ends (alteration_ends change.alteration q None) (ended_with 7)) rows t (Changing change)) (sym told)
      (at_end (Read read) change.alteration None (tells rows (ended_with 7)) refl refl (steady_same rows) agrees tight)

  abbrev new : Place → ℕ
  new place = new_value change.alteration place.value

  -- the row's word is stored anew
  stores : (place : Place) → Standing m k q rows place → Tight m k panel.reach rows → StepOK panel slots (store_word m q place.index (word_of q (new place))) (change_stores change place) rows (change_told change rows) (Changing change)
  unfolding change_stores command_ends store_word slots_after change_row change_entry new_value stored_answer
  stores place stands tight =
      let told : change_told change rows ≡ tells (with_value q (new place) rows) (changed (new place)) = rw stands.found in
      let fits = new_fits change.alteration place.value (flip_fits m k panel.reach slots rows change.alteration flips) (agrees.held q place.value (position_of m q place.index) stands.found).fits in
      subst (λ t. StepOK panel slots (store_word m q place.index (word_of q (new place))) (ends (alteration_ends change.alteration q (Some (new place))) (changed (new place))) rows t (Changing change)) (sym told)
      (at_end (store_word m q place.index (word_of q (new place))) change.alteration (Some (new place)) (tells (with_value q (new place) rows) (changed (new place))) refl refl (steady_value q (new place) rows)
      (agrees_stored m k panel.reach panel.counts slots rows agrees q place.value (position_of m q place.index) (new place) stands.found fits)
      (tight_value m k panel.reach q (new place) rows tight))

  at_stage : (stage : ChangeStage) → change_stage_in_range k stage ≡ true → ChangeOK m k panel.reach slots rows q stage → StepOK panel slots (change_stage_access m change stage) (change_stage_advance panel.reach change stage (access_read slots (change_stage_access m change stage))) rows (change_told change rows) (Changing change)
  unfolding change_stage_access change_stage_advance change_stage_in_range access_read
  at_stage (Searching search) inside h =
      searched (search_access m q search) (search_advance panel.reach q search (word_read slots (search_access m q search))) h.1
      (search_knows (entry_of q rows ≡ absent) m k panel.reach panel.counts slots rows agrees q (valid_low q valid) (λ none. none) search inside h.0)
  at_stage (ChangeStage-as-Found place) inside h = stores place h.0 h.1

-- a change's step
pub change_agrees : (panel : Record) (slots : List ℕ) (rows : Rows) (change : Change) → Agrees panel.m panel.k panel.reach panel.counts slots rows → change_in_range panel.k change ≡ true → WorkOK panel.m panel.k panel.reach slots rows (Changing change) → StepOK panel slots (change_access panel.m change) (change_advance panel.reach change (access_read slots (change_access panel.m change))) rows (change_told change rows) (Changing change)
unfolding change_access change_advance change_in_range
change_agrees panel slots rows change agrees inside h =
    let rest = both_right (alteration_in_range change.alteration) _ (both_right (valid_point change.point) _ inside) in
    at_stage panel slots rows change agrees (both_left (valid_point change.point) _ inside) h.1 change.stage (both_left (change_stage_in_range panel.k change.stage) _ rest) h.0
