-- Laws of a change's step: it goes on in range or ends, and takes one of the steps that are left; so a change takes at most k + 2;
-- it leaves the reach, and touches one of the slots lent.
use Rattle.std.specs.Prelude.{Option, Some, None}
use Prim.Native.Nat.{ℕ, ◌+◌, ◌≤◌, ◌<◌}
use mathlib.Core.Path.{◌≡◌, refl}
use mathlib.Core.Bool.{Bool, true, false}
use native.Mathlib.Omega.{arith}
use borrow.Author.Tests.{le-leb, eq-eqb}
use lib.Dec.{leb, eqb}
use Rattle.conditions.specs.Conditions.{both, either, within}
use Rattle.conditions.proofs.ConditionLaws.{both_left, both_right, both_true, within_high}
use Rattle.hash.proofs.Laws.{position_below}
use Rattle.record.specs.declared.Alteration.{Alteration}
use Rattle.record.specs.declared.Alteration.TheVariants.{Given, Commanded}
use Rattle.record.specs.declared.Change.{Change}
use Rattle.record.specs.declared.ChangeStage.{ChangeStage}
use Rattle.record.specs.declared.ChangeStage.TheVariants.{Searching, Found as ChangeStage-as-Found}
use Rattle.record.specs.declared.WriterWork.TheVariants.{Changing}
use Rattle.record.specs.Parts.{numbered_place}
use Rattle.slot_words.specs.Points.{valid_point}
use Rattle.counting.specs.declared.steps.OperationKind.TheVariants.{Change as Kind-as-Change}
use Rattle.work_ranges.specs.WorkRanges.{steps_in_range, alteration_in_range, command_in_range, change_stage_in_range, change_in_range, writer_in_range}
use Rattle.record_ranges.specs.Ranges.{station_in_range}
use Rattle.search.specs.declared.Searched.{Searched}
use Rattle.search.specs.declared.Searched.TheVariants.{Going, Answered}
use Rattle.search.specs.Search.{search_advance}
use Rattle.search.proofs.SearchLaws.{search_inside, searched_left, searched_in_range, answer_in_range, OneStep, search_step}
use Rattle.effects.specs.Memory.{store_word}
use Rattle.effects.specs.Effects.{going_on, ends, reach_after}
use Rattle.effects.proofs.EffectLaws.{slot_named, update_in_range, reach_stored, change_left, writer_left, OneEffect}
use Rattle.change.specs.Change.{new_value, change_stage_access, change_access, alteration_ends, command_ends, commanding_station, change_at, change_answered, change_searched, change_stores, change_stage_advance, change_advance}

either_right : (a b : Bool) → b ≡ true → either a b ≡ true
unfolding either
either_right true b e = refl
either_right false b e = e

-- "number, point, action and answer are stored": in range, as the command was, and at its station's place
stored_fits : (k point : ℕ) (alteration : Alteration) (answer : Option ℕ) → valid_point point ≡ true → alteration_in_range alteration ≡ true → update_in_range k (numbered_place 32 (commanding_station alteration)) (alteration_ends alteration point answer) ≡ true
unfolding update_in_range alteration_ends alteration_in_range command_in_range station_in_range
stored_fits k point (Given masks) answer valid h = refl
stored_fits k point (Commanded command) answer valid h =
    let station = both_left (within 1 command.station 32) (both (within 1 command.number 16777215) (leb command.action 2)) h in
    let rest = both_right (within 1 command.station 32) (both (within 1 command.number 16777215) (leb command.action 2)) h in
    let number = both_left (within 1 command.number 16777215) (leb command.action 2) rest in
    let action = both_right (within 1 command.number 16777215) (leb command.action 2) rest in
    let last =
    both_true (leb command.number 16777215) (either (eqb command.number 0) (both (valid_point point) (leb command.action 2)))
    (le-leb command.number 16777215 (within_high 1 command.number 16777215 number))
    (either_right (eqb command.number 0) (both (valid_point point) (leb command.action 2)) (both_true (valid_point point) (leb command.action 2) valid action)) in
    both_true _ _ last (both_true _ _ station (eq-eqb (numbered_place 32 command.station) (numbered_place 32 command.station) refl))

module _ (k reach : ℕ) (change : Change) (valid : valid_point change.point ≡ true) (alters : alteration_in_range change.alteration ≡ true) (made : steps_in_range Kind-as-Change k change.steps ≡ true) where
  abbrev place : ℕ
  place = numbered_place 32 (commanding_station change.alteration)

  -- the change goes on at a stage in range with as many steps left
  at_stage : (left : ℕ) (stage : ChangeStage) → change_stage_in_range k stage ≡ true → change_left k stage + 1 ≤ left → OneEffect k reach place left (change_at change stage)
  unfolding change_at going_on writer_in_range change_in_range update_in_range writer_left
  at_stage left stage h less =
      record {
        work_fits = both_true (valid_point change.point) _ valid (both_true (alteration_in_range change.alteration) _ alters (both_true (change_stage_in_range k stage) _ h made));
        update_fits = refl;
        ended = λ steps. refl;
        less = less;
      }

  searched : (left : ℕ) (after : Searched) → OneStep k left after → OneEffect k reach place (left + 1) (change_searched change after)
  unfolding change_searched change_answered command_ends ends change_stage_in_range change_left searched_in_range searched_left answer_in_range writer_in_range writer_left
  searched left (Going search) s = at_stage _ (Searching search) s.fits (omega (arith, s.less))
  searched left (Answered (Some place)) s = at_stage _ (ChangeStage-as-Found place) s.fits (omega (arith, s.less))
  searched left (Answered None) s =
      record { work_fits = refl; update_fits = stored_fits k change.point change.alteration _ valid alters; ended = λ steps. refl; less = omega arith }

  at_any_stage : (word : ℕ) (stage : ChangeStage) → reach ≤ k → change_stage_in_range k stage ≡ true → OneEffect k reach place (change_left k stage) (change_stage_advance reach change stage word)
  unfolding change_stage_advance change_stage_in_range change_left change_stores command_ends ends writer_in_range writer_left
  at_any_stage word (Searching search) r h = searched _ _ (search_step k reach change.point search word r h)
  at_any_stage word (ChangeStage-as-Found place) r h =
      record { work_fits = refl; update_fits = stored_fits k change.point change.alteration _ valid alters; ended = λ steps. refl; less = omega arith }

pub change_effect : (k reach : ℕ) (change : Change) (word : ℕ) → reach ≤ k → change_in_range k change ≡ true → OneEffect k reach (numbered_place 32 (commanding_station change.alteration)) (writer_left k reach (Changing change)) (change_advance reach change word)
unfolding change_advance change_in_range writer_left
change_effect k reach change word r h =
    let rest = both_right (valid_point change.point) _ h in
    let stage = both_right (alteration_in_range change.alteration) _ rest in
    at_any_stage k reach change (both_left (valid_point change.point) _ h) (both_left (alteration_in_range change.alteration) _ rest) (both_right (change_stage_in_range k change.stage) _ stage) word change.stage r
    (both_left (change_stage_in_range k change.stage) _ stage)

-- no step of a change stores the reach
module _ (m reach : ℕ) (change : Change) (word : ℕ) where
  ended_reach : (alteration : Alteration) (answer : Option ℕ) → reach_after reach (alteration_ends alteration change.point answer) ≡ reach
  unfolding alteration_ends
  ended_reach (Given masks) answer = refl
  ended_reach (Commanded command) answer = refl

  searched_reach : (after : Searched) → reach_after reach (change_searched change after).update ≡ reach
  unfolding change_searched change_answered change_at going_on ends command_ends
  searched_reach (Going search) = refl
  searched_reach (Answered (Some place)) = refl
  searched_reach (Answered None) = ended_reach change.alteration None

  stage_reach : (stage : ChangeStage) → reach_after reach (change_stage_advance reach change stage word).update ≡ reach_stored reach (change_stage_access m change stage)
  unfolding change_stage_advance change_stage_access change_stores command_ends store_word ends reach_stored
  stage_reach (Searching search) = searched_reach (search_advance reach change.point search word)
  stage_reach (ChangeStage-as-Found place) = ended_reach change.alteration (Some (new_value change.alteration place.value))

  pub change_reach : reach_after reach (change_advance reach change word).update ≡ reach_stored reach (change_access m change)
  unfolding change_advance change_access
  change_reach = stage_reach change.stage

-- a step reads or stores one of the slots lent
module _ (m : ℕ) (change : Change) (low : 1 ≤ m) where
  stage_inside : (stage : ChangeStage) → slot_named (change_stage_access m change stage) < m
  unfolding change_stage_access store_word slot_named
  stage_inside (Searching search) = search_inside m change.point search low
  stage_inside (ChangeStage-as-Found place) = position_below m change.point place.index low

  pub change_inside : slot_named (change_access m change) < m
  unfolding change_access
  change_inside = stage_inside change.stage
