-- Laws of a removal's step: it goes on in range or ends, and takes one of the steps that are left; so a removal takes at most k + 3;
-- it updates the reach in the step whose access stores it, and touches one of the slots lent.
use Rattle.std.specs.Prelude.{Some, None}
use Prim.Native.Nat.{ℕ, ◌+◌, ◌≤◌, ◌<◌}
use mathlib.Core.Path.{◌≡◌, refl}
use mathlib.Core.Bool.{Bool, true, false, cond}
use mathlib.Core.List.{List}
use native.Mathlib.Omega.{arith}
use borrow.Author.Tests.{le-leb}
use Rattle.conditions.specs.Conditions.{within}
use Rattle.conditions.proofs.ConditionLaws.{both_left, both_right, both_true}
use Rattle.hash.proofs.Laws.{position_below}
use Rattle.record.specs.declared.Removal.{Removal}
use Rattle.record.specs.declared.RemovalStage.{RemovalStage}
use Rattle.record.specs.declared.RemovalStage.TheVariants.{Searching, Found as RemovalStage-as-Found, Lowering}
use Rattle.record.specs.declared.WriterWork.TheVariants.{Removing}
use Rattle.slot_words.specs.Points.{valid_point}
use Rattle.counting.specs.declared.steps.OperationKind.TheVariants.{Removal as Kind-as-Removal}
use Rattle.work_ranges.specs.WorkRanges.{steps_in_range, removal_stage_in_range, removal_in_range, writer_in_range}
use Rattle.search.specs.declared.Searched.{Searched}
use Rattle.search.specs.declared.Searched.TheVariants.{Going, Answered}
use Rattle.answers.specs.Answers.{removed}
use Rattle.search.specs.Search.{search_advance}
use Rattle.search.proofs.SearchLaws.{search_inside, searched_left, searched_in_range, answer_in_range, OneStep, search_step}
use Rattle.effects.specs.Memory.{store_word}
use Rattle.effects.specs.declared.update.Update.{Update}
use Rattle.effects.specs.declared.update.Update.TheVariants.{Nothing, Uncounted}
use Rattle.effects.specs.Counts.{largest_counted}
use Rattle.effects.specs.Effects.{ends, reach_after}
use Rattle.effects.proofs.CountLaws.{largest_high}
use Rattle.effects.proofs.EffectLaws.{slot_named, update_in_range, reach_stored, removal_left, writer_left, OneEffect}
use Rattle.removal.specs.Removal.{removal_stage_access, removal_access, removal_at, removal_answered, removal_searched, is_last, removal_empties, removal_lowers, removal_stage_advance, removal_advance}

module _ (k reach place : ℕ) (counts : List ℕ) (removal : Removal) (valid : valid_point removal.point ≡ true) (made : steps_in_range Kind-as-Removal k removal.steps ≡ true) where
  -- the removal goes on at a stage in range with as many steps left
  at_stage : (left : ℕ) (stage : RemovalStage) (update : Update) → removal_stage_in_range k stage ≡ true → update_in_range k place update ≡ true → removal_left k stage + 1 ≤ left → OneEffect k reach place left (removal_at removal stage update)
  unfolding removal_at writer_in_range removal_in_range writer_left
  at_stage left stage update h e less =
      record { work_fits = both_true (valid_point removal.point) _ valid (both_true (removal_stage_in_range k stage) _ h made); update_fits = e; ended = λ steps. refl; less = less }

  searched : (left : ℕ) (after : Searched) → OneStep k left after → OneEffect k reach place (left + 2) (removal_searched removal after)
  unfolding removal_searched removal_answered ends removal_stage_in_range removal_left searched_in_range searched_left answer_in_range update_in_range writer_in_range writer_left
  searched left (Going search) s = at_stage _ (Searching search) Nothing s.fits refl (omega (arith, s.less))
  searched left (Answered (Some place)) s = at_stage _ (RemovalStage-as-Found place) Nothing s.fits refl (omega (arith, s.less))
  searched left (Answered None) s = record { work_fits = refl; update_fits = refl; ended = λ steps. refl; less = omega arith }

  empties : (index : ℕ) → within 1 index k ≡ true → OneEffect k reach place 2 (removal_empties reach counts removal index)
  unfolding removal_empties ends removal_stage_in_range removal_left update_in_range writer_in_range writer_left
  empties index h = go (is_last reach counts index)
    where
      go : (last : Bool) → OneEffect k reach place 2 (cond last (removal_at removal Lowering (Uncounted index)) (ends (Uncounted index) (removed reach)))
      go true = at_stage 2 Lowering (Uncounted index) refl h (omega arith)
      go false = record { work_fits = refl; update_fits = h; ended = λ steps. refl; less = omega arith }

  at_any_stage : (word : ℕ) (stage : RemovalStage) → reach ≤ k → removal_stage_in_range k stage ≡ true → OneEffect k reach place (removal_left k stage) (removal_stage_advance k reach counts removal stage word)
  unfolding removal_stage_advance removal_stage_in_range removal_left removal_lowers ends update_in_range writer_in_range writer_left
  at_any_stage word (Searching search) r h = searched _ _ (search_step k reach removal.point search word r h)
  at_any_stage word (RemovalStage-as-Found place) r h = empties place.index h
  at_any_stage word Lowering r h =
      record { work_fits = refl; update_fits = le-leb (largest_counted k counts) k (largest_high counts k); ended = λ steps. refl; less = omega arith }

pub removal_effect : (k reach place : ℕ) (counts : List ℕ) (removal : Removal) (word : ℕ) → reach ≤ k → removal_in_range k removal ≡ true → OneEffect k reach place (writer_left k reach (Removing removal)) (removal_advance k reach counts removal word)
unfolding removal_advance removal_in_range writer_left
removal_effect k reach place counts removal word r h =
    let rest = both_right (valid_point removal.point) _ h in
    at_any_stage k reach place counts removal (both_left (valid_point removal.point) _ h) (both_right (removal_stage_in_range k removal.stage) _ rest) word removal.stage r
    (both_left (removal_stage_in_range k removal.stage) _ rest)

-- the step whose access stores the reach, and no other, updates the reach
module _ (m k reach : ℕ) (counts : List ℕ) (removal : Removal) (word : ℕ) where
  searched_reach : (after : Searched) → reach_after reach (removal_searched removal after).update ≡ reach
  unfolding removal_searched removal_answered removal_at ends
  searched_reach (Going search) = refl
  searched_reach (Answered (Some place)) = refl
  searched_reach (Answered None) = refl

  emptied_reach : (index : ℕ) → reach_after reach (removal_empties reach counts removal index).update ≡ reach
  unfolding removal_empties removal_at ends
  emptied_reach index = go (is_last reach counts index)
    where
      go : (last : Bool) → reach_after reach (cond last (removal_at removal Lowering (Uncounted index)) (ends (Uncounted index) (removed reach))).update ≡ reach
      go true = refl
      go false = refl

  stage_reach : (stage : RemovalStage) → reach_after reach (removal_stage_advance k reach counts removal stage word).update ≡ reach_stored reach (removal_stage_access m k counts removal stage)
  unfolding removal_stage_advance removal_stage_access removal_lowers store_word ends reach_stored
  stage_reach (Searching search) = searched_reach (search_advance reach removal.point search word)
  stage_reach (RemovalStage-as-Found place) = emptied_reach place.index
  stage_reach Lowering = refl

  pub removal_reach : reach_after reach (removal_advance k reach counts removal word).update ≡ reach_stored reach (removal_access m k counts removal)
  unfolding removal_advance removal_access
  removal_reach = stage_reach removal.stage

-- a step reads or stores one of the slots lent
module _ (m k : ℕ) (counts : List ℕ) (removal : Removal) (low : 1 ≤ m) where
  stage_inside : (stage : RemovalStage) → slot_named (removal_stage_access m k counts removal stage) < m
  unfolding removal_stage_access store_word slot_named
  stage_inside (Searching search) = search_inside m removal.point search low
  stage_inside (RemovalStage-as-Found place) = position_below m removal.point place.index low
  stage_inside Lowering = low

  pub removal_inside : slot_named (removal_access m k counts removal) < m
  unfolding removal_access
  removal_inside = stage_inside removal.stage
