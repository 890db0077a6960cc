-- Laws of a put's step: it goes on in range or ends, and takes one of the steps that are left; so a put takes at most 2k + 2;
-- it updates the reach in the step whose access stores it, and touches one of the slots lent.
use Rattle.std.specs.Prelude.{Some, None}
use Prim.Native.Nat.{ℕ, ◌+◌, ◌-◌, ◌≤◌, ◌<◌}
use mathlib.Core.Path.{◌≡◌, refl, ap, ◌∙◌}
use mathlib.Core.Bool.{Bool, true, false, cond}
use native.Mathlib.Omega.{arith}
use borrow.Author.Tests.{ltb-true, le-leb}
use lib.Dec.{ltb, eqb}
use Rattle.conditions.specs.Conditions.{within}
use Rattle.conditions.proofs.ConditionLaws.{both_left, both_right, both_true, within_high, is_within}
use Rattle.hash.proofs.Laws.{position_below}
use Rattle.record.specs.declared.Search.{Search}
use Rattle.record.specs.declared.Search.TheVariants.{Unread, Probing}
use Rattle.record.specs.declared.Put.{Put}
use Rattle.record.specs.declared.PutStage.{PutStage}
use Rattle.record.specs.declared.PutStage.TheVariants.{Searching, Scanning, Found as PutStage-as-Found, Chosen}
use Rattle.record.specs.declared.WriterWork.TheVariants.{Putting}
use Rattle.slot_words.specs.Points.{valid_point}
use Rattle.counting.specs.declared.steps.OperationKind.TheVariants.{Put as Kind-as-Put}
use Rattle.work_ranges.specs.WorkRanges.{steps_in_range, put_stage_in_range, put_in_range, writer_in_range}
use Rattle.search.specs.declared.Searched.{Searched}
use Rattle.search.specs.declared.Searched.TheVariants.{Going, Answered}
use Rattle.answers.specs.Answers.{placed, ended_with, continues}
use Rattle.slot_words.specs.Word.{word_of}
use Rattle.search.specs.Search.{search_advance}
use Rattle.search.proofs.SearchLaws.{slot_read, search_inside, search_left, searched_left, searched_in_range, answer_in_range, OneStep, first_step, probe_step}
use Rattle.effects.specs.declared.memory.WriterAccess.TheVariants.{StoreReach}
use Rattle.effects.specs.Memory.{store_word}
use Rattle.effects.specs.declared.update.Update.TheVariants.{Nothing, Reach, Counted}
use Rattle.effects.specs.Effects.{WriterEffect, going_on, ends, reach_after}
use Rattle.effects.proofs.EffectLaws.{slot_named, update_in_range, reach_stored, raising, raising_low, raising_high, raising_grows, put_search_left, put_left, writer_left, OneEffect}
use Rattle.put.specs.Put.{exceeds, put_stage_access, put_access, put_at, put_answered, put_searched, put_scanned, put_takes, put_stage_advance, put_advance}

search_left_lem : (k reach : ℕ) (search : Search) → put_search_left k reach search ≤ search_left k search + (k + 1 + raising reach k)
unfolding put_search_left search_left
search_left_lem k reach Unread = omega arith
search_left_lem k reach (Probing probe) = omega arith

module _ (k reach place : ℕ) (put : Put) (low : 1 ≤ k) (valid : valid_point put.point ≡ true) (made : steps_in_range Kind-as-Put k put.steps ≡ true) where
  -- the put goes on at a stage in range with as many steps left
  at_stage : (left : ℕ) (stage : PutStage) → put_stage_in_range k stage ≡ true → put_left k reach stage + 1 ≤ left → OneEffect k reach place left (put_at put stage)
  unfolding put_at going_on writer_in_range put_in_range update_in_range writer_left
  at_stage left stage h less =
      record { work_fits = both_true (valid_point put.point) _ valid (both_true (put_stage_in_range k stage) _ h made); update_fits = refl; ended = λ steps. refl; less = less }

  searched : (left : ℕ) (after : Searched) → OneStep k left after → OneEffect k reach place (left + (k + 1 + raising reach k)) (put_searched put after)
  unfolding put_searched put_answered put_stage_in_range put_left searched_in_range searched_left answer_in_range
  searched left (Going search) s = at_stage _ (Searching search) s.fits (omega (arith, search_left_lem k reach search, s.less))
  searched left (Answered (Some place)) s = at_stage _ (PutStage-as-Found place) s.fits (omega (arith, s.less))
  searched left (Answered None) s = at_stage _ (Scanning 1) (is_within 1 1 k (omega arith) low) (omega (arith, s.less))

  scanned : (index word : ℕ) → within 1 index k ≡ true → OneEffect k reach place (k - index + 1 + (1 + raising reach k)) (put_scanned k put index word)
  unfolding put_scanned ends put_stage_in_range put_left writer_in_range update_in_range writer_left
  scanned index word h = go (eqb word 0) (ltb index k) refl
    where
      high : index ≤ k
      high = within_high 1 index k h

      go : (empty below : Bool) → ltb index k ≡ below → OneEffect k reach place (k - index + 1 + (1 + raising reach k)) (cond empty (put_at put (Chosen index)) (cond below (put_at put (Scanning (index + 1))) (ends Nothing (ended_with 6))))
      go true below e = at_stage _ (Chosen index) h (omega (arith, raising_grows reach index k high))
      go false true e =
          let less = ltb-true index k e in at_stage _ (Scanning (index + 1)) (is_within 1 (index + 1) k (omega arith) (omega arith)) (omega arith)
      go false false e = record { work_fits = refl; update_fits = refl; ended = λ steps. refl; less = omega arith }

  takes : (slot index : ℕ) → within 1 index k ≡ true → put.stage ≡ Chosen index → OneEffect k reach place (1 + raising reach index) (put_takes reach slot put index)
  unfolding exceeds put_takes ends put_in_range put_stage_in_range put_left writer_in_range update_in_range writer_left raising
  takes slot index h e = go (ltb reach index) refl
    where
      high : index ≤ k
      high = within_high 1 index k h

      stage_fits : put_stage_in_range k put.stage ≡ true
      stage_fits = ap (put_stage_in_range k) e ∙ h

      go : (above : Bool) → ltb reach index ≡ above → OneEffect k reach place (1 + cond above 1 0) (cond above (record { work = Putting put; update = Reach index; progress = continues }) (ends (Counted index) (placed slot index)))
      go true f =
          record {
            work_fits = both_true (valid_point put.point) _ valid (both_true (put_stage_in_range k put.stage) _ stage_fits made);
            update_fits = le-leb index k high;
            ended = λ steps. refl;
            less = omega (arith, ap (put_left k index) e, raising_low index index (omega arith));
          }
      go false f = record { work_fits = refl; update_fits = h; ended = λ steps. refl; less = omega arith }

  at_any_stage : (slot word : ℕ) (stage : PutStage) → reach ≤ k → put.stage ≡ stage → put_stage_in_range k stage ≡ true → OneEffect k reach place (put_left k reach stage) (put_stage_advance k reach slot put stage word)
  unfolding put_stage_advance put_stage_in_range put_left put_search_left search_advance ends writer_in_range update_in_range writer_left
  at_any_stage slot word (Searching Unread) r e h =
      let one = searched (reach + 1) _ (first_step k reach r) in
      record { work_fits = one.work_fits; update_fits = one.update_fits; ended = one.ended; less = omega (arith, one.less, raising_high reach k r) }
  at_any_stage slot word (Searching (Probing probe)) r e h = searched _ _ (probe_step k put.point probe word h)
  at_any_stage slot word (Scanning index) r e h = scanned index word h
  at_any_stage slot word (PutStage-as-Found place) r e h = record { work_fits = refl; update_fits = refl; ended = λ steps. refl; less = omega arith }
  at_any_stage slot word (Chosen index) r e h = takes slot index h e

pub put_effect : (k reach place slot : ℕ) (put : Put) (word : ℕ) → 1 ≤ k → reach ≤ k → put_in_range k put ≡ true → OneEffect k reach place (writer_left k reach (Putting put)) (put_advance k reach slot put word)
unfolding put_advance put_in_range writer_left
put_effect k reach place slot put word low r h =
    let rest = both_right (valid_point put.point) _ h in
    at_any_stage k reach place put low (both_left (valid_point put.point) _ h) (both_right (put_stage_in_range k put.stage) _ rest) slot word put.stage r refl
    (both_left (put_stage_in_range k put.stage) _ rest)

-- the step whose access stores the reach, and no other, updates the reach
module _ (m k reach slot : ℕ) (put : Put) (word : ℕ) where
  searched_reach : (after : Searched) → reach_after reach (put_searched put after).update ≡ reach
  unfolding put_searched put_answered put_at going_on
  searched_reach (Going search) = refl
  searched_reach (Answered (Some place)) = refl
  searched_reach (Answered None) = refl

  scanned_reach : (index : ℕ) → reach_after reach (put_scanned k put index word).update ≡ reach
  unfolding put_scanned put_at going_on ends
  scanned_reach index = go (eqb word 0) (ltb index k)
    where
      go : (empty below : Bool) → reach_after reach (cond empty (put_at put (Chosen index)) (cond below (put_at put (Scanning (index + 1))) (ends Nothing (ended_with 6)))).update ≡ reach
      go true below = refl
      go false true = refl
      go false false = refl

  takes_reach : (index : ℕ) → reach_after reach (put_takes reach slot put index).update ≡ reach_stored reach (put_stage_access m reach put (Chosen index))
  unfolding exceeds put_takes put_stage_access store_word ends reach_stored
  takes_reach index = go (ltb reach index)
    where
      go : (above : Bool) → reach_after reach (cond {A = WriterEffect} above (record { work = Putting put; update = Reach index; progress = continues }) (ends (Counted index) (placed slot index))).update ≡ reach_stored reach (cond above (StoreReach index) (store_word m put.point index (word_of put.point put.value)))
      go true = refl
      go false = refl

  stage_reach : (stage : PutStage) → reach_after reach (put_stage_advance k reach slot put stage word).update ≡ reach_stored reach (put_stage_access m reach put stage)
  unfolding put_stage_advance put_stage_access store_word ends reach_stored
  stage_reach (Searching search) = searched_reach (search_advance reach put.point search word)
  stage_reach (Scanning index) = scanned_reach index
  stage_reach (PutStage-as-Found place) = refl
  stage_reach (Chosen index) = takes_reach index

  pub put_reach : reach_after reach (put_advance k reach slot put word).update ≡ reach_stored reach (put_access m reach put)
  unfolding put_advance put_access
  put_reach = stage_reach put.stage

-- a step reads or stores one of the slots lent
module _ (m reach : ℕ) (put : Put) (low : 1 ≤ m) where
  stage_inside : (stage : PutStage) → slot_named (put_stage_access m reach put stage) < m
  unfolding exceeds put_stage_access store_word slot_named slot_read
  stage_inside (Searching search) = search_inside m put.point search low
  stage_inside (Scanning index) = position_below m put.point index low
  stage_inside (PutStage-as-Found place) = position_below m put.point place.index low
  stage_inside (Chosen index) = go (ltb reach index)
    where
      go : (above : Bool) → slot_named (cond above (StoreReach index) (store_word m put.point index (word_of put.point put.value))) < m
      go true = low
      go false = position_below m put.point index low

  pub put_inside : slot_named (put_access m reach put) < m
  unfolding put_access
  put_inside = stage_inside put.stage
