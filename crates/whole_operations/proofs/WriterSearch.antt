-- The search of a put, change or removal as one: the operation goes on with what the search's answer leads to.
use Rattle.std.specs.Prelude.{Option, Some, None}
use Rattle.record.specs.declared.Place.{Place}
use Prim.Native.Nat.{ℕ, suc, ◌+◌, ◌≤◌}
use mathlib.Core.Path.{◌≡◌, refl, ap, ◌∙◌, sym, subst, transport}
use mathlib.Core.Bool.{true, false, false≢true}
use mathlib.Core.List.{List}
use native.Mathlib.Omega.{arith}
use lib.ListN.{length}
use Rattle.record.specs.declared.Change.{Change}
use Rattle.record.specs.declared.ChangeStage.TheVariants.{Searching as ChangeStage-as-Searching}
use Rattle.record.specs.declared.Put.{Put}
use Rattle.record.specs.declared.PutStage.TheVariants.{Searching as PutStage-as-Searching}
use Rattle.record.specs.declared.Record.{Record}
use Rattle.record.specs.declared.Removal.{Removal}
use Rattle.record.specs.declared.RemovalStage.TheVariants.{Searching as RemovalStage-as-Searching}
use Rattle.record.specs.declared.Search.{Search}
use Rattle.record.specs.declared.Search.TheVariants.{Unread}
use Rattle.record.specs.declared.WriterWork.{WriterWork}
use Rattle.record.specs.declared.WriterWork.TheVariants.{Idle, Putting, Changing, Removing}
use Rattle.record.specs.Parts.{with_writer}
use Rattle.counting.specs.declared.steps.OperationKind.TheVariants.{Put as Kind-as-Put, Change as Kind-as-Change, Removal as Kind-as-Removal}
use Rattle.counting.specs.Steps.{step_bound, put_counted, change_counted, removal_counted, writer_counted, steps_made}
use Rattle.counting.proofs.StepLaws.{counted_one}
use Rattle.work_ranges.specs.WorkRanges.{search_in_range}
use Rattle.record_ranges.proofs.Laws.{fields, sizes_in_range_lem}
use Rattle.record_ranges.specs.Ranges.{in_range}
use Rattle.answers.specs.Answers.{Answer, ended_with, completed, ended, Progress, continues, step_answer, underway, is_underway, Outcome, outcome}
use Rattle.search.specs.declared.Searched.{Searched}
use Rattle.search.specs.declared.Searched.TheVariants.{Going, Answered}
use Rattle.search.specs.Access.{word_read}
use Rattle.search.specs.Search.{search_access, search_advance}
use Rattle.search.proofs.SearchLaws.{search_left}
use Rattle.effects.specs.declared.memory.WriterAccess.TheVariants.{Read}
use Rattle.effects.specs.declared.update.Update.TheVariants.{Nothing}
use Rattle.effects.specs.Memory.{slot_stored, access_read, slots_after}
use Rattle.effects.specs.Effects.{WriterEffect, going_on, ends, updated}
use Rattle.record.specs.Idle.{is_writer_idle}
use Rattle.put.specs.Put.{put_stage_access, put_access, put_at, put_answered, put_searched, put_stage_advance, put_advance}
use Rattle.change.specs.Change.{command_ends, change_stage_access, change_access, change_at, change_answered, change_searched, change_stage_advance, change_advance}
use Rattle.removal.specs.Removal.{removal_stage_access, removal_access, removal_at, removal_answered, removal_searched, removal_stage_advance, removal_advance}
use Rattle.writer.specs.Starts.{start_refusal, start_writer, put_begun, removal_begun, start_put, start_removal}
use Rattle.writer.specs.Step.{work_access, writer_access, work_advance, writer_advance}
use Rattle.writer.specs.WriterFacts.{Begun}
use Rattle.writer.proofs.WriterLaws.{AtWork, put_begins, removal_begins}
use Rattle.whole_operations.specs.declared.searching.SearchEnd.{SearchEnd}
use Rattle.whole_operations.specs.Whole.{until_ended, writer_step, whole_put, whole_removal}
use Rattle.whole_operations.specs.WholeFacts.{is_putting, removing_from, search_end}
use Rattle.whole_operations.proofs.WholeEnds.{stays_at_work, whole_put_ends, whole_removal_ends}
use Rattle.whole_operations.proofs.WholeLaws.{has_ended}
use Rattle.whole_operations.proofs.WholeSearch.{standing, Comes, search_comes}
use Rattle.whole_operations.proofs.WholeWriting.{begun_at_work, begun_ends, run_ended}
use Rattle.whole_operations.proofs.WorkBeside.{step_beside}

-- the point that an operation is about
unfoldable pub point_of_work : WriterWork → ℕ
point_of_work Idle = 0
point_of_work (Putting put) = put.point
point_of_work (Changing change) = change.point
point_of_work (Removing removal) = removal.point

-- an operation with this search underway, and as many steps made
unfoldable pub searching_by : WriterWork → ℕ → Search → WriterWork
searching_by Idle steps search = Idle
searching_by (Putting put) steps search =
    Putting (record { point = put.point; value = put.value; stage = PutStage-as-Searching search; steps = steps })
searching_by (Changing change) steps search =
    Changing (record { point = change.point; alteration = change.alteration; stage = ChangeStage-as-Searching search; steps = steps })
searching_by (Removing removal) steps search = Removing (record { point = removal.point; stage = RemovalStage-as-Searching search; steps = steps })

-- what an operation comes to in the step, the one of this number, that answers its search
unfoldable pub answered_by : WriterWork → ℕ → Option Place → WriterEffect
answered_by Idle steps answer = going_on Idle
answered_by (Putting put) steps answer = put_answered (record { point = put.point; value = put.value; stage = put.stage; steps = steps }) answer
answered_by (Changing change) steps answer =
    change_answered (record { point = change.point; alteration = change.alteration; stage = change.stage; steps = steps }) answer
answered_by (Removing removal) steps answer = removal_answered (record { point = removal.point; stage = removal.stage; steps = steps }) answer

-- ---- a step of the search: counted as one, and its parts 1 and 3
counted_of : (k : ℕ) (work : WriterWork) (steps : ℕ) (search : Search) → k ≤ 64 → steps ≤ k → searching_by work (steps + 1) search ≡ writer_counted k (searching_by work steps search)
unfolding searching_by writer_counted put_counted change_counted removal_counted
counted_of k Idle steps search few h = refl
counted_of k (Putting put) steps search few h =
    ap (λ (n : ℕ). Putting (record { point = put.point; value = put.value; stage = PutStage-as-Searching search; steps = n })) (sym (counted_one Kind-as-Put k steps few (omega arith)))
counted_of k (Changing change) steps search few h =
    ap (λ (n : ℕ). Changing (record { point = change.point; alteration = change.alteration; stage = ChangeStage-as-Searching search; steps = n })) (sym (counted_one Kind-as-Change k steps few (omega arith)))
counted_of k (Removing removal) steps search few h =
    ap (λ (n : ℕ). Removing (record { point = removal.point; stage = RemovalStage-as-Searching search; steps = n })) (sym (counted_one Kind-as-Removal k steps few (omega arith)))

made_of : (work : WriterWork) (steps : ℕ) (search : Search) → is_writer_idle work ≡ false → steps_made (searching_by work steps search) ≡ steps
unfolding searching_by
made_of Idle steps search e = absurd (false≢true (sym e))
made_of (Putting put) steps search e = refl
made_of (Changing change) steps search e = refl
made_of (Removing removal) steps search e = refl

access_of : (panel : Record) (work : WriterWork) (steps : ℕ) (search : Search) → is_writer_idle work ≡ false → writer_access panel (searching_by work steps search) ≡ Read (search_access panel.m (point_of_work work) search)
unfolding work_access searching_by point_of_work put_access put_stage_access change_access change_stage_access removal_access removal_stage_access
access_of panel Idle steps search e = absurd (false≢true (sym e))
access_of panel (Putting put) steps search e = refl
access_of panel (Changing change) steps search e = refl
access_of panel (Removing removal) steps search e = refl

-- what a step of the search comes to, by how the search stands after it
abbrev effect_of : WriterWork → ℕ → Searched → WriterEffect
effect_of work steps (Going search) = going_on (searching_by work steps search)
effect_of work steps (Answered answer) = answered_by work steps answer

put_effect : (put : Put) (steps : ℕ) (search : Search) (stands : Searched) → put_searched (record { point = put.point; value = put.value; stage = PutStage-as-Searching search; steps = steps }) stands ≡ effect_of (Putting put) steps stands
unfolding put_searched put_answered put_at going_on searching_by answered_by
put_effect put steps search (Going next) = refl
put_effect put steps search (Answered (Some place)) = refl
put_effect put steps search (Answered None) = refl

change_effect : (change : Change) (steps : ℕ) (search : Search) (stands : Searched) → change_searched (record { point = change.point; alteration = change.alteration; stage = ChangeStage-as-Searching search; steps = steps }) stands ≡ effect_of (Changing change) steps stands
unfolding change_searched change_answered change_at going_on command_ends searching_by answered_by
change_effect change steps search (Going next) = refl
change_effect change steps search (Answered (Some place)) = refl
change_effect change steps search (Answered None) = refl

removal_effect : (removal : Removal) (steps : ℕ) (search : Search) (stands : Searched) → removal_searched (record { point = removal.point; stage = RemovalStage-as-Searching search; steps = steps }) stands ≡ effect_of (Removing removal) steps stands
unfolding removal_searched removal_answered removal_at going_on searching_by answered_by
removal_effect removal steps search (Going next) = refl
removal_effect removal steps search (Answered (Some place)) = refl
removal_effect removal steps search (Answered None) = refl

advance_of : (panel : Record) (work : WriterWork) (steps : ℕ) (search : Search) (slot word : ℕ) → is_writer_idle work ≡ false → writer_advance panel (searching_by work steps search) slot word ≡ effect_of work steps (search_advance panel.reach (point_of_work work) search word)
unfolding work_advance searching_by point_of_work put_advance put_stage_advance change_advance change_stage_advance removal_advance removal_stage_advance
advance_of panel Idle steps search slot word e = absurd (false≢true (sym e))
advance_of panel (Putting put) steps search slot word e = put_effect put steps search (search_advance panel.reach put.point search word)
advance_of panel (Changing change) steps search slot word e = change_effect change steps search (search_advance panel.reach change.point search word)
advance_of panel (Removing removal) steps search slot word e = removal_effect removal steps search (search_advance panel.reach removal.point search word)

-- ---- what the answer leads to: nothing else changes in the record
pub record PutsOn (effect : WriterEffect) : Type 0 where
  pub leaves : effect.update ≡ Nothing
  pub putting : is_putting effect.work ≡ true
  pub goes_on : effect.progress ≡ continues

pub answered_puts : (put : Put) (answer : Option Place) → PutsOn (put_answered put answer)
unfolding put_answered put_at going_on
answered_puts put (Some place) = record { leaves = refl; putting = refl; goes_on = refl }
answered_puts put None = record { leaves = refl; putting = refl; goes_on = refl }

pub answered_removes : (removal : Removal) (answer : Option Place) → (removal_answered removal answer).update ≡ Nothing
unfolding removal_answered removal_at ends
answered_removes removal (Some place) = refl
answered_removes removal None = refl

-- ---- the whole search
module _ (panel : Record) (slots : List ℕ) (work : WriterWork) (working : is_writer_idle work ≡ false) (leaves : (steps : ℕ) (answer : Option Place) → (answered_by work steps answer).update ≡ Nothing) where
  -- the operation with this search underway, and after the step that answers it
  abbrev going : ℕ → Search → Outcome
  going steps search = outcome (with_writer panel (searching_by work steps search)) slots underway

  abbrev answered : ℕ → Option Place → Outcome
  answered steps answer = outcome (with_writer panel (answered_by work steps answer).work) slots (step_answer steps (answered_by work steps answer).progress)

  update_leaves : (steps : ℕ) (stands : Searched) → panel ≡ updated panel (effect_of work steps stands).update
  unfolding updated going_on
  update_leaves steps (Going search) = refl
  update_leaves steps (Answered answer) = sym (ap (updated panel) (leaves steps answer))

  as_it_stands : (steps : ℕ) (stands : Searched) → outcome (with_writer panel (effect_of work steps stands).work) slots (step_answer steps (effect_of work steps stands).progress) ≡ standing (going steps) (answered steps) stands
  unfolding going_on
  as_it_stands steps (Going search) = refl
  as_it_stands steps (Answered answer) = refl

  takes : panel.k ≤ 64 → (steps : ℕ) (search : Search) → steps ≤ panel.k → AtWork (going steps search) → writer_step (going steps search) ≡ standing (going (steps + 1)) (answered (steps + 1)) (search_advance panel.reach (point_of_work work) search (word_read slots (search_access panel.m (point_of_work work) search)))
  unfolding slot_stored access_read slots_after
  takes few steps search h p =
      let word = word_read slots (search_access panel.m (point_of_work work) search) in
      let stands = search_advance panel.reach (point_of_work work) search word in
      let made = searching_by work (steps + 1) search in
      step_beside panel panel slots slots (searching_by work steps search) made underway (Read (search_access panel.m (point_of_work work) search)) 0 word (steps + 1) (effect_of work (steps + 1) stands) p refl
      (counted_of panel.k work steps search few h) (sym (access_of panel work (steps + 1) search working)) refl refl refl (sym (advance_of panel work (steps + 1) search 0 word working)) (sym (made_of work (steps + 1) search working)) (update_leaves (steps + 1) stands)
      ∙ as_it_stands (steps + 1) stands

  -- the operation after its search has come to this
  abbrev answered_at : SearchEnd → Outcome
  answered_at found = answered found.steps found.answer

  search_runs : (budget : ℕ) → searching_by work 0 Unread ≡ work → AtWork (outcome (with_writer panel work) slots underway) → is_underway (until_ended writer_step budget (outcome (with_writer panel work) slots underway)).answer ≡ false → Comes writer_step AtWork budget (outcome (with_writer panel work) slots underway) (answered_at (search_end slots panel.m (point_of_work work) panel.reach (suc panel.reach) 0 Unread))
  unfolding search_in_range search_left with_writer
  search_runs budget unread p ends =
      let begins = ap (λ (w : WriterWork). outcome (with_writer panel w) slots underway) unread in
      let few = (sizes_in_range_lem (length slots) (with_writer panel work) p.fits).k_high in
      let reach-low = (fields (length slots) (with_writer panel work) p.fits).reach_fits in
      subst (λ (now : Outcome). Comes writer_step AtWork budget now (answered_at (search_end slots panel.m (point_of_work work) panel.reach (suc panel.reach) 0 Unread))) begins
      (search_comes writer_step AtWork slots panel.m (point_of_work work) panel.reach panel.k stays_at_work going answered (λ steps search. refl) (takes few) (suc panel.reach) 0 Unread budget
      (subst AtWork (sym begins) p) refl (omega arith) (omega arith)
      (ap (λ (now : Outcome). is_underway (until_ended writer_step budget now).answer) begins ∙ ends))

-- ---- an operation that has been started, from its search's answer on
-- with this work and this budget it comes to the whole
pub record LeftOf (panel : Record) (slots : List ℕ) (given : ℕ) (work : WriterWork) (whole : Outcome) : Type 0 where
  pub fits : in_range (length slots) (with_writer panel work) ≡ true
  pub ends : is_underway (until_ended writer_step given (outcome (with_writer panel work) slots underway)).answer ≡ false
  pub comes : (after : Record) (stored : List ℕ) (answer : Answer) → after.writer.work ≡ panel.writer.work → outcome (with_writer after Idle) stored answer ≡ until_ended writer_step given (outcome (with_writer panel work) slots underway) → outcome after stored answer ≡ whole

module _ (panel : Record) (slots : List ℕ) (point : ℕ) (work : WriterWork) (budget : ℕ) (e : start_refusal (length slots) panel point ≡ 0) (some : 1 ≤ budget) (working : is_writer_idle work ≡ false) (leaves : (steps : ℕ) (answer : Option Place) → (answered_by work steps answer).update ≡ Nothing) (unread : searching_by work 0 Unread ≡ work) (about : point_of_work work ≡ point) (begun : Begun (start_writer panel slots point work)) (ends : is_underway (until_ended writer_step budget (start_writer panel slots point work)).answer ≡ false) where
  abbrev found : ℕ → SearchEnd
  found q = search_end slots panel.m q panel.reach (suc panel.reach) 0 Unread

  comes : Comes writer_step AtWork budget (outcome (with_writer panel work) slots underway) (answered_at panel slots work working leaves (found point))
  comes =
      subst (λ (q : ℕ). Comes writer_step AtWork budget (outcome (with_writer panel work) slots underway) (answered_at panel slots work working leaves (found q))) about
      (search_runs panel slots work working leaves budget unread (begun_at_work panel slots point work budget e begun working)
      (begun_ends panel slots point work budget e some ends))

  -- the effect that the answer leads to, and the steps made by then
  module _ (steps : ℕ) (effect : WriterEffect) (count : steps ≡ (found point).steps) (same : effect ≡ answered_by work (found point).steps (found point).answer) where
    abbrev reached : Outcome
    reached = outcome (with_writer panel effect.work) slots (step_answer steps effect.progress)

    at_work : AtWork reached
    at_work = transport (λ j. AtWork (outcome (with_writer panel (sym same j).work) slots (step_answer (sym count j) (sym same j).progress))) comes.holds

    same_whole : until_ended writer_step budget reached ≡ until_ended writer_step budget (outcome (with_writer panel work) slots underway)
    same_whole =
        (λ j. until_ended writer_step budget (outcome (with_writer panel (same j).work) slots (step_answer (count j) (same j).progress)))
        ∙ sym comes.same

    -- the answer has ended the operation
    ends_at_once : effect.work ≡ Idle → is_underway (step_answer steps effect.progress) ≡ false → outcome panel slots (step_answer steps effect.progress) ≡ until_ended writer_step budget (start_writer panel slots point work)
    ends_at_once idle over =
        run_ended panel slots point work budget e panel slots (step_answer steps effect.progress) refl some
        (ap (λ (w : WriterWork). outcome (with_writer panel w) slots (step_answer steps effect.progress)) (sym idle)
        ∙ sym (has_ended writer_step budget reached over)
        ∙ same_whole)

    -- it has not: the steps that are left, within the same budget
    goes_from : effect.progress ≡ continues → (given : ℕ) → given ≡ budget → LeftOf panel slots given effect.work (until_ended writer_step budget (start_writer panel slots point work))
    unfolding with_writer
    goes_from goes_on given as-bound =
        let reached_now = ap (λ (p : Progress). outcome (with_writer panel effect.work) slots (step_answer steps p)) goes_on in
        let now_same = (λ j. until_ended writer_step (as-bound j) (sym reached_now j)) ∙ same_whole in
        record {
          fits = at_work.fits;
          ends = ap (λ (after : Outcome). is_underway after.answer) now_same ∙ begun_ends panel slots point work budget e some ends;
          comes = λ after stored answer same_writer ran. run_ended panel slots point work budget e after stored answer same_writer some (ran ∙ now_same);
        }

pub record PutLeft (panel : Record) (slots : List ℕ) (given : ℕ) (work : WriterWork) (whole : Outcome) : Type 0 where
  pub putting : is_putting work ≡ true
  pub left : LeftOf panel slots given work whole

-- ---- by its search: what it came to, and what that leads to
module _ (panel : Record) (slots : List ℕ) (point : ℕ) (e : start_refusal (length slots) panel point ≡ 0) (found : SearchEnd) (same : found ≡ search_end slots panel.m point panel.reach (suc panel.reach) 0 Unread) (given : ℕ) where
  pub put_left : (value : ℕ) (effect : WriterEffect) → effect ≡ put_answered (record { point = point; value = value; stage = PutStage-as-Searching Unread; steps = found.steps }) found.answer → given ≡ step_bound Kind-as-Put panel.k → PutLeft panel slots given effect.work (whole_put panel slots point value)
  unfolding whole_put start_put searching_by point_of_work answered_by
  put_left value effect leads as-bound =
      let answered : SearchEnd → WriterEffect = λ (f : SearchEnd). put_answered (record { point = point; value = value; stage = PutStage-as-Searching Unread; steps = f.steps }) f.answer in
      let on : PutsOn effect = subst PutsOn (sym leads) (answered_puts _ _) in
      record {
        putting = on.putting;
        left =
            goes_from panel slots point (put_begun point value) (step_bound Kind-as-Put panel.k) e (omega arith) refl (λ steps answer. (answered_puts _ answer).leaves) refl refl (put_begins panel slots point value) (whole_put_ends panel slots point value) found.steps effect
            (ap (λ (f : SearchEnd). f.steps) same) (leads ∙ ap answered same) on.goes_on given as-bound;
      }

  -- a removal as its search answers
  abbrev removal_after : ℕ → Option Place → WriterEffect
  removal_after steps answer = removal_answered (record { point = point; stage = RemovalStage-as-Searching Unread; steps = steps }) answer

  pub removal_left : (place : Place) → found.answer ≡ Some place → given ≡ step_bound Kind-as-Removal panel.k → LeftOf panel slots given (removing_from point place found.steps) (whole_removal panel slots point)
  unfolding whole_removal start_removal searching_by point_of_work answered_by removal_answered removal_at
  removal_left place is as-bound =
      goes_from panel slots point (removal_begun point) (step_bound Kind-as-Removal panel.k) e (omega arith) refl (λ steps answer. answered_removes (record { point = point; stage = RemovalStage-as-Searching Unread; steps = steps }) answer) refl refl (removal_begins panel slots point) (whole_removal_ends panel slots point) found.steps (removal_after found.steps (Some place))
      (ap (λ (f : SearchEnd). f.steps) same) (ap (removal_after found.steps) (sym is) ∙ ap (λ (f : SearchEnd). removal_after f.steps f.answer) same) refl given as-bound

  pub removal_unknown : found.answer ≡ None → outcome panel slots (ended (completed (ended_with 7) found.steps)) ≡ whole_removal panel slots point
  unfolding whole_removal start_removal searching_by point_of_work answered_by removal_answered ends
  removal_unknown is =
      ends_at_once panel slots point (removal_begun point) (step_bound Kind-as-Removal panel.k) e (omega arith) refl (λ steps answer. answered_removes (record { point = point; stage = RemovalStage-as-Searching Unread; steps = steps }) answer) refl refl (removal_begins panel slots point) (whole_removal_ends panel slots point) found.steps (removal_after found.steps None)
      (ap (λ (f : SearchEnd). f.steps) same) (ap (removal_after found.steps) (sym is) ∙ ap (λ (f : SearchEnd). removal_after f.steps f.answer) same) refl refl
