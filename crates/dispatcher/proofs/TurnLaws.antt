-- A turn, taken as the code takes it, is the turn; but for the place it leaves what the step of the party served leaves.
use Prim.Native.Nat.{ℕ, zero, suc, ◌+◌, ◌≤◌}
use mathlib.Core.Path.{◌≡◌, refl, sym, ap, subst, ◌∙◌}
use mathlib.Core.Bool.{Bool, true, false, cond}
use mathlib.Core.Logic.{◌⊎◌, inl, inr}
use mathlib.Core.List.{List}
use native.Mathlib.Omega.{arith}
use borrow.Author.Tests.{lt-ltb, le-ltb, ne_eqb, le-leb, not-true, not-false}
use lib.Dec.{eqb, ltb, leb}
use lib.ListN.{length}
use Rattle.std.specs.Prelude.{Result, Ok, Err}
use Rattle.std.specs.Result.{MatchResult, IsOkAnd}
use Rattle.conditions.specs.Conditions.{both}
use Rattle.conditions.proofs.ConditionLaws.{cond_holds}
use Rattle.refusal.specs.declared.Refusal.{Refusal}
use Rattle.refusal.specs.Judging.{refuse_if}
use Rattle.record.specs.declared.Record.{Record}
use Rattle.record.specs.declared.Lookup.{Lookup}
use Rattle.record.specs.declared.ReaderWork.{ReaderWork}
use Rattle.record.specs.declared.ReaderWork.TheVariants.{Idle, LookingUp, Walking}
use Rattle.record.specs.Parts.{work_of, with_work, with_readers, with_reach, with_counts, with_stations, with_writer, with_place, numbered_place}
use Rattle.record.specs.Idle.{is_reader_idle, is_writer_idle}
use Rattle.counting.specs.Steps.{reader_counted, steps_made}
use Rattle.record_ranges.specs.Ranges.{in_range}
use Rattle.record_ranges.proofs.Laws.{fields}
use Rattle.answers.specs.declared.StepResult.{StepResult}
use Rattle.answers.specs.declared.Served.{Served}
use Rattle.answers.proofs.AnswerLaws.{result_not_refused}
use Rattle.answers.specs.Answers.{served, is_refused, paper_result, paper_step, paper_served, paper_turn, Progress, continues, finishes, step_answer, Outcome, outcome, unless_refused}
use Rattle.search.specs.declared.Searched.{Searched}
use Rattle.search.specs.declared.Searched.TheVariants.{Going, Answered}
use Rattle.reader_step.specs.Reader.{ReaderEffect, lookup_effect, lookup_advance, walk_advance, reader_advance, work_refusal, step_refusal, work_runs, after_step, reader_runs, step_judged, step_reader}
use Rattle.reader_step.proofs.StepWork.{judged_first}
use Rattle.writer.specs.Step.{writer_access, writer_advance, after_step as writer_after_step, writer_runs, step_writer}
use Rattle.effects.specs.Memory.{slot_stored, access_read}
use Rattle.writer.specs.Work.{step_stored}
use Rattle.writer.proofs.StepInPlace.{step_in_place}
use Rattle.writer.proofs.WriterLaws.{counted_work, allowed}
use Rattle.circle.specs.Circle.{nobody, party_after, first_at_work, party_due, is_at_work, party_served}
use Rattle.dispatcher.specs.Turn.{turn_refusal, party_step, after_turn, take_turn}
use Rattle.dispatcher.specs.TurnFacts.{LeavesAsStep}
use Rattle.circle.specs.Marks.{marked_behind, is_marked, due_by, place_after}
use Rattle.dispatcher.specs.Due.{turn_answer, turned_by, writer_turn, reader_turn}
use Rattle.circle.proofs.CircleLaws.{same_party, Due, due_works, someone_due}
use Rattle.circle.proofs.MarksLaws.{marks_tell}

-- the place of an outcome's record replaced
abbrev placed_at : ℕ → Outcome → Outcome
placed_at place step = outcome (with_place step.panel place) step.slots step.answer

-- no step looks at the place
module _ (panel : Record) (slots : List ℕ) (place : ℕ) where
  reader_by_number : (reader n : ℕ) → unless_refused n (outcome (with_place panel place) slots) (reader_runs (with_place panel place) slots reader (work_of panel reader)) ≡ placed_at place (unless_refused n (outcome panel slots) (reader_runs panel slots reader (work_of panel reader)))
  unfolding unless_refused reader_runs after_step with_work with_readers with_place
  reader_by_number reader zero = refl
  reader_by_number reader (suc n) = refl

  reader_placed : (fits : Bool) (reader : ℕ) → step_judged fits (with_place panel place) slots reader ≡ placed_at place (step_judged fits panel slots reader)
  unfolding step_judged work_of with_place
  reader_placed fits reader = reader_by_number reader (work_refusal fits reader (work_of panel reader))

  writer_placed : (fits : Bool) → step_stored fits (with_place panel place) slots ≡ placed_at place (step_stored fits panel slots)
  unfolding step_stored with_place with_reach with_counts with_stations with_writer
  writer_placed fits = refl

-- a step that is carried out is no refusal
lookup_given : (lookup : Lookup) (after : Searched) → is_refused (lookup_effect lookup after).answer ≡ false
unfolding lookup_effect
lookup_given lookup (Going search) = refl
lookup_given lookup (Answered answer) = refl

advance_given : (m reach : ℕ) (work : ReaderWork) (word : ℕ) → is_refused (reader_advance m reach work word).answer ≡ false
unfolding reader_advance lookup_advance walk_advance
advance_given m reach Idle word = refl
advance_given m reach (LookingUp lookup) word = lookup_given lookup _
advance_given m reach (Walking walk) word = cond_holds (λ (e : ReaderEffect). is_refused e.answer ≡ false) (ltb (walk.next + 1) m) _ _ (λ more. refl) (λ last. refl)

progress_given : (steps : ℕ) (progress : Progress) → is_refused (step_answer steps progress) ≡ false
progress_given steps continues = refl
progress_given steps (finishes ending) = refl

-- of a record in range
module _ (panel : Record) (slots : List ℕ) (fits : in_range (length slots) panel ≡ true) where
  reader_given : (reader : ℕ) → reader ≤ 15 → is_reader_idle (work_of panel reader) ≡ false → is_refused (step_reader panel slots reader).answer ≡ false
  unfolding step_reader step_refusal work_refusal refuse_if unless_refused reader_runs after_step work_runs
  reader_given reader low busy = rw (fits, le-ltb 15 reader low, busy) (advance_given panel.m panel.reach (reader_counted panel.k (work_of panel reader)) _)

  writer_given : is_writer_idle panel.writer.work ≡ false → is_refused (step_writer panel slots).answer ≡ false
  unfolding writer_runs writer_after_step
  writer_given busy =
      let access = writer_access panel (counted_work panel) in
      ap (λ (o : Outcome). is_refused o.answer) (allowed panel slots fits busy)
      ∙ progress_given (steps_made (counted_work panel)) (writer_advance panel (counted_work panel) (slot_stored access) (access_read slots access)).progress

  -- nobody is due only if nobody is at work
  all_idle : party_served panel ≡ nobody → (party : ℕ) → party ≤ 16 → is_at_work panel party ≡ false
  unfolding party_served
  all_idle none party low = go (is_at_work panel party) refl
    where
      go : (b : Bool) → is_at_work panel party ≡ b → b ≡ false
      go true e = absurd (omega (arith, (someone_due (is_at_work panel) panel.place party (fields (length slots) panel fits).place_fits low e).is_due.low))
      go false e = refl

-- what a turn answers, by what the step gave
pub turn_answered :
    (due : ℕ) (answer : Result StepResult Refusal) (turned : Result Served Refusal)
    → MatchResult answer (λ result. IsOkAnd turned (λ given. given ≡ record { party = due; result = result })) (λ r. turned ≡ Err r)
    → paper_turn turned ≡ turn_answer due (paper_step answer)
unfolding turn_answer
turn_answered due (Ok result) (Ok given) e =
    ap paper_served e ∙ sym (ap (λ (b : Bool). cond b (paper_result result) (served due (paper_result result))) (result_not_refused result))
turn_answered due (Ok result) (Err r) e = absurd e
turn_answered due (Err r) turned e = ap paper_turn e

due_fitting : (panel : Record) → panel.place ≤ 16 → length panel.readers ≡ 16 → cond (both true (leb panel.place 16)) (first_at_work (is_marked panel.writer.work (marked_behind 0 panel.readers)) 17 panel.place) 18 ≡ first_at_work (is_at_work panel) 17 panel.place
unfolding both
due_fitting panel low all = rw (le-leb panel.place 16 low) (same_party _ (is_at_work panel) (marks_tell panel all) 17 panel.place low)

due_misfit : (panel : Record) → cond (both false (leb panel.place 16)) (first_at_work (is_marked panel.writer.work (marked_behind 0 panel.readers)) 17 panel.place) 18 ≡ 18
unfolding both
due_misfit panel = refl

-- the party due to a turn, and 18 of a record out of range
unfoldable pub due_on : ℕ → Record → ℕ
due_on lent panel = due_by (in_range lent panel) panel.place panel.writer.work (marked_behind 0 panel.readers)

-- by the marks it is the party that the turn serves
due_is : (lent : ℕ) (panel : Record) → length panel.readers ≡ 16 → due_on lent panel ≡ cond (in_range lent panel) (party_served panel) 18
unfolding due_on due_by party_served party_due
due_is lent panel all = go (in_range lent panel) refl
  where
    go : (b : Bool) → in_range lent panel ≡ b → cond (both b (leb panel.place 16)) (first_at_work (is_marked panel.writer.work (marked_behind 0 panel.readers)) 17 panel.place) 18 ≡ cond b (first_at_work (is_at_work panel) 17 panel.place) 18
    go true fits = due_fitting panel (fields lent panel fits).place_fits all
    go false fits = due_misfit panel

module _ (panel : Record) (slots : List ℕ) where
  -- a turn that is carried out is the party's step, with the place behind the party
  served_turn : in_range (length slots) panel ≡ true → (party : ℕ) → party_served panel ≡ party → party ≤ 16 → take_turn panel slots ≡ after_turn party (party_step panel slots party)
  unfolding take_turn turn_refusal refuse_if unless_refused
  served_turn fits party is low = rw (fits, is, ne_eqb party nobody (omega arith))

  given_turn : (party : ℕ) (step : Outcome) → is_refused step.answer ≡ false → turned_by party (placed_at (party_after party) step) ≡ after_turn party step
  unfolding after_turn turn_answer
  given_turn party step given = ap (λ (b : Bool). outcome (with_place step.panel (party_after party)) step.slots (cond b step.answer (served party step.answer))) given

  writer_is_turn : in_range (length slots) panel ≡ true → party_served panel ≡ 0 → is_at_work panel 0 ≡ true → writer_turn panel slots ≡ take_turn panel slots
  unfolding writer_turn is_at_work party_step party_after
  writer_is_turn fits is works =
      ap (turned_by 0) (writer_placed panel slots 1 true ∙ ap (placed_at 1) (ap (λ (b : Bool). step_stored b panel slots) (sym fits) ∙ step_in_place panel slots))
      ∙ given_turn 0 (step_writer panel slots) (writer_given panel slots fits (not-true _ works))
      ∙ sym (served_turn fits 0 is (omega arith))

  reader_is_turn : in_range (length slots) panel ≡ true → (reader : ℕ) → party_served panel ≡ suc reader → suc reader ≤ 16 → is_at_work panel (suc reader) ≡ true → reader_turn (suc reader) panel slots ≡ take_turn panel slots
  unfolding reader_turn is_at_work party_step place_after numbered_place
  reader_is_turn fits reader is low works =
      rw (lt-ltb (suc reader) 18 (omega arith), lt-ltb (suc reader) 17 (omega arith), lt-ltb reader 16 (omega arith))
      (ap (turned_by (suc reader)) (reader_placed panel slots (party_after (suc reader)) true reader ∙ ap (placed_at (party_after (suc reader))) (ap (λ (b : Bool). step_judged b panel slots reader) (sym fits) ∙ judged_first panel slots reader))
      ∙ given_turn (suc reader) (step_reader panel slots reader) (reader_given panel slots fits reader (omega arith) (not-true _ works))
      ∙ sym (served_turn fits (suc reader) is low))

  nobody_is_turn : in_range (length slots) panel ≡ true → party_served panel ≡ nobody → reader_turn nobody panel slots ≡ take_turn panel slots
  unfolding reader_turn place_after numbered_place step_judged work_refusal take_turn turn_refusal refuse_if unless_refused turn_answer with_place work_of is_at_work
  nobody_is_turn fits is =
      let first-idle : is_reader_idle (work_of panel 0) ≡ true = not-false _ (all_idle panel slots fits is 1 (omega arith)) in rw (fits, is, first-idle)

  misfit_is_turn : in_range (length slots) panel ≡ false → reader_turn 18 panel slots ≡ take_turn panel slots
  unfolding reader_turn place_after numbered_place step_judged work_refusal take_turn turn_refusal refuse_if unless_refused turn_answer with_place
  misfit_is_turn fits = rw fits

  -- of a record in range nobody is due, or a party that has work
  pub someone_or_nobody : in_range (length slots) panel ≡ true → (party_served panel ≡ nobody) ⊎ Due (is_at_work panel) (party_served panel)
  unfolding party_served party_due
  someone_or_nobody fits = due_works (is_at_work panel) 17 panel.place (fields (length slots) panel fits).place_fits

  -- the turn by the party due, as the code takes it
  pub turn_by_due : length panel.readers ≡ 16 → (due : ℕ) → due_on (length slots) panel ≡ due → cond (eqb due 0) (writer_turn panel slots) (reader_turn due panel slots) ≡ take_turn panel slots
  turn_by_due all due is = go (in_range (length slots) panel) refl due (sym (due_is (length slots) panel all) ∙ is)
    where
      by_party : in_range (length slots) panel ≡ true → (due : ℕ) → party_served panel ≡ due → (due ≡ nobody) ⊎ Due (is_at_work panel) due → cond (eqb due 0) (writer_turn panel slots) (reader_turn due panel slots) ≡ take_turn panel slots
      by_party fits zero e (inl none) = absurd (omega arith)
      by_party fits zero e (inr d) = writer_is_turn fits e d.has_some_work
      by_party fits (suc reader) e (inl none) = rw (ne_eqb (suc reader) 0 (omega arith)) (ap (λ (d : ℕ). reader_turn d panel slots) none ∙ nobody_is_turn fits (e ∙ none))
      by_party fits (suc reader) e (inr d) = rw (ne_eqb (suc reader) 0 (omega arith)) (reader_is_turn fits reader e d.low d.has_some_work)

      go : (b : Bool) → in_range (length slots) panel ≡ b → (due : ℕ) → cond b (party_served panel) 18 ≡ due → cond (eqb due 0) (writer_turn panel slots) (reader_turn due panel slots) ≡ take_turn panel slots
      go true fits due e = by_party fits due e (subst (λ (d : ℕ). (d ≡ nobody) ⊎ Due (is_at_work panel) d) e (someone_or_nobody fits))
      go false fits due e = ap (λ (d : ℕ). cond (eqb d 0) (writer_turn panel slots) (reader_turn d panel slots)) (sym e) ∙ misfit_is_turn fits

  -- but for the place, a turn leaves what the step of the party served leaves
  pub leaves_as_step : turn_refusal (length slots) panel ≡ 0 → LeavesAsStep (party_served panel) (take_turn panel slots) (party_step panel slots (party_served panel))
  unfolding take_turn after_turn unless_refused with_place
  leaves_as_step carried =
      rw carried (record { record_but_place = λ place. refl; place_moves = refl; same_slots = refl; hands_back = refl })
