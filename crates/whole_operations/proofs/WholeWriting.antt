-- A whole operation of the writer from what its loop gives: refused, or stepped to its end, where the writer is as idle as it was before.
use Prim.Native.Nat.{ℕ, ◌≤◌}
use mathlib.Core.Path.{◌≡◌, refl, ap, ◌∙◌, sym, subst}
use mathlib.Core.Bool.{true, false, not, false≢true}
use mathlib.Core.List.{List}
use native.Mathlib.Omega.{arith}
use borrow.Author.Tests.{not-false}
use lib.ListN.{length}
use Rattle.refusal.specs.declared.Refusal.{Refusal}
use Rattle.refusal.specs.Refusals.{number_of}
use Rattle.refusal.proofs.Laws.{not_refused}
use Rattle.record.specs.declared.Record.{Record}
use Rattle.record.specs.declared.WriterWork.{WriterWork}
use Rattle.record.specs.declared.WriterWork.TheVariants.{Idle, Putting, Changing, Removing}
use Rattle.record.specs.Parts.{with_writer}
use Rattle.slot_words.specs.Points.{valid_point}
use Rattle.record_ranges.specs.Ranges.{in_range}
use Rattle.record_ranges.proofs.Laws.{reach_high}
use Rattle.answers.specs.Answers.{Answer, started, underway, refused, is_underway, Outcome, outcome, unless_refused}
use Rattle.answers.proofs.AnswerLaws.{refused_call, allowed_call}
use Rattle.record.specs.Idle.{is_writer_idle}
use Rattle.writer.specs.Starts.{work_start_refusal, start_refusal, start_writer}
use Rattle.writer.specs.WriterFacts.{Begun}
use Rattle.writer.proofs.WriterLaws.{AtWork}
use Rattle.whole_operations.specs.Whole.{until_ended, writer_step}
use Rattle.whole_operations.proofs.WholeLaws.{has_ended, same_step}

idle_work : (work : WriterWork) → is_writer_idle work ≡ true → work ≡ Idle
idle_work Idle e = refl
idle_work (Putting put) e = absurd (false≢true e)
idle_work (Changing change) e = absurd (false≢true e)
idle_work (Removing removal) e = absurd (false≢true e)

module _ (panel : Record) (slots : List ℕ) (point : ℕ) (work : WriterWork) (budget : ℕ) where
  begun : Outcome
  begun = outcome (with_writer panel work) slots started

  pub run_refused : (refusal : Refusal) → start_refusal (length slots) panel point ≡ number_of refusal → outcome panel slots (refused (number_of refusal)) ≡ until_ended writer_step budget (start_writer panel slots point work)
  unfolding start_writer begun
  run_refused refusal e =
      let stopped = ap (λ (n : ℕ). unless_refused n (outcome panel slots) begun) e ∙ refused_call (outcome panel slots) begun refusal in
      sym (has_ended writer_step budget (outcome panel slots (refused (number_of refusal))) refl) ∙ ap (until_ended writer_step budget) (sym stopped)

  module _ (e : start_refusal (length slots) panel point ≡ 0) where
    allowed : start_writer panel slots point work ≡ begun
    unfolding start_writer begun
    allowed = ap (λ (n : ℕ). unless_refused n (outcome panel slots) begun) e ∙ allowed_call (outcome panel slots) begun

    judged : (in_range (length slots) panel ≡ true) × (panel.writer.work ≡ Idle)
    unfolding start_refusal work_start_refusal
    judged =
        let after-1 = not_refused (not (in_range (length slots) panel)) 1 _ (omega arith) e in
        let after-2 = not_refused (not (valid_point point)) 2 _ (omega arith) after-1.1 in
        let after-4 = not_refused (not (is_writer_idle panel.writer.work)) 4 0 (omega arith) after-2.1 in (
          not-false (in_range (length slots) panel) after-1.0,
          idle_work panel.writer.work (not-false (is_writer_idle panel.writer.work) after-4.0),
        )

    pub reach_fits : panel.reach ≤ 64
    reach_fits = reach_high (length slots) panel judged.0

    pub begun_fits : Begun (start_writer panel slots point work) → in_range (length slots) (with_writer panel work) ≡ true
    unfolding begun
    begun_fits h = (subst Begun allowed h).fits refl

    pub begun_at_work : Begun (start_writer panel slots point work) → is_writer_idle work ≡ false → AtWork (outcome (with_writer panel work) slots underway)
    unfolding with_writer
    begun_at_work h working = record { fits = begun_fits h; busy = ap not (sym working) }

    -- whether the call before said "started" or "underway" makes no difference
    same_start : 1 ≤ budget → until_ended writer_step budget (outcome (with_writer panel work) slots underway) ≡ until_ended writer_step budget (start_writer panel slots point work)
    unfolding begun writer_step
    same_start h =
        same_step writer_step budget (outcome (with_writer panel work) slots underway) begun h refl refl refl
        ∙ ap (until_ended writer_step budget) (sym allowed)

    pub begun_ends : 1 ≤ budget → is_underway (until_ended writer_step budget (start_writer panel slots point work)).answer ≡ false → is_underway (until_ended writer_step budget (outcome (with_writer panel work) slots underway)).answer ≡ false
    begun_ends h ends = ap (λ (now : Outcome). is_underway now.answer) (same_start h) ∙ ends

    pub run_ended : (after : Record) (stored : List ℕ) (answer : Answer) → after.writer.work ≡ panel.writer.work → 1 ≤ budget → outcome (with_writer after Idle) stored answer ≡ until_ended writer_step budget (outcome (with_writer panel work) slots underway) → outcome after stored answer ≡ until_ended writer_step budget (start_writer panel slots point work)
    unfolding with_writer
    run_ended after stored answer same_writer h ran =
        ap (λ (w : WriterWork). outcome (with_writer after w) stored answer) (same_writer ∙ judged.1) ∙ ran ∙ same_start h
