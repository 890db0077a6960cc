-- A reader's call by what it needs is the call on the whole record: of the reader's work, and in the place of that work.
use Prim.Native.Nat.{ℕ, zero, suc}
use mathlib.Core.Path.{◌≡◌, refl, ◌∙◌, sym, ap}
use mathlib.Core.Bool.{Bool, true, false, not}
use mathlib.Core.List.{List}
use lib.Dec.{ltb}
use lib.ListN.{get_or, set, length}
use Rattle.std.specs.Prelude.{Result, Ok, Err, ⊤}
use Rattle.std.specs.Result.{MatchResult, IsOkAnd}
use Rattle.refusal.specs.declared.Refusal.{Refusal}
use Rattle.refusal.specs.Refusals.{paper_judged}
use Rattle.refusal.specs.Judging.{refuse_if}
use Rattle.record.specs.declared.Reader.{Reader}
use Rattle.record.specs.declared.Record.{Record}
use Rattle.record.specs.declared.ReaderWork.{ReaderWork}
use Rattle.record.specs.Parts.{idle_reader, reader_with, work_of, with_readers, with_work, reader_place}
use Rattle.record.specs.Idle.{is_reader_idle}
use Rattle.record.proofs.WorkLaws.{same_work, reader_place_known}
use Rattle.record_ranges.specs.Ranges.{in_range}
use Rattle.answers.specs.Answers.{Answer, Outcome, outcome, refused, unless_refused}
use Rattle.answers.proofs.AnswerLaws.{refused_call, allowed_call}
use Rattle.reader_step.specs.declared.Effect.{Effect}
use Rattle.counting.specs.Steps.{reader_counted}
use Rattle.reader_step.specs.Reader.{ReaderEffect, effect_of, reader_left, paper_after, work_refusal, step_refusal, work_runs, step_work, after_step, reader_runs, step_judged, step_reader}

-- a reader's call by its verdict: refused, or carried out
pub by_verdict :
    {A : Type 0} (paper : A → Answer) (found : Reader) (done : ReaderEffect)
    (judged : Result ⊤ Refusal) (made : Result (Effect A) Refusal)
    → MatchResult judged (λ _. IsOkAnd made (λ effect. effect_of effect.work (paper effect.result) ≡ done)) (λ r. made ≡ Err r)
    → paper_after paper (reader_left found made) ≡ unless_refused (paper_judged judged) (effect_of found.work) done
by_verdict paper found done (Ok _) (Ok effect) given = given ∙ sym (allowed_call (effect_of found.work) done)
by_verdict paper found done (Ok _) (Err r) given = absurd given
by_verdict {A = A} paper found done (Err r) made left =
    ap (λ (m : Result (Effect A) Refusal). paper_after paper (reader_left found m)) left
    ∙ sym (refused_call (effect_of found.work) done r)

module _ (panel : Record) (slots : List ℕ) (reader : ℕ) where
  -- a refused call leaves the work, and so the record
  pub by_work : (n : ℕ) (effect : ReaderEffect) → after_step panel slots reader (unless_refused n (effect_of (work_of panel reader)) effect) ≡ unless_refused n (outcome panel slots) (after_step panel slots reader effect)
  unfolding after_step unless_refused
  by_work zero effect = refl
  by_work (suc n) effect = ap (λ (p : Record). outcome p slots (refused (suc n))) (same_work panel reader (work_of panel reader) refl)

  pub step_by_work : (fits : Bool) → after_step panel slots reader (step_work fits reader panel.m panel.k panel.reach (work_of panel reader) slots) ≡ step_judged fits panel slots reader
  unfolding step_work step_judged reader_runs
  step_by_work fits = by_work _ _

  -- a reader's step judges the record first
  pub judged_first : step_judged (in_range (length slots) panel) panel slots reader ≡ step_reader panel slots reader
  unfolding step_judged step_reader step_refusal
  judged_first = refl

-- A reader's call on the work found at the reader's place, and what it makes of it put there. Above 15 that place is another reader's; there the call is
-- refused, whatever is judged later, and so leaves that reader's work.
module _ (panel : Record) (slots : List ℕ) (reader : ℕ) (later : ReaderWork → ℕ) (effect : ReaderWork → ReaderEffect) where
  abbrev refusal_of : Bool → Bool → ReaderWork → ℕ
  refusal_of fits above work = refuse_if (not fits) 1 (refuse_if above 3 (later work))

  abbrev done : Bool → Bool → ℕ → Outcome
  done fits above at = unless_refused (refusal_of fits above (work_of panel at)) (outcome panel slots) (after_step panel slots at (effect (work_of panel at)))

  same_place : (above fits : Bool) → ltb 15 reader ≡ above → done fits above (reader_place reader) ≡ done fits above reader
  unfolding refuse_if unless_refused
  same_place true true e = refl
  same_place true false e = refl
  same_place false fits e = ap (done fits false) (reader_place_known reader e)

  pub in_place :
      (fits : Bool)
      → let work = (get_or panel.readers (reader_place reader) idle_reader).work in
      let e = unless_refused (refusal_of fits (ltb 15 reader) work) (effect_of work) (effect work) in
      outcome (with_readers panel (set panel.readers (reader_place reader) (reader_with e.work))) slots e.answer
      ≡ done fits (ltb 15 reader) reader
  unfolding after_step with_work work_of
  in_place fits = by_work panel slots (reader_place reader) _ _ ∙ same_place (ltb 15 reader) fits refl

pub step_in_place :
    (panel : Record) (slots : List ℕ) (reader : ℕ)
    → let e = step_work (in_range (length slots) panel) reader panel.m panel.k panel.reach (get_or panel.readers (reader_place reader) idle_reader).work slots in
    outcome (with_readers panel (set panel.readers (reader_place reader) (reader_with e.work))) slots e.answer ≡ step_reader panel slots reader
unfolding step_work step_reader step_refusal work_refusal reader_runs
step_in_place panel slots reader =
    in_place panel slots reader (λ (work : ReaderWork). refuse_if (is_reader_idle work) 5 0)
    (λ (work : ReaderWork). work_runs panel.m panel.reach (reader_counted panel.k work) slots)
    (in_range (length slots) panel)
