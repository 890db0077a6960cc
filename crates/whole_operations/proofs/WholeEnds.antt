-- Whole puts and removals end: their bounds of steps suffice, on every record.
use Prim.Native.Nat.{ℕ, zero, suc, ◌+◌, ◌≤◌}
use mathlib.Core.Path.{◌≡◌, refl, ap, sym, transport}
use mathlib.Core.Bool.{true, false, not}
use mathlib.Core.List.{List}
use native.Mathlib.Omega.{arith}
use lib.ListN.{length}
use Rattle.record.specs.declared.Record.{Record}
use Rattle.record.specs.declared.WriterWork.{WriterWork}
use Rattle.record.specs.Parts.{with_writer}
use Rattle.counting.specs.declared.steps.OperationKind.TheVariants.{Put, Removal}
use Rattle.counting.specs.Steps.{step_bound}
use Rattle.answers.specs.Answers.{started, refused, is_underway, Outcome, outcome, unless_refused}
use Rattle.whole_operations.specs.Whole.{until_ended, writer_step, whole_put, whole_removal}
use Rattle.search.proofs.SearchLaws.{search_left}
use Rattle.whole_operations.proofs.WholeLaws.{budget_suffices, has_ended}
use Rattle.record.specs.Idle.{is_writer_idle}
use Rattle.effects.proofs.EffectLaws.{put_search_left, put_left, removal_left, writer_left}
use Rattle.writer.specs.Starts.{start_refusal, start_writer, put_begun, removal_begun, start_put, start_removal}
use Rattle.writer.specs.WriterFacts.{Begun}
use Rattle.writer.proofs.WriterLaws.{AtWork, works, allowed, run_at_work, run_less, put_begins, removal_begins}

-- the steps that are left, at most
left : Outcome → ℕ
left now = writer_left now.panel.k now.panel.reach now.panel.writer.work

takes_one : (now : Outcome) → AtWork now → is_underway now.answer ≡ true → AtWork (writer_step now) × (left (writer_step now) + 1 ≤ left now)
unfolding writer_step left
takes_one now p e =
    let working = works now p e in
    let same = sym (allowed now.panel now.slots p.fits working) in (
      transport (λ j. AtWork (same j)) (run_at_work now.panel now.slots p.fits working),
      transport (λ j. left (same j) + 1 ≤ left now) (run_less now.panel now.slots p.fits working),
    )

pub stays_at_work : (now : Outcome) → AtWork now → is_underway now.answer ≡ true → AtWork (writer_step now)
stays_at_work now p e = (takes_one now p e).0

-- an operation with as many steps as its budget
module _ (panel : Record) (slots : List ℕ) (point budget : ℕ) (work : WriterWork) (enough : writer_left panel.k panel.reach work ≤ budget) (working : is_writer_idle work ≡ false) where
  ends_by : (n : ℕ) → Begun (unless_refused n (outcome panel slots) (outcome (with_writer panel work) slots started)) → is_underway (until_ended writer_step budget (unless_refused n (outcome panel slots) (outcome (with_writer panel work) slots started))).answer ≡ false
  unfolding unless_refused with_writer left
  ends_by zero begun =
      budget_suffices writer_step AtWork left takes_one budget (outcome (with_writer panel work) slots started)
      (record { fits = begun.fits refl; busy = ap not (sym working) }) enough
  ends_by (suc n) begun = ap (λ (after : Outcome). is_underway after.answer) (has_ended writer_step budget (outcome panel slots (refused (suc n))) refl)

  ends : Begun (start_writer panel slots point work) → is_underway (until_ended writer_step budget (start_writer panel slots point work)).answer ≡ false
  unfolding start_writer
  ends begun = ends_by (start_refusal (length slots) panel point) begun

module _ (panel : Record) (slots : List ℕ) (point : ℕ) where
  pub whole_put_ends : (value : ℕ) → is_underway (whole_put panel slots point value).answer ≡ false
  unfolding whole_put start_put writer_left put_left put_search_left
  whole_put_ends value =
      ends panel slots point (step_bound Put panel.k) (put_begun point value) (omega arith) refl
      (put_begins panel slots point value)

  pub whole_removal_ends : is_underway (whole_removal panel slots point).answer ≡ false
  unfolding whole_removal start_removal writer_left removal_left search_left
  whole_removal_ends =
      ends panel slots point (step_bound Removal panel.k) (removal_begun point) (omega arith) refl
      (removal_begins panel slots point)
