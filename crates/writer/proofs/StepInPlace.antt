-- What the step hands back, stored in the record, makes of it what the step makes of the record.
use Prim.Native.Nat.{ℕ, zero, suc}
use mathlib.Core.Path.{◌≡◌, refl, ap}
use mathlib.Core.List.{List}
use lib.ListN.{length, get_or}
use Rattle.record.specs.declared.Record.{Record}
use Rattle.record.specs.Parts.{unheard_station, with_writer}
use Rattle.record_ranges.specs.Ranges.{in_range}
use Rattle.record_ranges.proofs.Laws.{sizes_in_range_lem}
use Rattle.counting.specs.Steps.{steps_made}
use Rattle.answers.specs.Answers.{refused, step_answer, outcome, unless_refused}
use Rattle.effects.specs.Memory.{slot_stored, access_read, slots_after}
use Rattle.effects.proofs.EffectLaws.{same_in_parts, updated_in_parts}
use Rattle.writer.specs.Step.{writer_access, writer_advance, step_refusal, after_step, writer_runs, step_writer}
use Rattle.writer.specs.Work.{WorkOutcome, work_left, after_access, work_runs, step_work, station_at, StepStores, stores, stored_in, step_stored}
use Rattle.writer.proofs.WriterLaws.{counted_work, at_work, run_update_fits}

module _ (panel : Record) (slots : List ℕ) where
  abbrev place : ℕ
  place = station_at panel.writer.work

  -- what the step hands back that comes to this
  abbrev hands_back : WorkOutcome → StepStores
  hands_back after = stores panel.m panel.reach panel.counts (get_or panel.stations place unheard_station) after

  by_number : (n : ℕ) → step_refusal (length slots) panel ≡ n → stored_in panel place (hands_back (unless_refused n (work_left panel.writer.work slots) (work_runs panel.m panel.k panel.reach panel.counts (counted_work panel) slots))) ≡ unless_refused n (outcome panel slots) (writer_runs panel slots (counted_work panel))
  unfolding unless_refused stores work_runs after_access writer_runs after_step with_writer
  by_number zero e =
      let w = at_work panel slots e in
      let access = writer_access panel (counted_work panel) in
      let effect = writer_advance panel (counted_work panel) (slot_stored access) (access_read slots access) in
      ap (λ (p : Record). outcome (with_writer p effect.work) (slots_after slots access) (step_answer (steps_made (counted_work panel)) effect.progress))
      (updated_in_parts panel place effect.update (sizes_in_range_lem (length slots) panel w.0).k_high (run_update_fits panel slots w.0 w.1))
  by_number (suc n) e = ap (λ (p : Record). outcome (with_writer p panel.writer.work) slots (refused (suc n))) (same_in_parts panel place)

  pub step_in_place : step_stored (in_range (length slots) panel) panel slots ≡ step_writer panel slots
  unfolding step_stored step_work step_writer step_refusal
  step_in_place = by_number (step_refusal (length slots) panel) refl
