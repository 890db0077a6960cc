-- The calls of readers keep the invariant and are answered right.
use Prim.Native.Nat.{ℕ, ◌≤◌, ◌<◌}
use mathlib.Core.Bool.{Bool, true, false, cond, not, false≢true}
use mathlib.Core.Path.{◌≡◌, refl, sym, ap, subst, ◌∙◌}
use mathlib.Core.List.{List}
use native.Mathlib.Omega.{arith}
use borrow.Author.Tests.{eqb-true, eqb-false, eq-eqb, ltb-false, lt-ltb, not-false}
use lib.Dec.{eqb, ltb}
use lib.ListN.{length, length-set}
use Rattle.conditions.specs.Conditions.{both, either}
use Rattle.refusal.specs.Judging.{refuse_if}
use Rattle.refusal.proofs.Laws.{not_refused}
use Rattle.record.specs.declared.Record.{Record}
use Rattle.record.specs.declared.ReaderWork.{ReaderWork}
use Rattle.record.specs.declared.ReaderWork.TheVariants.{Idle, LookingUp, Walking}
use Rattle.record.specs.Parts.{work_of, with_work, with_readers}
use Rattle.record.proofs.WorkLaws.{work_replaced, others_stay}
use Rattle.record.specs.Idle.{is_reader_idle}
use Rattle.slot_words.specs.Points.{valid_point}
use Rattle.work_ranges.specs.WorkRanges.{work_in_range}
use Rattle.record_ranges.specs.Ranges.{in_range}
use Rattle.record_ranges.proofs.Laws.{fields, sizes_in_range_lem, work_in_range_lem, with_work_in_range}
use Rattle.answers.specs.Answers.{started, has_ended, is_refused, outcome}
use Rattle.counting.specs.Steps.{reader_counted}
use Rattle.search.proofs.SearchLaws.{search_left}
use Rattle.reader_step.specs.Reader.{ReaderEffect, work_runs, after_step, reader_runs, work_refusal, step_refusal, step_reader}
use Rattle.reader_starts.specs.Starts.{new_lookup, new_walk, lookup_work_refusal, lookup_refusal, walk_work_refusal, walk_refusal, start_reader, start_lookup, start_walk}
use Rattle.reader_starts.proofs.ReaderLaws.{steps_on, begun_fits}
use Rattle.calls.specs.declared.Call.TheVariants.{StartLookup, StartWalk, StepReader}
use Rattle.history.specs.Log.{Reading, idle, looking_up, walking, reader_start, role_of, writing_after, reading_after, ended_now, place_moved, log_after}
use Rattle.history.specs.World.{ReaderNotes, no_reader_notes, TurnNotes, World, stores_now, ends_now, feeds_now, rows_now, writer_now, stepped_reader, witnessed, reader_now, noted}
use Rattle.history.specs.Claim.{refusal_due, ReaderRight}
use Rattle.history.proofs.Readers.{ReaderOK, reading_of, StepRight, reader_right}
use Rattle.history.proofs.Invariant.{Inv}
use Rattle.history.proofs.Kept.{Kept, Done, reader_is_idle, still, judged}

-- what holds of one reader's new work, and of the others' as it was, holds of each reader's
each_reader : (P : ℕ → ReaderWork → Type 0) (panel : Record) (reader : ℕ) (work : ReaderWork) → reader < length panel.readers → P reader work → ((n : ℕ) → eqb reader n ≡ false → P n (work_of panel n)) → (n : ℕ) → P n (work_of (with_work panel reader work) n)
each_reader P panel reader work inside own others n = go (eqb reader n) refl
  where
    go : (b : Bool) → eqb reader n ≡ b → P n (work_of (with_work panel reader work) n)
    go true e =
        subst (λ (x : ℕ). P x (work_of (with_work panel reader work) x)) (eqb-true reader n e)
        (subst (P reader) (sym (work_replaced panel reader work inside)) own)
    go false e = subst (P n) (sym (others_stay panel reader n work (λ same. eqb-false reader n e (sym same)))) (others n e)

idle_is : (work : ReaderWork) → is_reader_idle work ≡ true → work ≡ Idle
idle_is Idle e = refl
idle_is (LookingUp lookup) e = absurd (false≢true e)
idle_is (Walking walk) e = absurd (false≢true e)

module _ (world : World) (inv : Inv world.panel.m world.panel.k world) where
  abbrev m : ℕ
  m = world.panel.m

  abbrev k : ℕ
  k = world.panel.k

  abbrev panel : Record
  panel = world.panel

  abbrev slots : List ℕ
  slots = world.slots

  inside : (reader : ℕ) → reader ≤ 15 → reader < length panel.readers
  inside reader low = omega (arith, inv.all_readers)

  -- a reader's work replaced in its place, with what the log and the notes then say of the readers
  replaced_inv : (reader : ℕ) (work : ReaderWork) (readings : ℕ → Reading) (notes : ℕ → ReaderNotes) (turns : ℕ → TurnNotes) (place : ℕ) → place ≡ panel.place → in_range (length slots) (with_work panel reader work) ≡ true → ((n : ℕ) → readings n ≡ reading_of (work_of (with_work panel reader work) n)) → ((n : ℕ) → ReaderOK m k world.rows (notes n) (work_of (with_work panel reader work) n)) → Inv m k (record { panel = with_work panel reader work; slots = slots; log = record { writer = world.log.writer; readers = readings; ended = world.log.ended; place = place }; rows = world.rows; writer = world.writer; readers = notes; turns = turns; acts = world.acts })
  unfolding with_work with_readers
  replaced_inv reader work readings notes turns place at fits reading noted_ok =
      record {
        m_is = refl;
        k_is = refl;
        fits = fits;
        all_readers = length-set panel.readers reader (record { work = work }) ∙ inv.all_readers;
        agrees = inv.agrees;
        work = inv.work;
        writer = inv.writer;
        counted = inv.counted;
        reading = reading;
        readers = noted_ok;
        commands = inv.commands;
        place = at;
      }

  -- a start: of an idle reader nothing is noted, and so of its work before the first step
  start_inv : (reader : ℕ) (begun : Reading) (work : ReaderWork) → reader ≤ 15 → is_reader_idle (work_of panel reader) ≡ true → work_in_range m k work ≡ true → begun ≡ reading_of work → ReaderOK m k world.rows no_reader_notes work → Inv m k (noted world (reader_start reader begun) (outcome (with_work panel reader work) slots started))
  unfolding noted rows_now feeds_now stores_now ends_now writer_now reader_now log_after writing_after reading_after ended_now either both
  start_inv reader begun work low free ranged same own =
      replaced_inv reader work _ _ _ _ inv.place (with_work_in_range (length slots) panel inv.fits reader work ranged)
      (each_reader (λ (n : ℕ) (w : ReaderWork). cond (eqb reader n) begun (world.log.readers n) ≡ reading_of w) panel reader work (inside reader low) (rw (eq-eqb reader reader refl) same)
      (λ n e. rw e (inv.reading n)))
      (each_reader (λ (n : ℕ) (w : ReaderWork). ReaderOK m k world.rows (witnessed (world.readers n) world.rows) w) panel reader work (inside reader low) (subst (λ (notes : ReaderNotes). ReaderOK m k world.rows notes work) (sym nothing_noted) own)
      (λ n e. still world inv n))
    where
      nothing_noted : witnessed (world.readers reader) world.rows ≡ no_reader_notes
      nothing_noted = subst (λ (w : ReaderWork). ReaderOK m k world.rows (witnessed (world.readers reader) world.rows) w) (idle_is (work_of panel reader) free) (still world inv reader)

  -- the start of a lookup
  lookup_due : (reader point : ℕ) (frame : List ℕ) → lookup_refusal (length slots) panel reader point ≡ refusal_due world.log (StartLookup reader point) frame
  unfolding lookup_refusal lookup_work_refusal refusal_due refuse_if
  lookup_due reader point frame = rw (inv.fits, reader_is_idle world inv reader)

  pub lookup_kept : (reader point : ℕ) (frame : List ℕ) → Kept world (StartLookup reader point) frame (start_lookup panel slots reader point)
  unfolding start_lookup start_reader lookup_refusal lookup_work_refusal role_of no_reader_notes search_left work_in_range
  lookup_kept reader point frame =
      judged world inv (StartLookup reader point) frame (lookup_refusal (length slots) panel reader point) _ (lookup_due reader point frame)
      (λ allowed.
      let a = not_refused (not (in_range (length slots) panel)) 1 _ (omega arith) allowed in
      let b = not_refused (ltb 15 reader) 3 _ (omega arith) a.1 in
      let c = not_refused (not (valid_point point)) 2 _ (omega arith) b.1 in
      let d = not_refused (not (is_reader_idle (work_of panel reader))) 4 0 (omega arith) c.1 in
      record {
        inv =
            start_inv reader (looking_up point) (new_lookup point) (ltb-false 15 reader b.0) (not-false _ d.0) (begun_fits k point (not-false _ c.0)) refl
            (record { trail = tt; first = tt; left = omega arith; counted = refl });
        carried_out = refl;
      })

  -- the start of a walk
  walk_due : (reader : ℕ) (frame : List ℕ) → walk_refusal (length slots) panel reader ≡ refusal_due world.log (StartWalk reader) frame
  unfolding walk_refusal walk_work_refusal refusal_due refuse_if
  walk_due reader frame = rw (inv.fits, reader_is_idle world inv reader)

  pub walk_kept : (reader : ℕ) (frame : List ℕ) → Kept world (StartWalk reader) frame (start_walk panel slots reader)
  unfolding start_walk start_reader walk_refusal walk_work_refusal role_of no_reader_notes work_in_range
  walk_kept reader frame =
      judged world inv (StartWalk reader) frame (walk_refusal (length slots) panel reader) _ (walk_due reader frame)
      (λ allowed.
      let a = not_refused (not (in_range (length slots) panel)) 1 _ (omega arith) allowed in
      let b = not_refused (ltb 15 reader) 3 _ (omega arith) a.1 in
      let d = not_refused (not (is_reader_idle (work_of panel reader))) 4 0 (omega arith) b.1 in
      record {
        inv =
            start_inv reader walking new_walk (ltb-false 15 reader b.0) (not-false _ d.0)
            (lt-ltb 0 panel.m (omega (arith, (sizes_in_range_lem (length slots) panel inv.fits).m_low)))
            refl
            (record { steps = refl; first = λ z. refl; passed = λ some. absurd (omega arith) });
        carried_out = refl;
      })

  -- a reader's own step
  module _ (reader : ℕ) (low : reader ≤ 15) (busy : is_reader_idle (work_of panel reader) ≡ false) where
    abbrev work : ReaderWork
    work = work_of panel reader

    abbrev effect : ReaderEffect
    effect = work_runs m panel.reach (reader_counted k work) slots

    right_step : StepRight m k slots world.rows (world.readers reader) work effect
    right_step =
        reader_right m k panel.reach panel.counts slots world.rows inv.agrees (world.readers reader) work
        (work_in_range_lem (length slots) panel reader inv.fits) busy (inv.readers reader)

    effect_fits : in_range (length slots) (with_work panel reader effect.work) ≡ true
    unfolding work_runs
    effect_fits =
        with_work_in_range (length slots) panel inv.fits reader effect.work
        (steps_on m k panel.reach work _ inv.agrees.few_indices (fields (length slots) panel inv.fits).reach_fits (work_in_range_lem (length slots) panel reader inv.fits)).is_in_range

    -- what the log and the notes say of the readers, by whether the step was refused and whether it ended the operation
    abbrev readings_by : Bool → ℕ → Reading
    readings_by over n = cond (both over (eqb reader n)) idle (world.log.readers n)

    abbrev notes_by : Bool → Bool → ℕ → ReaderNotes
    notes_by gone over n =
        cond (both (not gone) (eqb reader n)) (cond over no_reader_notes (stepped_reader (world.readers n) effect.answer world.rows))
        (witnessed (world.readers n) world.rows)

    reading_after_lem : (over : Bool) → cond over idle (reading_of work) ≡ reading_of effect.work → (n : ℕ) → readings_by over n ≡ reading_of (work_of (with_work panel reader effect.work) n)
    unfolding both
    reading_after_lem true e =
        each_reader (λ (n : ℕ) (w : ReaderWork). readings_by true n ≡ reading_of w) panel reader effect.work (inside reader low) (rw (eq-eqb reader reader refl) e)
        (λ n other. rw other (inv.reading n))
    reading_after_lem false e =
        each_reader (λ (n : ℕ) (w : ReaderWork). readings_by false n ≡ reading_of w) panel reader effect.work (inside reader low) (inv.reading reader ∙ e)
        (λ n other. inv.reading n)

    notes_after : (gone : Bool) → gone ≡ false → (n : ℕ) → ReaderOK m k world.rows (notes_by gone (has_ended effect.answer) n) (work_of (with_work panel reader effect.work) n)
    unfolding both
    notes_after gone e =
        rw e
        (each_reader (λ (n : ℕ) (w : ReaderWork). ReaderOK m k world.rows (notes_by false (has_ended effect.answer) n) w) panel reader effect.work (inside reader low)
        (rw (eq-eqb reader reader refl) right_step.ok) (λ n other. rw other (still world inv n)))

    run_done : (frame : List ℕ) → Done world (StepReader reader) frame (reader_runs panel slots reader work)
    unfolding reader_runs after_step role_of noted rows_now feeds_now stores_now ends_now writer_now reader_now log_after writing_after reading_after ended_now either both
    run_done frame =
        record {
          inv =
              replaced_inv reader effect.work (readings_by (has_ended effect.answer)) (notes_by (is_refused effect.answer) (has_ended effect.answer)) _ _ (ap (place_moved world.log.place) right_step.direct ∙ inv.place) effect_fits
              (reading_after_lem (has_ended effect.answer) right_step.reading)
              (notes_after (is_refused effect.answer) right_step.carried);
          carried_out =
              subst (λ (reading : Reading). ReaderRight m k slots world.rows (stepped_reader (world.readers reader) effect.answer world.rows) reading effect.answer)
              (sym (inv.reading reader))
              right_step.right;
        }

  step_due : (reader : ℕ) (frame : List ℕ) → step_refusal (length slots) panel reader ≡ refusal_due world.log (StepReader reader) frame
  unfolding step_refusal work_refusal refusal_due refuse_if
  step_due reader frame = rw (inv.fits, reader_is_idle world inv reader)

  pub step_kept : (reader : ℕ) (frame : List ℕ) → Kept world (StepReader reader) frame (step_reader panel slots reader)
  unfolding step_reader step_refusal work_refusal
  step_kept reader frame =
      judged world inv (StepReader reader) frame (step_refusal (length slots) panel reader) _ (step_due reader frame)
      (λ allowed.
      let a = not_refused (not (in_range (length slots) panel)) 1 _ (omega arith) allowed in
      let b = not_refused (ltb 15 reader) 3 _ (omega arith) a.1 in
      let c = not_refused (is_reader_idle (work_of panel reader)) 5 0 (omega arith) b.1 in
      run_done reader (ltb-false 15 reader b.0) c.0 frame)
