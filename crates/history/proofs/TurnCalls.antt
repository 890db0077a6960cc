-- A turn keeps the invariant and is answered right: it serves the party whose turn it is by the log, and but for the place it is that party's step.
use Prim.Native.Nat.{ℕ, zero, suc, ◌≤◌}
use mathlib.Core.Bool.{true, false, not}
use mathlib.Core.Path.{◌≡◌, refl, sym, ap, subst, ◌∙◌}
use mathlib.Core.Logic.{◌⊎◌, inl, inr}
use mathlib.Core.List.{List}
use native.Mathlib.Omega.{arith}
use borrow.Author.Tests.{eqb-false, le-ltb, not-true}
use lib.Dec.{eqb}
use lib.ListN.{length}
use Rattle.conditions.specs.Conditions.{both, either}
use Rattle.refusal.specs.Judging.{refuse_if}
use Rattle.refusal.proofs.Laws.{not_refused}
use Rattle.record.specs.declared.Record.{Record}
use Rattle.record.specs.Parts.{work_of, with_place}
use Rattle.record_ranges.specs.Ranges.{in_range}
use Rattle.record_ranges.proofs.Laws.{fields, with_place_in_range}
use Rattle.answers.specs.Answers.{served, Outcome}
use Rattle.reader_step.specs.Reader.{step_reader}
use Rattle.writer.specs.Step.{step_writer}
use Rattle.circle.specs.Circle.{nobody, party_after, party_due, is_at_work, party_served}
use Rattle.dispatcher.specs.Turn.{turn_refusal, party_step, after_turn, take_turn}
use Rattle.circle.proofs.CircleLaws.{after_low, same_party, Due}
use Rattle.dispatcher.proofs.TurnLaws.{someone_or_nobody}
use Rattle.calls.specs.declared.Call.TheVariants.{StepReader, StepWriter, Turn}
use Rattle.history.specs.Log.{reader_step, writer_step, has_work, due_in, step_of, role_of, writing_after, reading_after, ended_by, ended_now, log_after, is_idle, is_nothing}
use Rattle.history.specs.World.{TurnNotes, World, stores_now, ends_now, feeds_now, rows_now, writer_stepped, writer_now, word_given, stepped_reader, reader_now, noted}
use Rattle.history.specs.Claim.{refusal_due, PartyRight, TurnRight, serves, AnsweredBy}
use Rattle.history.proofs.Invariant.{Inv}
use Rattle.history.proofs.Kept.{Kept, Done, reader_is_idle, writer_is_idle, judged}
use Rattle.history.proofs.ReaderCalls.{step_kept as reader-step-kept}
use Rattle.history.proofs.WriterSteps.{step_kept as writer-step-kept}

module _ (world : World) (inv : Inv world.panel.m world.panel.k world) where
  abbrev m : ℕ
  m = world.panel.m

  abbrev k : ℕ
  k = world.panel.k

  abbrev panel : Record
  panel = world.panel

  abbrev slots : List ℕ
  slots = world.slots

  -- who has work by the log has it in the record, so the party due is the same
  work_same : (party : ℕ) → party ≤ 16 → is_at_work panel party ≡ has_work world.log party
  unfolding is_at_work has_work
  work_same zero low = ap not (writer_is_idle world inv)
  work_same (suc reader) low = ap not (reader_is_idle world inv reader)

  place_low : panel.place ≤ 16
  place_low = (fields (length slots) panel inv.fits).place_fits

  due_same : party_served panel ≡ due_in world.log
  unfolding party_served due_in party_due
  due_same =
      same_party (is_at_work panel) (has_work world.log) work_same 17 panel.place place_low
      ∙ ap (party_due (has_work world.log)) (sym inv.place)

  -- "A turn tests 1, then gives 5"
  turn_due : (frame : List ℕ) → turn_refusal (length slots) panel ≡ refusal_due world.log Turn frame
  unfolding turn_refusal refusal_due refuse_if
  turn_due frame = rw (inv.fits, due_same)

  -- a world with another place, and with whatever is noted of the turns
  abbrev moved_to : World → ℕ → (ℕ → TurnNotes) → World
  moved_to w place turns =
      record {
        panel = with_place w.panel place;
        slots = w.slots;
        log = record { writer = w.log.writer; readers = w.log.readers; ended = w.log.ended; place = place };
        rows = w.rows;
        writer = w.writer;
        readers = w.readers;
        turns = turns;
        acts = w.acts;
      }

  moved_inv : (w : World) (place : ℕ) (turns : ℕ → TurnNotes) → place ≤ 16 → Inv m k w → Inv m k (moved_to w place turns)
  unfolding with_place work_of
  moved_inv w place turns low i =
      record {
        m_is = i.m_is;
        k_is = i.k_is;
        fits = with_place_in_range (length w.slots) w.panel i.fits place low;
        all_readers = i.all_readers;
        agrees = i.agrees;
        work = i.work;
        writer = i.writer;
        counted = i.counted;
        reading = i.reading;
        readers = i.readers;
        commands = i.commands;
        place = refl;
      }

  -- the world of a turn is that of the step, but for these
  module _ (step : Outcome) (party : ℕ) where
    writer_turn_inv : Inv m k (noted world writer_step step) → Inv m k (noted world writer_step (after_turn party step))
    unfolding noted rows_now feeds_now stores_now ends_now writer_stepped writer_now reader_now log_after writing_after reading_after ended_by ended_now after_turn
    writer_turn_inv i = moved_inv (noted world writer_step step) (party_after party) _ (after_low party) i

    reader_turn_inv : (reader : ℕ) → Inv m k (noted world (reader_step reader) step) → Inv m k (noted world (reader_step reader) (after_turn party step))
    unfolding noted rows_now feeds_now stores_now ends_now word_given stepped_reader writer_now reader_now log_after writing_after reading_after ended_now after_turn
    reader_turn_inv reader i = moved_inv (noted world (reader_step reader) step) (party_after party) _ (after_low party) i

  -- the party's own step is not refused
  writer_allowed : (frame : List ℕ) → is_nothing world.log.writer.operation ≡ false → refusal_due world.log StepWriter frame ≡ 0
  unfolding refusal_due refuse_if
  writer_allowed frame busy = rw busy

  reader_allowed : (reader : ℕ) (frame : List ℕ) → reader ≤ 15 → is_idle (world.log.readers reader) ≡ false → refusal_due world.log (StepReader reader) frame ≡ 0
  unfolding refusal_due refuse_if
  reader_allowed reader frame low busy = rw (le-ltb 15 reader low, busy)

  -- from what is shown of the step to what is asked of the turn
  turn_given : (frame : List ℕ) (step : Outcome) (party : ℕ) → party ≡ due_in world.log → Inv m k (noted world (step_of party) (after_turn party step)) → PartyRight m k world (noted world (step_of party) (after_turn party step)) party step.answer → Done world Turn frame (after_turn party step)
  unfolding role_of after_turn
  turn_given frame step party is holds right =
      record {
        inv = holds;
        carried_out =
            subst (λ (d : ℕ). TurnRight m k world (noted world (step_of party) (after_turn party step)) (served d step.answer)) (sym is)
            (serves step.answer (subst (λ (d : ℕ). PartyRight m k world (noted world (step_of party) (after_turn party step)) d step.answer) is right));
      }

  -- what is kept and right of the step itself
  writer_kept : (frame : List ℕ) → Kept world StepWriter frame (step_writer panel slots) → Inv m k (noted world writer_step (step_writer panel slots))
  unfolding role_of
  writer_kept frame kept = kept.inv

  writer_right : (frame : List ℕ) → Kept world StepWriter frame (step_writer panel slots) → refusal_due world.log StepWriter frame ≡ 0 → PartyRight m k world (noted world writer_step (after_turn 0 (step_writer panel slots))) 0 (step_writer panel slots).answer
  unfolding role_of
  writer_right frame kept due =
      subst (λ (d : ℕ). AnsweredBy d m k world (noted world writer_step (step_writer panel slots)) StepWriter frame (step_writer panel slots).answer) due kept.right

  reader_kept : (reader : ℕ) (frame : List ℕ) → Kept world (StepReader reader) frame (step_reader panel slots reader) → Inv m k (noted world (reader_step reader) (step_reader panel slots reader))
  unfolding role_of
  reader_kept reader frame kept = kept.inv

  reader_right : (reader : ℕ) (frame : List ℕ) → Kept world (StepReader reader) frame (step_reader panel slots reader) → refusal_due world.log (StepReader reader) frame ≡ 0 → PartyRight m k world (noted world (reader_step reader) (after_turn (suc reader) (step_reader panel slots reader))) (suc reader) (step_reader panel slots reader).answer
  unfolding role_of noted rows_now feeds_now stores_now ends_now either both
  reader_right reader frame kept due =
      subst (λ (d : ℕ). AnsweredBy d m k world (noted world (reader_step reader) (step_reader panel slots reader)) (StepReader reader) frame (step_reader panel slots reader).answer) due kept.right

  -- the turn that is due to the writer or to a reader
  turn_done : (frame : List ℕ) (party : ℕ) → party ≡ due_in world.log → party ≤ 16 → has_work world.log party ≡ true → Done world Turn frame (after_turn party (party_step panel slots party))
  unfolding has_work party_step
  turn_done frame zero is low works =
      let step = step_writer panel slots in
      let kept = writer-step-kept world inv frame in
      turn_given frame step 0 is (writer_turn_inv step 0 (writer_kept frame kept))
      (writer_right frame kept (writer_allowed frame (not-true _ works)))
  turn_done frame (suc reader) is low works =
      let step = step_reader panel slots reader in
      let kept = reader-step-kept world inv reader frame in
      turn_given frame step (suc reader) is (reader_turn_inv step (suc reader) reader (reader_kept reader frame kept))
      (reader_right reader frame kept (reader_allowed reader frame (omega arith) (not-true _ works)))

  by_party : (frame : List ℕ) → (party_served panel ≡ nobody → ⊥) → (party_served panel ≡ nobody) ⊎ Due (is_at_work panel) (party_served panel) → Done world Turn frame (after_turn (party_served panel) (party_step panel slots (party_served panel)))
  by_party frame some (inl none) = absurd (some none)
  by_party frame some (inr d) = turn_done frame (party_served panel) due_same d.low (sym (work_same (party_served panel) d.low) ∙ d.has_some_work)

  pub turn_kept : (frame : List ℕ) → Kept world Turn frame (take_turn panel slots)
  unfolding take_turn turn_refusal
  turn_kept frame =
      judged world inv Turn frame (turn_refusal (length slots) panel) _ (turn_due frame)
      (λ allowed.
      let a = not_refused (not (in_range (length slots) panel)) 1 _ (omega arith) allowed in
      let b = not_refused (eqb (party_served panel) nobody) 5 0 (omega arith) a.1 in
      by_party frame (eqb-false (party_served panel) nobody b.0) (someone_or_nobody panel slots inv.fits))
