-- The writer's starts, a command's among them, keep the invariant and are answered right.
use Prim.Native.Nat.{ℕ, zero, suc, ◌+◌, ◌≤◌, ◌<◌}
use mathlib.Core.Bool.{Bool, true, false, cond, not, false≢true}
use mathlib.Core.Path.{◌≡◌, refl, sym, ap, subst, ◌∙◌}
use mathlib.Core.List.{List, [], ◌∷◌}
use native.Mathlib.Omega.{arith}
use borrow.Author.Tests.{eqb-true, not-false}
use lib.Dec.{eqb}
use lib.ListN.{length}
use Rattle.conditions.specs.Conditions.{both, either}
use Rattle.refusal.specs.Judging.{refuse_if, or_else}
use Rattle.refusal.proofs.Laws.{not_refused}
use Rattle.record.specs.declared.Record.{Record}
use Rattle.record.specs.declared.Station.{Station}
use Rattle.record.specs.declared.WriterWork.{WriterWork}
use Rattle.record.specs.declared.WriterWork.TheVariants.{Idle, Putting, Changing, Removing}
use Rattle.record.specs.Parts.{work_of, with_writer, station_of}
use Rattle.record.specs.Idle.{is_writer_idle}
use Rattle.slot_words.specs.Points.{valid_point}
use Rattle.work_ranges.specs.WorkRanges.{writer_in_range}
use Rattle.record_ranges.specs.Ranges.{in_range}
use Rattle.record_ranges.proofs.Laws.{with_writer_in_range}
use Rattle.counting.specs.Steps.{steps_made}
use Rattle.answers.specs.Answers.{completed, started, given_again, refused, stored_answer, outcome, unless_refused}
use Rattle.plain_list.specs.PlainList.{put, change, removal, Each}
use Rattle.plain_list.proofs.Agreement.{Tight}
use Rattle.search.proofs.SearchLaws.{search_left}
use Rattle.effects.proofs.EffectLaws.{put_search_left, put_left, change_left, removal_left, writer_left}
use Rattle.effects.proofs.StepAgreement.{WorkOK, fed_by}
use Rattle.change.specs.Change.{masks_of}
use Rattle.writer.specs.Starts.{work_start_refusal, start_refusal, start_writer, put_begun, change_begun, removal_begun, start_put, start_change, start_removal}
use Rattle.writer.proofs.WriterLaws.{put_begun_fits, change_begun_fits, removal_begun_fits}
use Rattle.writer.proofs.WriterAgreement.{operation_of}
use Rattle.command.specs.declared.Sent.{Sent}
use Rattle.command.specs.Command.{sent_in, frame_refusal, entry_refusal, commanded_change, change_starts, number_equal, number_other, in_turn, start_command}
use Rattle.command.proofs.CommandLaws.{Valid, frame_valid, change_in_range_lem}
use Rattle.calls.specs.declared.Call.TheVariants.{StartPut, StartChange, StartRemoval, StartCommand}
use Rattle.history.specs.Log.{Writing, writing, writer_start, as_change, role_of, Given, writing_after, reading_after, ended_now, log_after}
use Rattle.history.specs.World.{World, stores_now, ends_now, feeds_now, rows_now, writer_now, reader_now, noted}
use Rattle.history.specs.Claim.{operation_refusal, last_ended, number_refusal, refusal_due, CommandRight, writing_bound}
use Rattle.history.proofs.Commands.{command_of, IsNext, held_by, with_command}
use Rattle.history.proofs.Invariant.{WriterOK, Inv}
use Rattle.history.proofs.Kept.{Kept, writer_is_idle, still, waits, refused_kept, done_kept, judged}

idle_is : (work : WriterWork) → is_writer_idle work ≡ true → work ≡ Idle
idle_is Idle e = refl
idle_is (Putting p) e = absurd (false≢true e)
idle_is (Changing c) e = absurd (false≢true e)
idle_is (Removing r) e = absurd (false≢true e)

module _ (world : World) (inv : Inv world.panel.m world.panel.k world) where
  abbrev m : ℕ
  m = world.panel.m

  abbrev k : ℕ
  k = world.panel.k

  abbrev panel : Record
  panel = world.panel

  abbrev slots : List ℕ
  slots = world.slots

  -- work that may be started: what it is of, how many steps it may take, and that it is in order where the writer was idle
  record Fresh (underway : Writing) (work : WriterWork) : Type 0 where
    is_operation : underway.operation ≡ operation_of work
    is_command : underway.command ≡ command_of work
    unfed : fed_by work ≡ 0
    unmade : steps_made work ≡ 0
    bounded : writer_left k panel.reach work ≤ writing_bound k underway.operation
    in_order : Tight m k panel.reach world.rows → WorkOK m k panel.reach slots world.rows work
    steps_in_turn : Each (IsNext panel.stations) (command_of work)

  -- of a writer without work nothing is noted
  module _ (idle : is_writer_idle panel.writer.work ≡ true) where
    noted_idle : WriterOK m k panel.reach world.rows world.log.writer world.writer Idle
    noted_idle =
        subst (λ (w : WriterWork). WriterOK m k panel.reach world.rows world.log.writer world.writer w) (idle_is panel.writer.work idle) inv.writer

    no_steps : world.writer.steps ≡ 0
    unfolding operation_of writing_bound
    no_steps = let bound = ap (writing_bound k) noted_idle.operation in omega (arith, noted_idle.left, bound)

  -- the writer is given its work
  begun_inv : (underway : Writing) (work : WriterWork) → Fresh underway work → is_writer_idle panel.writer.work ≡ true → in_range (length slots) (with_writer panel work) ≡ true → Inv m k (noted world (writer_start underway) (outcome (with_writer panel work) slots started))
  unfolding with_writer work_of noted rows_now feeds_now stores_now ends_now writer_now reader_now log_after writing_after reading_after ended_now either both
  begun_inv underway work fresh idle fits =
      record {
        m_is = refl;
        k_is = refl;
        fits = fits;
        all_readers = inv.all_readers;
        agrees = inv.agrees;
        work = fresh.in_order (subst (λ (w : WriterWork). WorkOK m k panel.reach slots world.rows w) (idle_is panel.writer.work idle) inv.work);
        writer =
            record {
              operation = fresh.is_operation;
              command = fresh.is_command;
              feeds = (noted_idle idle).feeds ∙ sym fresh.unfed;
              told = λ fed. absurd (omega (arith, fresh.unfed));
              left = omega (arith, fresh.bounded, no_steps idle);
            };
        counted = omega (arith, fresh.unmade, no_steps idle);
        reading = inv.reading;
        readers = still world inv;
        commands = with_command panel.stations (command_of panel.writer.work) (command_of work) world.acts world.log.ended inv.commands fresh.steps_in_turn;
        place = inv.place;
      }

  -- "put, change, remove 1, 2, 4"
  start_due : (point : ℕ) → start_refusal (length slots) panel point ≡ operation_refusal world.log point
  unfolding start_refusal work_start_refusal operation_refusal refuse_if
  start_due point = rw (inv.fits, writer_is_idle world inv)

  start_inv : (point : ℕ) (underway : Writing) (work : WriterWork) → Fresh underway work → (valid_point point ≡ true → writer_in_range k work ≡ true) → start_refusal (length slots) panel point ≡ 0 → Inv m k (noted world (writer_start underway) (outcome (with_writer panel work) slots started))
  unfolding start_refusal work_start_refusal
  start_inv point underway work fresh ranged allowed =
      let a = not_refused (not (in_range (length slots) panel)) 1 _ (omega arith) allowed in
      let b = not_refused (not (valid_point point)) 2 _ (omega arith) a.1 in
      let c = not_refused (not (is_writer_idle panel.writer.work)) 4 0 (omega arith) b.1 in
      begun_inv underway work fresh (not-false _ c.0) (with_writer_in_range (length slots) panel inv.fits work (ranged (not-false _ b.0)))

  pub put_kept : (point value : ℕ) (frame : List ℕ) → value < 4294967296 → Kept world (StartPut point value) frame (start_put panel slots point value)
  unfolding start_put start_writer refusal_due role_of operation_of command_of writer_left put_left put_search_left search_left writing_bound
  put_kept point value frame fits =
      judged world inv (StartPut point value) frame (start_refusal (length slots) panel point) _ (start_due point)
      (λ allowed.
      record {
        inv =
            start_inv point (writing (put point value) []) (put_begun point value)
            (record { is_operation = refl; is_command = refl; unfed = refl; unmade = refl; bounded = omega arith; in_order = λ tight. ((tt, tight), fits); steps_in_turn = tt })
            (λ valid. put_begun_fits k point valid value) allowed;
        carried_out = refl;
      })

  pub change_kept : (point keep flip : ℕ) (frame : List ℕ) → flip < 4294967296 → Kept world (StartChange point keep flip) frame (start_change panel slots point keep flip)
  unfolding start_change start_writer refusal_due role_of operation_of command_of masks_of writer_left change_left search_left writing_bound
  change_kept point keep flip frame fits =
      judged world inv (StartChange point keep flip) frame (start_refusal (length slots) panel point) _ (start_due point)
      (λ allowed.
      record {
        inv =
            start_inv point (writing (change point keep flip) []) (change_begun point keep flip)
            (record { is_operation = refl; is_command = refl; unfed = refl; unmade = refl; bounded = omega arith; in_order = λ tight. ((tt, tight), fits); steps_in_turn = tt })
            (λ valid. change_begun_fits k point valid keep flip) allowed;
        carried_out = refl;
      })

  pub removal_kept : (point : ℕ) (frame : List ℕ) → Kept world (StartRemoval point) frame (start_removal panel slots point)
  unfolding start_removal start_writer refusal_due role_of operation_of command_of writer_left removal_left search_left writing_bound
  removal_kept point frame =
      judged world inv (StartRemoval point) frame (start_refusal (length slots) panel point) _ (start_due point)
      (λ allowed.
      record {
        inv =
            start_inv point (writing (removal point) []) (removal_begun point)
            (record { is_operation = refl; is_command = refl; unfed = refl; unmade = refl; bounded = omega arith; in_order = λ tight. (tt, tight); steps_in_turn = tt })
            (λ valid. removal_begun_fits k point valid) allowed;
        carried_out = refl;
      })

  -- a command
  module _ (bytes : List ℕ) where
    abbrev sent : Sent
    sent = sent_in bytes

    abbrev last : Station
    last = station_of panel sent.station

    -- the station's last command in the record is its last that ended
    last_is : last_ended world.log sent ≡ held_by sent.station last
    unfolding last_ended station_of
    last_is = inv.commands.lasts sent.station

    number_is : (b : Bool) → eqb sent.number last.number ≡ b → eqb sent.number (last_ended world.log sent).sent.number ≡ b
    number_is b e = ap (λ (given : Given). eqb sent.number given.sent.number) last_is ∙ e

    refused_frame : (n : ℕ) → frame_refusal bytes ≡ suc n → Kept world StartCommand bytes (outcome panel slots (refused (suc n)))
    unfolding refusal_due or_else
    refused_frame n e = refused_kept world inv StartCommand bytes n (rw e)

    -- a frame that is taken
    module _ (taken : frame_refusal bytes ≡ 0) where
      -- what is due to the command, beside its station's last, by the tests in document 01's order
      due_by : (equal same next idle : Bool) → eqb sent.number last.number ≡ equal → both (eqb sent.point last.point) (eqb sent.action last.action) ≡ same → eqb sent.number (last.number + 1) ≡ next → is_writer_idle panel.writer.work ≡ idle → refusal_due world.log StartCommand bytes ≡ cond equal (refuse_if (not same) 12 0) (refuse_if (not next) 11 (refuse_if (not idle) 4 0))
      unfolding refusal_due number_refusal or_else
      due_by equal same next idle e f g h = rw (taken, last_is, e, f, g, sym (writer_is_idle world inv) ∙ h)

      valid : Valid sent
      valid = frame_valid bytes taken

      starts : eqb sent.number (last.number + 1) ≡ true → is_writer_idle panel.writer.work ≡ true → Inv m k (noted world (writer_start (writing (as_change sent) (sent ∷ []))) (outcome (with_writer panel (commanded_change sent)) slots started))
      unfolding as_change operation_of command_of masks_of writer_left change_left search_left writing_bound station_of
      starts next idle =
          begun_inv (writing (as_change sent) (sent ∷ [])) (commanded_change sent)
          (record {
            is_operation = refl;
            is_command = refl;
            unfed = refl;
            unmade = refl;
            bounded = omega arith;
            in_order = λ tight. ((tt, tight), tt);
            steps_in_turn = (record { station_low = valid.station_low; station_high = valid.station_high; next = eqb-true sent.number (last.number + 1) next }, tt);
          })
          idle (with_writer_in_range (length slots) panel inv.fits (commanded_change sent) (change_in_range_lem k sent valid))

      by_idle : eqb sent.number last.number ≡ false → eqb sent.number (last.number + 1) ≡ true → (idle : Bool) → is_writer_idle panel.writer.work ≡ idle → Kept world StartCommand bytes (unless_refused (refuse_if (not idle) 4 0) (outcome panel slots) (outcome (with_writer panel (commanded_change sent)) slots started))
      unfolding refuse_if unless_refused role_of
      by_idle other next true e =
          done_kept world inv StartCommand bytes _ (due_by false _ true true other refl next e)
          (record {
            inv = starts next e;
            carried_out = subst (λ (equal : Bool). CommandRight equal (last_ended world.log sent).answer world (noted world (role_of StartCommand bytes started) (outcome (with_writer panel (commanded_change sent)) slots started)) started) (sym (number_is false other)) refl;
          })
      by_idle other next false e = refused_kept world inv StartCommand bytes 3 (due_by false _ true false other refl next e)

      by_next : eqb sent.number last.number ≡ false → (next : Bool) → eqb sent.number (last.number + 1) ≡ next → Kept world StartCommand bytes (cond next (change_starts panel slots sent) (outcome panel slots (refused 11)))
      unfolding change_starts refuse_if
      by_next other true e = by_idle other e (is_writer_idle panel.writer.work) refl
      by_next other false e = refused_kept world inv StartCommand bytes 10 (due_by false _ false _ other refl e refl)

      -- the stored answer given again
      again_inv : Inv m k (noted world (role_of StartCommand bytes (given_again (completed (stored_answer last.answer) 0))) (outcome panel slots (given_again (completed (stored_answer last.answer) 0))))
      unfolding role_of noted rows_now feeds_now stores_now ends_now writer_now reader_now log_after writing_after reading_after ended_now either both
      again_inv = waits world inv _

      by_content : eqb sent.number last.number ≡ true → (same : Bool) → both (eqb sent.point last.point) (eqb sent.action last.action) ≡ same → Kept world StartCommand bytes (cond same (outcome panel slots (given_again (completed (stored_answer last.answer) 0))) (outcome panel slots (refused 12)))
      unfolding refuse_if noted
      by_content equal true e =
          done_kept world inv StartCommand bytes _ (due_by true true _ _ equal e refl refl)
          (record {
            inv = again_inv;
            carried_out =
                subst (λ (b : Bool). CommandRight b (last_ended world.log sent).answer world (noted world (role_of StartCommand bytes (given_again (completed (stored_answer last.answer) 0))) (outcome panel slots (given_again (completed (stored_answer last.answer) 0)))) (given_again (completed (stored_answer last.answer) 0))) (sym (number_is true equal))
                (ap (λ (given : Given). given_again (completed given.answer 0)) (sym last_is), record { record_stays = refl; slots_stay = refl });
          })
      by_content equal false e = refused_kept world inv StartCommand bytes 11 (due_by true false _ _ equal e refl refl)

      by_number : (equal : Bool) → eqb sent.number last.number ≡ equal → Kept world StartCommand bytes (cond equal (number_equal panel slots sent last) (number_other panel slots sent last))
      unfolding number_equal number_other
      by_number true e = by_content e _ refl
      by_number false e = by_next e _ refl

    by_frame : (n : ℕ) → frame_refusal bytes ≡ n → Kept world StartCommand bytes (unless_refused n (outcome panel slots) (in_turn panel slots sent last))
    unfolding unless_refused in_turn
    by_frame zero e = by_number e _ refl
    by_frame (suc n) e = refused_frame n e

    pub command_kept : Kept world StartCommand bytes (start_command panel slots bytes)
    unfolding start_command entry_refusal refuse_if
    command_kept = rw inv.fits (by_frame (frame_refusal bytes) refl)
