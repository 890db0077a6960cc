-- The writer's step keeps the invariant and is answered right: whichever of the four things it comes to, the plain list is fed exactly where document 01 says, and
-- a step that ends an operation answers what the plain list answered then.
use Prim.Native.Nat.{ℕ, ◌+◌, ◌≤◌, ◌<◌}
use mathlib.Core.Bool.{Bool, true, false, cond, not, false≢true}
use mathlib.Core.Path.{◌≡◌, refl, sym, ap, subst, ◌∙◌}
use mathlib.Core.List.{List, [], ◌∷◌, ◌++◌}
use native.Mathlib.Omega.{arith}
use borrow.Author.Tests.{eq-eqb, ne_eqb}
use lib.Dec.{eqb}
use lib.ListN.{length, get_or}
use Rattle.conditions.specs.Conditions.{both, either}
use Rattle.refusal.specs.Judging.{refuse_if}
use Rattle.refusal.proofs.Laws.{not_refused}
use Rattle.record.specs.declared.Record.{Record}
use Rattle.record.specs.declared.Reader.{Reader}
use Rattle.record.specs.declared.Station.{Station}
use Rattle.record.specs.declared.WriterWork.{WriterWork}
use Rattle.record.specs.declared.WriterWork.TheVariants.{Idle, Putting, Changing, Removing}
use Rattle.record.specs.Parts.{idle_reader, work_of, with_writer}
use Rattle.record_ranges.specs.Ranges.{in_range}
use Rattle.counting.specs.declared.steps.OperationKind.TheVariants.{Put, Change, Removal}
use Rattle.counting.specs.Steps.{put_counted, change_counted, removal_counted, writer_counted, steps_made}
use Rattle.counting.proofs.StepLaws.{counted_one, writer_counted_idle}
use Rattle.answers.specs.Answers.{Ending, removed, Progress, continues, finishes, step_answer, outcome}
use Rattle.plain_list.specs.PlainList.{Rows, Operation, nothing, feed, largest_index}
use Rattle.plain_list.proofs.RowLaws.{Steady, steady_same}
use Rattle.effects.specs.declared.memory.WriterAccess.{WriterAccess}
use Rattle.effects.specs.Memory.{slot_stored, access_read, slots_after, stores_slot}
use Rattle.effects.specs.Effects.{WriterEffect, updated}
use Rattle.record.specs.Idle.{is_writer_idle}
use Rattle.effects.proofs.EffectLaws.{writer_left, some_left, Updated, update_leaves}
use Rattle.effects.proofs.StepAgreement.{begun, fed_by, Recorded, not_a_command, command_ends_lem, After, StepOK, goes_on, ends_fed, empties, lowers}
use Rattle.writer.specs.Step.{writer_access, writer_advance, after_step, writer_runs, work_refusal, step_refusal, step_writer}
use Rattle.writer.proofs.WriterLaws.{counted_work, counted_fits, run_in_range, run_less}
use Rattle.writer.proofs.CountedWork.{same_access, same_left, same_operation, same_fed, same_known}
use Rattle.writer.proofs.WriterAgreement.{operation_of, operation_begun, writer_agrees}
use Rattle.command.specs.declared.Sent.{Sent}
use Rattle.calls.specs.declared.Call.TheVariants.{StepWriter}
use Rattle.history.specs.Log.{Writing, writing, writer_step, role_of, Given, Log, writing_after, reading_after, given_to, ended_by, ended_now, log_after}
use Rattle.history.specs.World.{WriterNotes, no_writer_notes, TurnNotes, World, stores_now, ends_now, feeds_now, told_now, rows_now, stepped_writer, writer_stepped, writer_now, witnessed, reader_now, turns_now, noted}
use Rattle.history.specs.Claim.{refusal_due, writing_bound, WriterRight, writer_underway, writer_ended}
use Rattle.history.proofs.Readers.{ReaderOK, reading_of, reader_on}
use Rattle.history.proofs.Commands.{sent_by, altered_by, command_of, command_begun, command_counted, no_command_of, fed_no_command, fed_not_command, CommandsOK, with_command, recorded}
use Rattle.history.proofs.Invariant.{WriterOK, Inv, idle_noted}
use Rattle.history.proofs.Kept.{Kept, Done, writer_is_idle, judged}

-- the log after a step of the writer that comes to this
abbrev stepped_log : Log → Progress → Log
stepped_log log continues = log
stepped_log log (finishes ending) =
    record { writer = writing nothing []; readers = log.readers; ended = given_to log.writer.command ending ++ log.ended; place = log.place }

-- the notes on the writer after it
abbrev closed : WriterNotes → Progress → WriterNotes
closed notes continues = notes
closed notes (finishes ending) = no_writer_notes

-- the world after it, by its count, and by whether it feeds the list and stores a slot
abbrev stepped_world : World → Record → List ℕ → ℕ → Progress → Bool → Bool → World
stepped_world world panel slots steps progress feeding storing =
    record {
      panel = panel;
      slots = slots;
      log = stepped_log world.log progress;
      rows = cond feeding (told_now world).rows world.rows;
      writer = closed (stepped_writer world.writer feeding (told_now world)) progress;
      readers = λ (n : ℕ). witnessed (world.readers n) (cond feeding (told_now world).rows world.rows);
      turns = λ (party : ℕ). turns_now (step_answer steps progress) writer_step party (world.turns party);
      acts = cond storing (world.log.writer.command ++ world.acts) world.acts;
    }

module _ (world : World) (steps : ℕ) (progress : Progress) (stores feeding : Bool) (storing : stores_slot (writer_access world.panel world.panel.writer.work) ≡ stores) (feeds : feeds_now world (step_answer steps progress) writer_step ≡ feeding) where
  stepped_as : writer_stepped world (step_answer steps progress) ≡ stepped_writer world.writer feeding (told_now world)
  unfolding writer_stepped
  stepped_as = rw feeds

  noted_as : (panel : Record) (slots : List ℕ) → noted world writer_step (outcome panel slots (step_answer steps progress)) ≡ stepped_world world panel slots steps progress feeding stores
  unfolding noted rows_now stores_now writer_now writer_stepped reader_now log_after writing_after reading_after ended_now ended_by both
  noted_as panel slots = go progress feeds
    where
      go : (p : Progress) → feeds_now world (step_answer steps p) writer_step ≡ feeding → noted world writer_step (outcome panel slots (step_answer steps p)) ≡ stepped_world world panel slots steps p feeding stores
      go continues e = rw (e, storing)
      go (finishes ending) e = rw (e, storing)

-- a step of an operation that has fewer than its bound behind it counts as one
made_one : (k steps : ℕ) (work : WriterWork) → k ≤ 64 → is_writer_idle work ≡ false → steps_made work ≡ steps → steps < writing_bound k (operation_of work) → steps_made (writer_counted k work) ≡ steps + 1
unfolding writer_counted put_counted change_counted removal_counted operation_of writing_bound
made_one k steps Idle few busy same below = absurd (false≢true (sym busy))
made_one k steps (Putting put) few busy same below = counted_one Put k put.steps few (omega arith) ∙ ap (λ (n : ℕ). n + 1) same
made_one k steps (Changing change) few busy same below = counted_one Change k change.steps few (omega arith) ∙ ap (λ (n : ℕ). n + 1) same
made_one k steps (Removing removal) few busy same below = counted_one Removal k removal.steps few (omega arith) ∙ ap (λ (n : ℕ). n + 1) same

module _ (world : World) (inv : Inv world.panel.m world.panel.k world) where
  abbrev m : ℕ
  m = world.panel.m

  abbrev k : ℕ
  k = world.panel.k

  abbrev panel : Record
  panel = world.panel

  abbrev slots : List ℕ
  slots = world.slots

  -- the writer's work as it is found, and with the step counted
  abbrev found : WriterWork
  found = world.panel.writer.work

  abbrev work : WriterWork
  work = counted_work panel

  -- what the log has of the writer
  abbrev underway : Writing
  underway = world.log.writer

  abbrev notes : WriterNotes
  notes = world.writer

  -- a step of a writer at work
  module _ (frame : List ℕ) (busy : is_writer_idle found ≡ false) where
    abbrev access : WriterAccess
    access = writer_access panel work

    abbrev effect : WriterEffect
    effect = writer_advance panel work (slot_stored access) (access_read slots access)

    abbrev after : Record
    after = updated panel effect.update

    abbrev steps : ℕ
    steps = steps_made work

    noted_ok : WriterOK m k panel.reach world.rows underway notes work
    noted_ok =
        record {
          operation = inv.writer.operation ∙ sym (same_operation k found);
          command = inv.writer.command ∙ sym (command_counted k found);
          feeds = inv.writer.feeds ∙ sym (same_fed k found);
          told = λ fed. inv.writer.told (sym (same_fed k found) ∙ fed);
          left = omega (arith, inv.writer.left, same_left k panel.reach found);
        }

    commands_ok : CommandsOK panel.stations (command_of work) world.acts world.log.ended
    commands_ok = subst (λ (command : List Sent). CommandsOK panel.stations command world.acts world.log.ended) (sym (command_counted k found)) inv.commands

    -- the access is that of the work as it is found
    stores_found : (b : Bool) → stores_slot access ≡ b → stores_slot (writer_access panel found) ≡ b
    stores_found b e = ap stores_slot (sym (same_access m k panel.reach panel.counts found)) ∙ e

    step_ok : StepOK panel slots access effect world.rows (told_now world) work
    unfolding told_now
    step_ok =
        subst (λ (operation : Operation). StepOK panel slots access effect world.rows (feed m k operation world.rows) work) (sym noted_ok.operation)
        (writer_agrees panel slots world.rows work inv.agrees (counted_fits panel slots inv.fits busy) (writer_counted_idle k found ∙ busy)
        (same_known k m panel.reach slots world.rows found inv.work))

    leaves : Updated panel effect.update
    leaves = update_leaves panel effect.update

    less : writer_left k after.reach effect.work + 1 ≤ writer_left k panel.reach found
    unfolding writer_runs after_step with_writer
    less = subst (λ (x : ℕ). writer_left x after.reach effect.work + 1 ≤ writer_left k panel.reach found) leaves.k_stays (run_less panel slots inv.fits busy)

    -- the readers' work stays
    work_stays : (n : ℕ) → work_of panel n ≡ work_of (with_writer after effect.work) n
    unfolding work_of with_writer
    work_stays n = ap (λ (l : List Reader). (get_or l n idle_reader).work) (sym leaves.readers_stay)

    -- the world after the step, where the plain list is then this
    stepped_inv : (rows : Rows) (now : Writing) (new : WriterNotes) (turns : ℕ → TurnNotes) (acts : List Sent) (ended : List Given) → Steady world.rows rows → After panel slots access effect rows → WriterOK m k after.reach rows now new effect.work → steps_made effect.work ≡ new.steps → CommandsOK after.stations (command_of effect.work) acts ended → Inv m k (record { panel = with_writer after effect.work; slots = slots_after slots access; log = record { writer = now; readers = world.log.readers; ended = ended; place = world.log.place }; rows = rows; writer = new; readers = λ (n : ℕ). witnessed (world.readers n) rows; turns = turns; acts = acts })
    unfolding writer_runs after_step with_writer
    stepped_inv rows now new turns acts ended steady then writes made commands =
        record {
          m_is = leaves.m_stays;
          k_is = leaves.k_stays;
          fits = run_in_range panel slots inv.fits busy;
          all_readers = ap length leaves.readers_stay ∙ inv.all_readers;
          agrees = then.agrees;
          work = then.work;
          writer = writes;
          counted = made;
          reading = λ n. inv.reading n ∙ ap reading_of (work_stays n);
          readers = λ n. subst (λ (w : _). ReaderOK m k rows (witnessed (world.readers n) rows) w) (work_stays n) (reader_on m k world.rows rows (world.readers n) steady (work_of panel n) (inv.readers n));
          commands = commands;
          place = inv.place ∙ sym leaves.place_stays;
        }

    -- the operation and the command stay the same while the work goes on
    operation_stays : begun effect.work ≡ begun work → underway.operation ≡ operation_of effect.work
    operation_stays e = noted_ok.operation ∙ (sym (operation_begun work) ∙ (ap operation_of (sym e) ∙ operation_begun effect.work))

    same_command : begun effect.work ≡ begun work → command_of work ≡ command_of effect.work
    same_command e = sym (command_begun work) ∙ (ap command_of (sym e) ∙ command_begun effect.work)

    commands_on : begun effect.work ≡ begun work → after.stations ≡ panel.stations → CommandsOK after.stations (command_of effect.work) world.acts world.log.ended
    commands_on e stay =
        subst (λ (stations : List Station). CommandsOK stations (command_of effect.work) world.acts world.log.ended) (sym stay)
        (subst (λ (command : List Sent). CommandsOK panel.stations command world.acts world.log.ended) (same_command e) commands_ok)

    -- no command: nothing acts and no command ends
    commands_idle : effect.work ≡ Idle → after.stations ≡ panel.stations → CommandsOK after.stations (command_of effect.work) world.acts world.log.ended
    unfolding command_of
    commands_idle e stay =
        subst (λ (w : WriterWork). CommandsOK after.stations (command_of w) world.acts world.log.ended) (sym e)
        (subst (λ (stations : List Station). CommandsOK stations [] world.acts world.log.ended) (sym stay)
        (with_command panel.stations (command_of work) [] world.acts world.log.ended commands_ok tt))

    no_acts : command_of work ≡ [] → (storing : Bool) → cond storing (underway.command ++ world.acts) world.acts ≡ world.acts
    no_acts none true = ap (λ (l : List Sent). l ++ world.acts) (noted_ok.command ∙ none)
    no_acts none false = refl

    -- after its last step the writer has no work, and nothing is noted of it
    ended_noted : (rows : Rows) → effect.work ≡ Idle → WriterOK m k after.reach rows (writing nothing []) no_writer_notes effect.work
    ended_noted rows e = subst (λ (w : WriterWork). WriterOK m k after.reach rows (writing nothing []) no_writer_notes w) (sym e) (idle_noted m k after.reach rows)

    -- the step takes one of those that are left
    in_time : notes.steps + 1 ≤ writing_bound k underway.operation
    in_time = omega (arith, inv.writer.left, less)

    -- and counts as one
    steps_counted : steps ≡ notes.steps + 1
    steps_counted = made_one k notes.steps found inv.agrees.few_indices busy inv.counted (subst (λ (operation : Operation). notes.steps < writing_bound k operation) inv.writer.operation (omega (arith, in_time)))

    in_time_more : is_writer_idle effect.work ≡ false → notes.steps + 1 < writing_bound k underway.operation
    in_time_more on = omega (arith, inv.writer.left, less, some_left k after.reach effect.work on)

    left_after : notes.steps + 1 + writer_left k after.reach effect.work ≤ writing_bound k underway.operation
    left_after = omega (arith, inv.writer.left, less)

    -- a step that was carried out: from what is shown of its world to what is asked of it
    carried_out : (progress : Progress) → effect.progress ≡ progress → (stores feeding : Bool) → stores_slot access ≡ stores → feeds_now world (step_answer steps progress) writer_step ≡ feeding → Inv m k (stepped_world world (with_writer after effect.work) (slots_after slots access) steps progress feeding stores) → WriterRight k underway.operation (stepped_writer notes feeding (told_now world)) (step_answer steps progress) → Done world StepWriter frame (writer_runs panel slots work)
    unfolding writer_runs after_step role_of
    carried_out progress e stores feeding f h holds right =
        let g = stores_found stores f in
        let same = ap (λ (p : Progress). noted world writer_step (outcome (with_writer after effect.work) (slots_after slots access) (step_answer steps p))) e ∙ noted_as world steps progress stores feeding g h (with_writer after effect.work) (slots_after slots access) in
        record {
          inv = subst (Inv m k) (sym same) holds;
          carried_out =
              subst (λ (p : Progress). WriterRight k underway.operation (writer_stepped world (step_answer steps p)) (step_answer steps p)) (sym e)
              (subst (λ (n : WriterNotes). WriterRight k underway.operation n (step_answer steps progress)) (sym (stepped_as world steps progress stores feeding g h)) right);
        }

    -- "fed whole at its step that stores the slot"
    feeds_storing : stores_slot access ≡ true → feeds_now world (step_answer steps continues) writer_step ≡ true
    unfolding feeds_now stores_now ends_now either both
    feeds_storing stores = ap (λ (b : Bool). either b false) (stores_found true stores)

    -- a step that stores none, and is not the last, feeds nothing
    feeds_not_yet : stores_slot access ≡ false → feeds_now world (step_answer steps continues) writer_step ≡ false
    unfolding feeds_now stores_now ends_now either both
    feeds_not_yet stores = ap (λ (b : Bool). either b false) (stores_found false stores)

    -- "or at its last if it stores none", where it has not fed the list before
    feeds_at_last : (ending : Ending) → eqb notes.feeds 0 ≡ true → feeds_now world (step_answer steps (finishes ending)) writer_step ≡ true
    unfolding feeds_now stores_now ends_now either both
    feeds_at_last ending none = rw none (always (stores_slot (writer_access panel found)))
      where
        always : (b : Bool) → either b true ≡ true
        always true = refl
        always false = refl

    feeds_no_more : (ending : Ending) → stores_slot access ≡ false → eqb notes.feeds 0 ≡ false → feeds_now world (step_answer steps (finishes ending)) writer_step ≡ false
    unfolding feeds_now stores_now ends_now either both
    feeds_no_more ending stores some = rw (stores_found false stores, some)

    on_done : stores_slot access ≡ false → fed_by work ≡ 0 → fed_by effect.work ≡ 0 → begun effect.work ≡ begun work → steps_made effect.work ≡ steps → is_writer_idle effect.work ≡ false → effect.progress ≡ continues → after.stations ≡ panel.stations → After panel slots access effect world.rows → Done world StepWriter frame (writer_runs panel slots work)
    unfolding stepped_writer
    on_done stores unfed still-unfed same made on goes stay then =
        carried_out continues goes false false stores (feeds_not_yet stores)
        (stepped_inv world.rows underway (stepped_writer notes false (told_now world)) _ world.acts world.log.ended (steady_same world.rows) then
        (record {
          operation = operation_stays same;
          command = noted_ok.command ∙ same_command same;
          feeds = noted_ok.feeds ∙ (unfed ∙ sym still-unfed);
          told = λ fed. absurd (omega arith);
          left = left_after;
        })
        (made ∙ steps_counted)
        (commands_on same stay))
        (writer_underway (in_time_more on))

    none_fed : fed_by work ≡ 0 → eqb notes.feeds 0 ≡ true
    none_fed unfed = eq-eqb notes.feeds 0 (noted_ok.feeds ∙ unfed)

    once_fed : fed_by work ≡ 0 → notes.feeds + 1 ≡ 1
    once_fed unfed = omega (arith, noted_ok.feeds)

    empties_done : stores_slot access ≡ true → fed_by work ≡ 0 → fed_by effect.work ≡ 1 → begun effect.work ≡ begun work → steps_made effect.work ≡ steps → is_writer_idle effect.work ≡ false → effect.progress ≡ continues → (told_now world).answer ≡ removed (largest_index m k (told_now world).rows) → Steady world.rows (told_now world).rows → after.stations ≡ panel.stations → After panel slots access effect (told_now world).rows → Done world StepWriter frame (writer_runs panel slots work)
    unfolding stepped_writer
    empties_done stores unfed fed same made on goes tells steady stay then =
        let none = same_command same ∙ fed_no_command effect.work fed in
        carried_out continues goes true true stores (feeds_storing stores)
        (stepped_inv (told_now world).rows underway (stepped_writer notes true (told_now world)) _ (underway.command ++ world.acts) world.log.ended steady then
        (record {
          operation = operation_stays same;
          command = noted_ok.command ∙ same_command same;
          feeds = once_fed unfed ∙ sym fed;
          told = λ e. tells;
          left = left_after;
        })
        (made ∙ steps_counted)
        (subst (λ (acts : List Sent). CommandsOK after.stations (command_of effect.work) acts world.log.ended) (sym (no_acts none true)) (commands_on same stay)))
        (writer_underway (in_time_more on))

    -- the commands after the end of an operation
    ended_commands : (storing : Bool) (ending : Ending) → effect.work ≡ Idle → (was : WriterWork) → was ≡ work → Recorded panel.stations after.stations ending was → CommandsOK after.stations (command_of effect.work) (cond storing (underway.command ++ world.acts) world.acts) (given_to underway.command ending ++ world.log.ended)
    unfolding command_of given_to
    ended_commands storing ending idle was is (not_a_command not-one stay) =
        let none : command_of work ≡ [] = ap command_of (sym is) ∙ no_command_of was not-one in
        subst (λ (acts : List Sent). CommandsOK after.stations (command_of effect.work) acts (given_to underway.command ending ++ world.log.ended)) (sym (no_acts none storing))
        (subst (λ (l : List Sent). CommandsOK after.stations (command_of effect.work) world.acts (given_to l ending ++ world.log.ended)) (sym (noted_ok.command ∙ none)) (commands_idle idle stay))
    ended_commands storing ending idle was is (command_ends_lem {change = change} command stored altered same stay) =
        let sent : command_of work ≡ sent_by change.point command ∷ [] = ap command_of (sym is) ∙ ap (altered_by change.point) altered in
        let before : CommandsOK panel.stations (sent_by change.point command ∷ []) world.acts world.log.ended = subst (λ (l : List Sent). CommandsOK panel.stations l world.acts world.log.ended) sent commands_ok in
        subst (λ (l : List Sent). CommandsOK after.stations (command_of effect.work) (cond storing (l ++ world.acts) world.acts) (given_to l ending ++ world.log.ended)) (sym (noted_ok.command ∙ sent))
        (subst (λ (w : WriterWork). CommandsOK after.stations (command_of w) (cond storing (sent_by change.point command ∷ world.acts) world.acts) (record { sent = sent_by change.point command; answer = ending } ∷ world.log.ended)) (sym idle)
        (subst (λ (stations : List Station). CommandsOK stations [] (cond storing (sent_by change.point command ∷ world.acts) world.acts) (record { sent = sent_by change.point command; answer = ending } ∷ world.log.ended)) (sym stay)
        (recorded panel.stations (sent_by change.point command) world.acts world.log.ended before stored ending same storing)))

    lowers_done : stores_slot access ≡ false → fed_by work ≡ 1 → effect.work ≡ Idle → effect.progress ≡ finishes (removed (largest_index m k world.rows)) → after.stations ≡ panel.stations → After panel slots access effect world.rows → Done world StepWriter frame (writer_runs panel slots work)
    unfolding stepped_writer no_writer_notes
    lowers_done stores fed idle over stay then =
        carried_out (finishes (removed (largest_index m k world.rows))) over false false stores (feeds_no_more _ stores (ne_eqb notes.feeds 0 (λ z. omega (arith, noted_ok.feeds))))
        (stepped_inv world.rows (writing nothing []) no_writer_notes _ world.acts _ (steady_same world.rows) then
        (ended_noted world.rows idle) (ap steps_made idle)
        (ended_commands false (removed (largest_index m k world.rows)) idle work refl (not_a_command (fed_not_command work fed) stay)))
        (writer_ended _ (record { as_told = sym (noted_ok.told fed); fed_once = noted_ok.feeds ∙ fed; in_time = in_time; counted = steps_counted }))

    ends_done : (stores : Bool) → stores_slot access ≡ stores → fed_by work ≡ 0 → effect.work ≡ Idle → effect.progress ≡ finishes (told_now world).answer → Steady world.rows (told_now world).rows → Recorded panel.stations after.stations (told_now world).answer work → After panel slots access effect (told_now world).rows → Done world StepWriter frame (writer_runs panel slots work)
    unfolding stepped_writer no_writer_notes
    ends_done stores storing unfed idle over steady record-kept then =
        carried_out (finishes (told_now world).answer) over stores true storing (feeds_at_last _ (none_fed unfed))
        (stepped_inv (told_now world).rows (writing nothing []) no_writer_notes _ _ _ steady then
        (ended_noted (told_now world).rows idle) (ap steps_made idle) (ended_commands stores (told_now world).answer idle work refl record-kept))
        (writer_ended _ (record { as_told = refl; fed_once = once_fed unfed; in_time = in_time; counted = steps_counted }))

    by_cases : StepOK panel slots access effect world.rows (told_now world) work → Done world StepWriter frame (writer_runs panel slots work)
    by_cases (goes_on stores unfed still same made on goes stay then) = on_done stores unfed still same made on goes stay then
    by_cases (ends_fed unfed idle over steady record-kept then) = ends_done (stores_slot access) refl unfed idle over steady record-kept then
    by_cases (empties stores unfed fed same made on goes tells steady stay then) = empties_done stores unfed fed same made on goes tells steady stay then
    by_cases (lowers stores fed idle over stay then) = lowers_done stores fed idle over stay then

    run_done : Done world StepWriter frame (writer_runs panel slots work)
    run_done = by_cases step_ok

  -- "writer's step 1, 5"
  step_due : (frame : List ℕ) → step_refusal (length slots) panel ≡ refusal_due world.log StepWriter frame
  unfolding step_refusal work_refusal refusal_due refuse_if
  step_due frame = rw (inv.fits, writer_is_idle world inv)

  pub step_kept : (frame : List ℕ) → Kept world StepWriter frame (step_writer panel slots)
  unfolding step_writer step_refusal work_refusal
  step_kept frame =
      judged world inv StepWriter frame (step_refusal (length slots) panel) _ (step_due frame)
      (λ allowed.
      let a = not_refused (not (in_range (length slots) panel)) 1 _ (omega arith) allowed in
      run_done frame (not_refused (is_writer_idle found) 5 0 (omega arith) a.1).0)
