-- What each call must come to: it keeps the invariant, and it is answered right. A refused call does, and so does any call whose refusal is the one due, if it does
-- where it is carried out.
use Prim.Native.Nat.{ℕ, zero, suc}
use mathlib.Core.Path.{◌≡◌, refl, sym, ap, subst, ◌∙◌}
use mathlib.Core.List.{List}
use Rattle.conditions.specs.Conditions.{both, either}
use Rattle.record.specs.declared.Record.{Record}
use Rattle.record.specs.declared.ReaderWork.{ReaderWork}
use Rattle.record.specs.declared.ReaderWork.TheVariants.{Idle as ReaderWork-as-Idle, LookingUp, Walking}
use Rattle.record.specs.declared.WriterWork.{WriterWork}
use Rattle.record.specs.declared.WriterWork.TheVariants.{Idle as WriterWork-as-Idle, Putting, Changing, Removing}
use Rattle.record.specs.Parts.{work_of}
use Rattle.record.specs.Idle.{is_reader_idle, is_writer_idle}
use Rattle.answers.specs.Answers.{refused, Outcome, outcome, unless_refused}
use Rattle.plain_list.proofs.RowLaws.{steady_same}
use Rattle.writer.proofs.WriterAgreement.{operation_of}
use Rattle.calls.specs.declared.Call.{Call}
use Rattle.history.specs.Log.{Role, reader_start, reader_step, writer_start, writer_step, role_of, writing_after, reading_after, ended_by, ended_now, log_after, is_idle, is_nothing}
use Rattle.history.specs.World.{TurnNotes, World, stores_now, ends_now, feeds_now, rows_now, writer_now, witnessed, reader_now, noted}
use Rattle.history.specs.Claim.{refusal_due, CarriedOut, AnsweredBy, Right}
use Rattle.history.proofs.Readers.{ReaderOK, reading_of, reader_on}
use Rattle.history.proofs.Invariant.{Inv}

-- what a call must come to
pub record Kept (world : World) (call : Call) (frame : List ℕ) (after : Outcome) : Type 0 where
  pub inv : Inv world.panel.m world.panel.k (noted world (role_of call frame after.answer) after)
  pub right : Right world.panel.m world.panel.k world (noted world (role_of call frame after.answer) after) call frame after.answer

-- and where it is carried out
pub record Done (world : World) (call : Call) (frame : List ℕ) (after : Outcome) : Type 0 where
  pub inv : Inv world.panel.m world.panel.k (noted world (role_of call frame after.answer) after)
  pub carried_out : CarriedOut world.panel.m world.panel.k world (noted world (role_of call frame after.answer) after) call frame after.answer

-- nothing has happened, but the readers have seen a moment more; what is noted of the turns is no part of the invariant
abbrev pub unchanged : World → (ℕ → TurnNotes) → World
unchanged world turns =
    record {
      panel = world.panel;
      slots = world.slots;
      log = world.log;
      rows = world.rows;
      writer = world.writer;
      readers = λ (n : ℕ). witnessed (world.readers n) world.rows;
      turns = turns;
      acts = world.acts;
    }

-- who has work by the log has it in the record
reader_idle : (work : ReaderWork) → is_idle (reading_of work) ≡ is_reader_idle work
reader_idle ReaderWork-as-Idle = refl
reader_idle (LookingUp lookup) = refl
reader_idle (Walking walk) = refl

writer_idle : (work : WriterWork) → is_nothing (operation_of work) ≡ is_writer_idle work
unfolding operation_of
writer_idle WriterWork-as-Idle = refl
writer_idle (Putting p) = refl
writer_idle (Changing c) = refl
writer_idle (Removing r) = refl

module _ (world : World) (inv : Inv world.panel.m world.panel.k world) where
  abbrev m : ℕ
  m = world.panel.m

  abbrev k : ℕ
  k = world.panel.k

  abbrev panel : Record
  panel = world.panel

  abbrev slots : List ℕ
  slots = world.slots

  pub reader_is_idle : (reader : ℕ) → is_reader_idle (work_of panel reader) ≡ is_idle (world.log.readers reader)
  reader_is_idle reader = sym (ap is_idle (inv.reading reader) ∙ reader_idle (work_of panel reader))

  pub writer_is_idle : is_writer_idle panel.writer.work ≡ is_nothing world.log.writer.operation
  writer_is_idle = sym (ap is_nothing inv.writer.operation ∙ writer_idle panel.writer.work)

  pub still : (n : ℕ) → ReaderOK m k world.rows (witnessed (world.readers n) world.rows) (work_of panel n)
  still n = reader_on m k world.rows world.rows (world.readers n) (steady_same world.rows) (work_of panel n) (inv.readers n)

  pub waits : (turns : ℕ → TurnNotes) → Inv m k (unchanged world turns)
  waits turns =
      record {
        m_is = refl;
        k_is = refl;
        fits = inv.fits;
        all_readers = inv.all_readers;
        agrees = inv.agrees;
        work = inv.work;
        writer = inv.writer;
        counted = inv.counted;
        reading = inv.reading;
        readers = still;
        commands = inv.commands;
        place = inv.place;
      }

  refused_waits : (role : Role) (n : ℕ) → Inv m k (noted world role (outcome panel slots (refused n)))
  unfolding noted rows_now feeds_now stores_now ends_now writer_now reader_now log_after writing_after reading_after ended_by ended_now either both
  refused_waits (reader_start reader begun) n = waits _
  refused_waits (reader_step reader) n = waits _
  refused_waits (writer_start begun) n = waits _
  refused_waits writer_step n = waits _

  -- a refused call
  pub refused_kept : (call : Call) (frame : List ℕ) (n : ℕ) → refusal_due world.log call frame ≡ suc n → Kept world call frame (outcome panel slots (refused (suc n)))
  unfolding noted
  refused_kept call frame n due =
      record {
        inv = refused_waits (role_of call frame (refused (suc n))) (suc n);
        right = subst (λ (d : ℕ). AnsweredBy d m k world (noted world (role_of call frame (refused (suc n))) (outcome panel slots (refused (suc n)))) call frame (refused (suc n))) (sym due)
            (refl, record { record_stays = refl; slots_stay = refl });
      }

  -- a call that is carried out
  pub done_kept : (call : Call) (frame : List ℕ) (after : Outcome) → refusal_due world.log call frame ≡ 0 → Done world call frame after → Kept world call frame after
  done_kept call frame after due done =
      record {
        inv = done.inv;
        right = subst (λ (d : ℕ). AnsweredBy d m k world (noted world (role_of call frame after.answer) after) call frame after.answer) (sym due) done.carried_out;
      }

  -- a call whose refusal is the one due
  pub judged : (call : Call) (frame : List ℕ) (n : ℕ) (after : Outcome) → n ≡ refusal_due world.log call frame → (n ≡ 0 → Done world call frame after) → Kept world call frame (unless_refused n (outcome panel slots) after)
  unfolding unless_refused
  judged call frame zero after due done = done_kept call frame after (sym due) (done refl)
  judged call frame (suc n) after due done = refused_kept call frame n (sym due)
