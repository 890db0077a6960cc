-- What is true of a world before the first call and after each. The invariant speaks of the record and the
-- definitions that the contracts cite: the table agrees with the plain list; the writer's work, the log and what is noted of it fit together, and so do each reader's;
-- the stations fit the commands that the log has.
use Prim.Native.Nat.{ℕ, zero, suc, ◌+◌, ◌≤◌}
use mathlib.Core.Bool.{true}
use mathlib.Core.Path.{◌≡◌, refl, sym, ap, subst}
use mathlib.Core.Logic.{inl}
use mathlib.Core.List.{List, []}
use native.Mathlib.Omega.{arith}
use borrow.Author.Tests.{eq-eqb}
use lib.ListN.{length, get_or, replicate, length-replicate, get_or-replicate}
use Rattle.record.specs.declared.Reader.{Reader}
use Rattle.record.specs.declared.ReaderWork.{ReaderWork}
use Rattle.record.specs.declared.ReaderWork.TheVariants.{Idle as ReaderWork-as-Idle}
use Rattle.record.specs.declared.WriterWork.{WriterWork}
use Rattle.record.specs.declared.WriterWork.TheVariants.{Idle}
use Rattle.record.specs.Parts.{idle_reader, unheard_station, fresh_record, work_of, numbered}
use Rattle.record_ranges.specs.Ranges.{sizes_in_range, in_range}
use Rattle.record_ranges.proofs.Laws.{fresh_in_range}
use Rattle.conditions.proofs.ConditionLaws.{both_true, is_within}
use Rattle.counting.specs.Steps.{steps_made}
use Rattle.answers.specs.Answers.{removed, gives, stored_answer, outcome}
use Rattle.fresh_panel.specs.FreshPanel.{make_fresh}
use Rattle.slot_words.specs.Taken.{taken_slots}
use Rattle.plain_list.specs.PlainList.{Rows, entry_of, nothing, largest_index}
use Rattle.plain_list.proofs.RowLaws.{present≢absent}
use Rattle.plain_list.proofs.IndexLaws.{count_index}
use Rattle.plain_list.proofs.Agreement.{Agrees}
use Rattle.effects.proofs.EffectLaws.{writer_left}
use Rattle.effects.proofs.StepAgreement.{WorkOK, fed_by}
use Rattle.writer.proofs.WriterAgreement.{operation_of}
use Rattle.history.specs.Log.{Writing, writing, fresh_log, last_given}
use Rattle.history.specs.World.{WriterNotes, no_writer_notes, no_reader_notes, World, fresh_world}
use Rattle.history.specs.Claim.{times, sents, writing_bound}
use Rattle.history.proofs.Readers.{ReaderOK, reading_of}
use Rattle.history.proofs.Commands.{command_of, held_by, CommandsOK}

-- what the log and the notes say of the writer's work; of a writer without work they say nothing
pub record WriterOK (m k reach : ℕ) (rows : Rows) (underway : Writing) (notes : WriterNotes) (work : WriterWork) : Type 0 where
  pub operation : underway.operation ≡ operation_of work
  pub command : underway.command ≡ command_of work
  pub feeds : notes.feeds ≡ fed_by work
  pub told : fed_by work ≡ 1 → notes.told ≡ removed (largest_index m k rows)
  pub left : notes.steps + writer_left k reach work ≤ writing_bound k underway.operation

pub record Inv (m k : ℕ) (world : World) : Type 0 where
  pub m_is : world.panel.m ≡ m
  pub k_is : world.panel.k ≡ k
  pub fits : in_range (length world.slots) world.panel ≡ true
  pub all_readers : length world.panel.readers ≡ 16
  pub agrees : Agrees m k world.panel.reach world.panel.counts world.slots world.rows
  pub work : WorkOK m k world.panel.reach world.slots world.rows world.panel.writer.work
  pub writer : WriterOK m k world.panel.reach world.rows world.log.writer world.writer world.panel.writer.work
  -- the steps that the writer's work counts are those noted
  pub counted : steps_made world.panel.writer.work ≡ world.writer.steps
  pub reading : (n : ℕ) → world.log.readers n ≡ reading_of (work_of world.panel n)
  pub readers : (n : ℕ) → ReaderOK m k world.rows (world.readers n) (work_of world.panel n)
  pub commands : CommandsOK world.panel.stations (command_of world.panel.writer.work) world.acts world.log.ended
  -- the place that the log has is the record's
  pub place : world.log.place ≡ world.panel.place

-- a writer without work, of which nothing is noted
pub idle_noted : (m k reach : ℕ) (rows : Rows) → WriterOK m k reach rows (writing nothing []) no_writer_notes Idle
unfolding no_writer_notes operation_of command_of writing_bound writer_left
idle_noted m k reach rows =
    record { operation = refl; command = refl; feeds = refl; told = λ fed. absurd (omega arith); left = omega arith }

-- an element of a list of equal elements, or what stands for one past its end
replicated : {A : Type 0} (n i : ℕ) (x : A) → get_or (replicate n x) i x ≡ x
replicated zero i x = refl
replicated (suc n) zero x = refl
replicated (suc n) (suc i) x = replicated n i x

all_unheard : (station : ℕ) → numbered (replicate 32 unheard_station) station unheard_station ≡ unheard_station
unfolding numbered
all_unheard zero = refl
all_unheard (suc i) = replicated 32 i unheard_station

none_counted : (i : ℕ) → numbered {A = ℕ} (replicate 64 0) i 0 ≡ 0
unfolding numbered
none_counted zero = refl
none_counted (suc i) = replicated 64 i 0

none_taken : (n : ℕ) → taken_slots (replicate n 0) ≡ 0
unfolding taken_slots
none_taken zero = refl
none_taken (suc n) = none_taken n

-- a fresh world
module _ (m k : ℕ) (m_low : 1 ≤ m) (m_high : m ≤ 4096) (k_low : 1 ≤ k) (k_high : k ≤ 64) where
  abbrev empty : List ℕ
  empty = replicate m 0

  -- "m from 1 to 4096", "k (1 to 64)", and m slots lent
  sizes_fit : (lent : ℕ) → lent ≡ m → sizes_in_range m k lent ≡ true
  unfolding sizes_in_range
  sizes_fit lent whole =
      both_true _ _ (is_within 1 m 4096 m_low m_high) (both_true _ _ (is_within 1 k 64 k_low k_high) (eq-eqb lent m whole))

  -- a fresh world is what making a fresh record leaves, whatever the m slots lent held
  pub begins_fresh : (lent : List ℕ) → length lent ≡ m → make_fresh m k lent ≡ outcome (fresh_world m k).panel (fresh_world m k).slots (gives [])
  unfolding make_fresh fresh_world
  begins_fresh lent whole = rw (sizes_fit (length lent) whole, whole)

  fresh_agrees : Agrees m k 0 (replicate 64 0) (replicate m 0) []
  unfolding entry_of count_index
  fresh_agrees =
      record {
        some_slot = m_low;
        some_index = k_low;
        few_indices = k_high;
        whole = length-replicate m 0;
        all_counts = refl;
        reach_high = omega arith;
        held = λ q value place e. present≢absent (sym e);
        free = λ place inside. inl (get_or-replicate m place 0 0 inside);
        counted = λ i low high. none_counted i;
        distinct = tt;
        room = sym (none_taken m);
      }

  fresh_commands : CommandsOK (replicate 32 unheard_station) [] [] []
  unfolding sents times last_given stored_answer
  fresh_commands =
      record {
        all_stations = refl;
        lasts = λ station. ap (held_by station) (sym (all_unheard station));
        acts_low = tt;
        ended_low = tt;
        acts_once = λ station number. omega arith;
        ends_once = λ station number. omega arith;
        underway = tt;
      }

  all_idle : (n : ℕ) → work_of (fresh_record m k) n ≡ ReaderWork-as-Idle
  unfolding work_of fresh_record
  all_idle n = ap (λ (r : Reader). r.work) (replicated 16 n idle_reader)

  pub fresh_inv : Inv m k (fresh_world m k)
  unfolding fresh_world fresh_record fresh_log command_of no_writer_notes
  fresh_inv =
      record {
        m_is = refl;
        k_is = refl;
        fits = fresh_in_range m k (length empty) (sizes_fit (length empty) (length-replicate m 0));
        all_readers = refl;
        agrees = fresh_agrees;
        work = inl refl;
        writer = idle_noted m k 0 [];
        counted = refl;
        reading = λ n. sym (ap reading_of (all_idle n));
        readers = λ n. subst (λ (w : ReaderWork). ReaderOK m k [] no_reader_notes w) (sym (all_idle n)) refl;
        commands = fresh_commands;
        place = refl;
      }
