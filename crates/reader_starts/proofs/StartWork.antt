-- A start by what it needs is the start on the whole record: of the reader's work, and in the place of that work.
use Prim.Native.Nat.{ℕ}
use mathlib.Core.Path.{◌≡◌}
use mathlib.Core.Bool.{not}
use mathlib.Core.List.{List}
use lib.ListN.{get_or, set, length}
use Rattle.refusal.specs.Judging.{refuse_if}
use Rattle.record.specs.declared.Record.{Record}
use Rattle.record.specs.declared.ReaderWork.{ReaderWork}
use Rattle.record.specs.Parts.{idle_reader, reader_with, work_of, with_readers, reader_place}
use Rattle.record.specs.Idle.{is_reader_idle}
use Rattle.record_ranges.specs.Ranges.{in_range}
use Rattle.slot_words.specs.Points.{valid_point}
use Rattle.answers.specs.Answers.{started, outcome}
use Rattle.reader_step.specs.Reader.{effect_of, after_step}
use Rattle.reader_step.proofs.StepWork.{by_work, in_place}
use Rattle.reader_starts.specs.Starts.{lookup_work_refusal, walk_work_refusal, lookup_refusal, walk_refusal, new_lookup, new_walk, given_work, lookup_work, walk_work, start_reader, start_lookup, start_walk}

module _ (panel : Record) (slots : List ℕ) (reader : ℕ) where
  pub lookup_by_work : (point : ℕ) → after_step panel slots reader (lookup_work (in_range (length slots) panel) reader point (work_of panel reader)) ≡ start_lookup panel slots reader point
  unfolding lookup_work given_work start_lookup lookup_refusal start_reader after_step
  lookup_by_work point = by_work panel slots reader _ _

  pub walk_by_work : after_step panel slots reader (walk_work (in_range (length slots) panel) reader (work_of panel reader)) ≡ start_walk panel slots reader
  unfolding walk_work given_work start_walk walk_refusal start_reader after_step
  walk_by_work = by_work panel slots reader _ _

  pub lookup_in_place :
      (point : ℕ)
      → let e = lookup_work (in_range (length slots) panel) reader point (get_or panel.readers (reader_place reader) idle_reader).work in
      outcome (with_readers panel (set panel.readers (reader_place reader) (reader_with e.work))) slots e.answer ≡ start_lookup panel slots reader point
  unfolding lookup_work lookup_work_refusal given_work start_lookup lookup_refusal start_reader after_step
  lookup_in_place point =
      in_place panel slots reader (λ (work : ReaderWork). refuse_if (not (valid_point point)) 2 (refuse_if (not (is_reader_idle work)) 4 0))
      (λ (work : ReaderWork). effect_of (new_lookup point) started)
      (in_range (length slots) panel)

  pub walk_in_place :
      let e = walk_work (in_range (length slots) panel) reader (get_or panel.readers (reader_place reader) idle_reader).work in
      outcome (with_readers panel (set panel.readers (reader_place reader) (reader_with e.work))) slots e.answer ≡ start_walk panel slots reader
  unfolding walk_work walk_work_refusal given_work start_walk walk_refusal start_reader after_step
  walk_in_place =
      in_place panel slots reader (λ (work : ReaderWork). refuse_if (not (is_reader_idle work)) 4 0)
      (λ (work : ReaderWork). effect_of new_walk started)
      (in_range (length slots) panel)
