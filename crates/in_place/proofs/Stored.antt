-- The record with what a call hands back stored in it.
use Rattle.std.proofs.Common.{ℕ, List, get_or, set}
use Rattle.record.specs.declared.Record.{Record}
use Rattle.record.specs.declared.Reader.{Reader}
use Rattle.record.specs.Parts.{idle_reader, reader_with, with_readers}
use Rattle.answers.specs.Answers.{Outcome, outcome}
use Rattle.reader_step.specs.Reader.{ReaderEffect}

-- the reader in a place, and the record with what its call comes to stored there
abbrev pub reader_at : Record → ℕ → Reader
reader_at panel place = get_or panel.readers place idle_reader

abbrev pub reader_stored : Record → List ℕ → ℕ → ReaderEffect → Outcome
reader_stored panel slots place effect = outcome (with_readers panel (set panel.readers place (reader_with effect.work))) slots effect.answer
