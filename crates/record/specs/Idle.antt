-- Which party has no work underway.
use Rattle.std.specs.Prelude.{Bool, true, false}
use Rattle.record.specs.declared.ReaderWork.{ReaderWork}
use Rattle.record.specs.declared.ReaderWork.TheVariants.{Idle as ReaderWork-as-Idle, LookingUp, Walking}
use Rattle.record.specs.declared.WriterWork.{WriterWork}
use Rattle.record.specs.declared.WriterWork.TheVariants.{Idle as WriterWork-as-Idle, Putting, Changing, Removing}

-- "A reader is idle, looking up or walking"
abbrev pub is_reader_idle : ReaderWork → Bool
is_reader_idle ReaderWork-as-Idle = true
is_reader_idle (LookingUp lookup) = false
is_reader_idle (Walking walk) = false

-- no put, change or removal underway
abbrev pub is_writer_idle : WriterWork → Bool
is_writer_idle WriterWork-as-Idle = true
is_writer_idle (Putting put) = false
is_writer_idle (Changing change) = false
is_writer_idle (Removing removal) = false
