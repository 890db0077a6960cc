-- The paper's number and values for each answer.
use Rattle.std.specs.Prelude.{ℕ, List, Result, Ok, Err}
use Rattle.refusal.specs.declared.Refusal.{Refusal}
use Rattle.refusal.specs.Refusals.{number_of}
use Rattle.frame.specs.declared.Fields.{Fields}
use Rattle.frame.specs.declared.Frame.{Frame}
use Rattle.frame.specs.FieldMap.{map_of}
use Rattle.frame.specs.declared.Reading.{Reading}
use Rattle.frame.specs.Frames.{Writing, no_fields}

-- the reader's answer
abbrev pub paper_read : Result Frame Refusal → Reading
paper_read (Ok frame) = record { refused = 0; map = map_of frame.kind; fields = frame.fields }
paper_read (Err r) = record { refused = number_of r; map = 0; fields = no_fields }

-- the writer's answer, beside the buffer that it leaves
abbrev pub paper_write : Result ℕ Refusal → List ℕ → Writing
paper_write (Ok n) out = record { refused = 0; written = n; buffer = out }
paper_write (Err r) out = record { refused = number_of r; written = 0; buffer = out }

-- the numbers of the C interface, put together: the six fields
abbrev pub fields_of : ℕ → ℕ → ℕ → ℕ → ℕ → ℕ → Fields
fields_of station number point action value refusal =
    record { station = station; number = number; point = point; action = action; value = value; refusal = refusal }

-- what the reader hands back
abbrev pub reading : ℕ → ℕ → ℕ → ℕ → ℕ → ℕ → ℕ → ℕ → Reading
reading refused map station number point action value refusal =
    record { refused = refused; map = map; fields = fields_of station number point action value refusal }

-- what the writer hands back, with the buffer
abbrev pub writing : ℕ → ℕ → List ℕ → Writing
writing refused written buffer = record { refused = refused; written = written; buffer = buffer }
