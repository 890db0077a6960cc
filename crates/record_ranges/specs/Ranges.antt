-- Document 01, "What the panel holds": the ranges of the record's fields. Refusal 1 is given where `in_range` fails.
use Rattle.std.specs.Prelude.{ℕ, Bool, List, leb, eqb, take}
use Rattle.std.specs.List.{list_all}
use Rattle.conditions.specs.Conditions.{both, either, within}
use Rattle.record.specs.declared.Record.{Record}
use Rattle.record.specs.declared.Reader.{Reader}
use Rattle.record.specs.declared.Station.{Station}
use Rattle.record.specs.declared.WriterWork.{WriterWork}
use Rattle.slot_words.specs.Points.{valid_point}
use Rattle.work_ranges.specs.WorkRanges.{work_in_range, writer_in_range}

-- "m from 1 to 4096"; "k (1 to 64)"; refusal 1: "slots lent ≠ m"
unfoldable pub sizes_in_range : ℕ → ℕ → ℕ → Bool
sizes_in_range m k lent = both (within 1 m 4096) (both (within 1 k 64) (eqb lent m))

-- "for each function index 1 to k, how many stored points use it (0 to m)"
unfoldable pub counts_in_range : ℕ → ℕ → List ℕ → Bool
counts_in_range m k counts = list_all (λ (count : ℕ). leb count m) (take k counts)

-- a reader's work
unfoldable pub reader_in_range : ℕ → ℕ → Reader → Bool
reader_in_range m k reader = work_in_range m k reader.work

-- "sixteen readers' work"
unfoldable pub readers_in_range : ℕ → ℕ → List Reader → Bool
readers_in_range m k readers = list_all (reader_in_range m k) readers

-- "number 0 to 16777215; where it isn't 0, valid point and action"; an answer is a value or refusal 7 by its type
unfoldable pub station_in_range : Station → Bool
station_in_range station =
    both (leb station.number 16777215)
    (either (eqb station.number 0) (both (valid_point station.point) (leb station.action 2)))

-- "for stations 1 to 32 the last command with its answer"
unfoldable pub stations_in_range : List Station → Bool
stations_in_range stations = list_all station_in_range stations

-- every field in range, for a number of slots lent, by what holds of the three arrays; "the reach (0 to k)"; "The place in the circle .. is a record field, 0 to 16"
unfoldable pub parts_in_range : ℕ → ℕ → ℕ → ℕ → Bool → WriterWork → Bool → Bool → ℕ → Bool
parts_in_range lent m k reach counts work readers stations place =
    both (sizes_in_range m k lent) (both (leb reach k) (both counts (both (writer_in_range k work) (both readers (both stations (leb place 16))))))

-- every field of a record in range
unfoldable pub in_range : ℕ → Record → Bool
in_range lent panel =
    parts_in_range lent panel.m panel.k panel.reach (counts_in_range panel.m panel.k panel.counts) panel.writer.work (readers_in_range panel.m panel.k panel.readers)
    (stations_in_range panel.stations) panel.place
