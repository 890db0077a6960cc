-- Records made, and a part of one read or replaced.
use Rattle.std.specs.Prelude.{ℕ, zero, suc, cond, Some, List, ltb, get_or, set, replicate}
use Rattle.record.specs.declared.Record.{Record}
use Rattle.record.specs.declared.Reader.{Reader}
use Rattle.record.specs.declared.ReaderWork.{ReaderWork}
use Rattle.record.specs.declared.ReaderWork.TheVariants.{Idle as ReaderWork-as-Idle}
use Rattle.record.specs.declared.Writer.{Writer}
use Rattle.record.specs.declared.WriterWork.{WriterWork}
use Rattle.record.specs.declared.WriterWork.TheVariants.{Idle as WriterWork-as-Idle}
use Rattle.record.specs.declared.Station.{Station}

-- a reader with this work
abbrev pub reader_with : ReaderWork → Reader
reader_with work = record { work = work }

-- the writer with this work
abbrev pub writer_with : WriterWork → Writer
writer_with work = record { work = work }

-- a reader without work
abbrev pub idle_reader : Reader
idle_reader = reader_with ReaderWork-as-Idle

-- "Each station's last number starts at 0"
abbrev pub unheard_station : Station
unheard_station = record { number = 0; point = 0; action = 0; answer = Some 0 }

-- the record of a panel that stores nothing, everyone idle, the place in the circle "at first 0, the writer"; with m and k 0 it is "all zeros, everyone idle"
unfoldable pub fresh_record : ℕ → ℕ → Record
fresh_record m k =
    record {
      m = m;
      k = k;
      reach = 0;
      counts = replicate 64 0;
      writer = writer_with WriterWork-as-Idle;
      readers = replicate 16 idle_reader;
      stations = replicate 32 unheard_station;
      place = 0;
    }

-- the record with the reach replaced
unfoldable pub with_reach : Record → ℕ → Record
with_reach panel reach =
    record {
      m = panel.m;
      k = panel.k;
      reach = reach;
      counts = panel.counts;
      writer = panel.writer;
      readers = panel.readers;
      stations = panel.stations;
      place = panel.place;
    }

-- the record with the counts replaced
unfoldable pub with_counts : Record → List ℕ → Record
with_counts panel counts =
    record {
      m = panel.m;
      k = panel.k;
      reach = panel.reach;
      counts = counts;
      writer = panel.writer;
      readers = panel.readers;
      stations = panel.stations;
      place = panel.place;
    }

-- the record with the writer's work replaced
unfoldable pub with_writer : Record → WriterWork → Record
with_writer panel work =
    record {
      m = panel.m;
      k = panel.k;
      reach = panel.reach;
      counts = panel.counts;
      writer = writer_with work;
      readers = panel.readers;
      stations = panel.stations;
      place = panel.place;
    }

-- the record with the readers replaced
unfoldable pub with_readers : Record → List Reader → Record
with_readers panel readers =
    record {
      m = panel.m;
      k = panel.k;
      reach = panel.reach;
      counts = panel.counts;
      writer = panel.writer;
      readers = readers;
      stations = panel.stations;
      place = panel.place;
    }

-- the record with the stations replaced
unfoldable pub with_stations : Record → List Station → Record
with_stations panel stations =
    record {
      m = panel.m;
      k = panel.k;
      reach = panel.reach;
      counts = panel.counts;
      writer = panel.writer;
      readers = panel.readers;
      stations = stations;
      place = panel.place;
    }

-- the record with the place in the circle replaced
unfoldable pub with_place : Record → ℕ → Record
with_place panel place =
    record {
      m = panel.m;
      k = panel.k;
      reach = panel.reach;
      counts = panel.counts;
      writer = panel.writer;
      readers = panel.readers;
      stations = panel.stations;
      place = place;
    }

-- a reader's work; above 15 there is none
unfoldable pub work_of : Record → ℕ → ReaderWork
work_of panel reader = (get_or panel.readers reader idle_reader).work

-- the record with that reader's work replaced; above 15 the record as it is
unfoldable pub with_work : Record → ℕ → ReaderWork → Record
with_work panel reader work = with_readers panel (set panel.readers reader (reader_with work))

-- the place of a reader's work among the readers; 0 where there is no such reader
unfoldable pub reader_place : ℕ → ℕ
reader_place reader = cond (ltb 15 reader) 0 reader

-- the element of that number, counted from 1; of another number what stands for none
unfoldable pub numbered : {A : Type 0} → List A → ℕ → A → A
numbered list zero none = none
numbered list (suc i) none = get_or list i none

-- the list with the element of that number replaced; with another number the list as it is
unfoldable pub with_numbered : {A : Type 0} → List A → ℕ → A → List A
with_numbered list zero new = list
with_numbered list (suc i) new = set list i new

-- the place, counted from 0, of the element of that number, counted from 1 to last; 0 where there is none
unfoldable pub numbered_place : ℕ → ℕ → ℕ
numbered_place last zero = 0
numbered_place last (suc i) = cond (ltb i last) i 0

-- how many stored points use the index, by a list of the counts
abbrev pub count_in : List ℕ → ℕ → ℕ
count_in counts index = numbered counts index 0

-- "for each function index 1 to k, how many stored points use it"
unfoldable pub count_of : Record → ℕ → ℕ
count_of panel index = count_in panel.counts index

-- the record with that index's count replaced
unfoldable pub with_count : Record → ℕ → ℕ → Record
with_count panel index count = with_counts panel (with_numbered panel.counts index count)

-- "for stations 1 to 32 the last command with its answer"
unfoldable pub station_of : Record → ℕ → Station
station_of panel station = numbered panel.stations station unheard_station

-- the record with that station's last command replaced
unfoldable pub with_station : Record → ℕ → Station → Record
with_station panel station last = with_stations panel (with_numbered panel.stations station last)
