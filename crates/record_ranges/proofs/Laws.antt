-- Laws of the record that callers cite in place of the definitions' text: what the range test says, field by field and back; what replacing a
-- part does to the ranges; that a fresh record is in range and the record of zeros never is.
use Prim.Native.Nat.{ℕ, ◌≤◌}
use mathlib.Core.Path.{◌≡◌, refl}
use mathlib.Core.Bool.{true, false, false≢true}
use native.Mathlib.Omega.{arith}
use borrow.Author.Tests.{leb-true, le-leb, eqb-true, eq-eqb}
use lib.Dec.{leb, eqb, leb-zero}
use lib.ListN.{replicate}
use Rattle.conditions.specs.Conditions.{both, either, within}
use Rattle.conditions.proofs.ConditionLaws.{both_left, both_right, both_true, within_low, within_high}
use Rattle.record.specs.declared.Record.{Record}
use Rattle.record.specs.declared.ReaderWork.{ReaderWork}
use Rattle.record.specs.declared.ReaderWork.TheVariants.{Idle, LookingUp, Walking}
use Rattle.record.specs.declared.WriterWork.{WriterWork}
use Rattle.record.specs.declared.Station.{Station}
use Rattle.record.specs.Parts.{idle_reader, fresh_record, work_of, with_work, with_writer, with_reach, count_of, with_count, with_station, with_counts, with_readers, with_stations, with_place}
use Rattle.record.specs.Idle.{is_reader_idle}
use Rattle.record_ranges.specs.Ranges.{sizes_in_range, counts_in_range, reader_in_range, readers_in_range, station_in_range, stations_in_range, parts_in_range, in_range}
use Rattle.work_ranges.specs.WorkRanges.{work_in_range, writer_in_range}
use Rattle.record_ranges.proofs.All.{all_at, all_set, all_take, all_replicate}
use Rattle.record_ranges.proofs.NumberedRanges.{all_replaced, all_first_replaced, all_first_at}

-- a reader without work, and a station that sent no command, are in range
pub idle_in_range : (m k : ℕ) (work : ReaderWork) → is_reader_idle work ≡ true → work_in_range m k work ≡ true
unfolding work_in_range
idle_in_range m k Idle e = refl
idle_in_range m k (LookingUp lookup) e = absurd (false≢true e)
idle_in_range m k (Walking walk) e = absurd (false≢true e)

pub unheard_in_range : (station : Station) → station.number ≡ 0 → station_in_range station ≡ true
unfolding station_in_range both either
unheard_in_range station e = rw (le-leb station.number 16777215 (omega arith), eq-eqb station.number 0 e)

-- the numbers of a record in range
pub record Sizes (m k lent : ℕ) : Type 0 where
  pub m_low : 1 ≤ m
  pub m_high : m ≤ 4096
  pub k_low : 1 ≤ k
  pub k_high : k ≤ 64
  pub whole : lent ≡ m

pub sizes : (m k lent : ℕ) → sizes_in_range m k lent ≡ true → Sizes m k lent
unfolding sizes_in_range
sizes m k lent h =
    let rest = both_right (within 1 m 4096) _ h in
    let hm = both_left (within 1 m 4096) (both (within 1 k 64) (eqb lent m)) h in
    let hk = both_left (within 1 k 64) (eqb lent m) rest in
    record {
      m_low = within_low 1 m 4096 hm;
      m_high = within_high 1 m 4096 hm;
      k_low = within_low 1 k 64 hk;
      k_high = within_high 1 k 64 hk;
      whole = eqb-true lent m (both_right (within 1 k 64) (eqb lent m) rest);
    }

-- what the range test says of each field group
pub record Fields (lent : ℕ) (panel : Record) : Type 0 where
  pub sizes_fit : sizes_in_range panel.m panel.k lent ≡ true
  pub reach_fits : panel.reach ≤ panel.k
  pub counts_fit : counts_in_range panel.m panel.k panel.counts ≡ true
  pub writer_fits : writer_in_range panel.k panel.writer.work ≡ true
  pub readers_fit : readers_in_range panel.m panel.k panel.readers ≡ true
  pub stations_fit : stations_in_range panel.stations ≡ true
  pub place_fits : panel.place ≤ 16

module _ (lent : ℕ) (panel : Record) where
  pub fields : in_range lent panel ≡ true → Fields lent panel
  unfolding in_range parts_in_range
  fields h =
      let a = both_right (sizes_in_range panel.m panel.k lent) _ h in
      let b = both_right (leb panel.reach panel.k) _ a in
      let c = both_right (counts_in_range panel.m panel.k panel.counts) _ b in
      let d = both_right (writer_in_range panel.k panel.writer.work) _ c in
      let e = both_right (readers_in_range panel.m panel.k panel.readers) _ d in
      record {
        sizes_fit = both_left (sizes_in_range panel.m panel.k lent) _ h;
        reach_fits = leb-true panel.reach panel.k (both_left (leb panel.reach panel.k) _ a);
        counts_fit = both_left (counts_in_range panel.m panel.k panel.counts) _ b;
        writer_fits = both_left (writer_in_range panel.k panel.writer.work) _ c;
        readers_fit = both_left (readers_in_range panel.m panel.k panel.readers) _ d;
        stations_fit = both_left (stations_in_range panel.stations) _ e;
        place_fits = leb-true panel.place 16 (both_right (stations_in_range panel.stations) _ e);
      }

  pub sizes_in_range_lem : in_range lent panel ≡ true → Sizes panel.m panel.k lent
  sizes_in_range_lem h = sizes panel.m panel.k lent (fields h).sizes_fit

  -- no reach is above the largest number of functions
  pub reach_high : in_range lent panel ≡ true → panel.reach ≤ 64
  reach_high h = omega (arith, (fields h).reach_fits, (sizes_in_range_lem h).k_high)

  pub work_in_range_lem : (reader : ℕ) → in_range lent panel ≡ true → work_in_range panel.m panel.k (work_of panel reader) ≡ true
  unfolding readers_in_range reader_in_range work_in_range work_of
  work_in_range_lem reader h = all_at (reader_in_range panel.m panel.k) panel.readers reader idle_reader (fields h).readers_fit refl

  readers_replaced : (reader : ℕ) (work : ReaderWork) → readers_in_range panel.m panel.k panel.readers ≡ true → work_in_range panel.m panel.k work ≡ true → readers_in_range panel.m panel.k (with_work panel reader work).readers ≡ true
  unfolding readers_in_range reader_in_range with_work with_readers
  readers_replaced reader work h e = all_set (reader_in_range panel.m panel.k) panel.readers reader (record { work = work }) h e

  -- the range test from its parts
  pub is_in_range : Fields lent panel → in_range lent panel ≡ true
  unfolding in_range parts_in_range
  is_in_range f =
      both_true _ _ f.sizes_fit
      (both_true _ _ (le-leb panel.reach panel.k f.reach_fits)
      (both_true _ _ f.counts_fit (both_true _ _ f.writer_fits (both_true _ _ f.readers_fit (both_true _ _ f.stations_fit (le-leb panel.place 16 f.place_fits))))))

-- a record in range stays so if what replaces a part of it is in range
module _ (lent : ℕ) (panel : Record) (h : in_range lent panel ≡ true) where
  pub with_work_in_range : (reader : ℕ) (work : ReaderWork) → work_in_range panel.m panel.k work ≡ true → in_range lent (with_work panel reader work) ≡ true
  unfolding with_work with_readers
  with_work_in_range reader work e =
      let f = fields lent panel h in
      is_in_range lent (with_work panel reader work)
      (record {
        sizes_fit = f.sizes_fit;
        reach_fits = f.reach_fits;
        counts_fit = f.counts_fit;
        writer_fits = f.writer_fits;
        readers_fit = readers_replaced lent panel reader work f.readers_fit e;
        stations_fit = f.stations_fit;
        place_fits = f.place_fits;
      })

  pub with_writer_in_range : (work : WriterWork) → writer_in_range panel.k work ≡ true → in_range lent (with_writer panel work) ≡ true
  unfolding with_writer
  with_writer_in_range work e =
      let f = fields lent panel h in
      is_in_range lent (with_writer panel work)
      (record {
        sizes_fit = f.sizes_fit;
        reach_fits = f.reach_fits;
        counts_fit = f.counts_fit;
        writer_fits = e;
        readers_fit = f.readers_fit;
        stations_fit = f.stations_fit;
        place_fits = f.place_fits;
      })

  pub with_reach_in_range : (reach : ℕ) → reach ≤ panel.k → in_range lent (with_reach panel reach) ≡ true
  unfolding with_reach
  with_reach_in_range reach e =
      let f = fields lent panel h in
      is_in_range lent (with_reach panel reach)
      (record {
        sizes_fit = f.sizes_fit;
        reach_fits = e;
        counts_fit = f.counts_fit;
        writer_fits = f.writer_fits;
        readers_fit = f.readers_fit;
        stations_fit = f.stations_fit;
        place_fits = f.place_fits;
      })

  pub with_count_in_range : (index count : ℕ) → count ≤ panel.m → in_range lent (with_count panel index count) ≡ true
  unfolding with_count with_counts counts_in_range
  with_count_in_range index count e =
      let f = fields lent panel h in
      is_in_range lent (with_count panel index count)
      (record {
        sizes_fit = f.sizes_fit;
        reach_fits = f.reach_fits;
        counts_fit = all_first_replaced (λ (c : ℕ). leb c panel.m) panel.k panel.counts index count f.counts_fit (le-leb count panel.m e);
        writer_fits = f.writer_fits;
        readers_fit = f.readers_fit;
        stations_fit = f.stations_fit;
        place_fits = f.place_fits;
      })

  pub with_station_in_range : (station : ℕ) (last : Station) → station_in_range last ≡ true → in_range lent (with_station panel station last) ≡ true
  unfolding with_station with_stations stations_in_range
  with_station_in_range station last e =
      let f = fields lent panel h in
      is_in_range lent (with_station panel station last)
      (record {
        sizes_fit = f.sizes_fit;
        reach_fits = f.reach_fits;
        counts_fit = f.counts_fit;
        writer_fits = f.writer_fits;
        readers_fit = f.readers_fit;
        stations_fit = all_replaced station_in_range panel.stations station last f.stations_fit e;
        place_fits = f.place_fits;
      })

  pub with_place_in_range : (place : ℕ) → place ≤ 16 → in_range lent (with_place panel place) ≡ true
  unfolding with_place
  with_place_in_range place e =
      let f = fields lent panel h in
      is_in_range lent (with_place panel place)
      (record {
        sizes_fit = f.sizes_fit;
        reach_fits = f.reach_fits;
        counts_fit = f.counts_fit;
        writer_fits = f.writer_fits;
        readers_fit = f.readers_fit;
        stations_fit = f.stations_fit;
        place_fits = e;
      })

  -- "how many stored points use it (0 to m)", of an index that is judged
  pub count_in_range : (index : ℕ) → index ≤ panel.k → count_of panel index ≤ panel.m
  unfolding count_of counts_in_range
  count_in_range index e =
      leb-true (count_of panel index) panel.m
      (all_first_at (λ (c : ℕ). leb c panel.m) panel.k panel.counts index 0 (fields lent panel h).counts_fit (leb-zero panel.m) e)

pub fresh_in_range : (m k lent : ℕ) → sizes_in_range m k lent ≡ true → in_range lent (fresh_record m k) ≡ true
unfolding in_range parts_in_range fresh_record counts_in_range writer_in_range readers_in_range reader_in_range work_in_range stations_in_range station_in_range both either
fresh_in_range m k lent h =
    both_true _ _ h
    (both_true _ _ (leb-zero k)
    (both_true _ _ (all_take (λ (count : ℕ). leb count m) k (replicate 64 0) (all_replicate (λ (count : ℕ). leb count m) 64 0 (leb-zero m))) refl))

-- "the record handed back is all zeros": every later call with it is refused
pub zeros_out_of_range : (lent : ℕ) → in_range lent (fresh_record 0 0) ≡ false
unfolding in_range parts_in_range fresh_record sizes_in_range both within
zeros_out_of_range lent = refl
