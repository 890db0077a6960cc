-- A reader's work that was replaced: read again, replaced again or by what it was, and what it leaves to the other readers; its place among the readers.
use Prim.Native.Nat.{ℕ, ◌<◌}
use mathlib.Core.Path.{◌≡◌, refl, ap, ◌∙◌, sym}
use mathlib.Core.Bool.{Bool, true, false, cond}
use mathlib.Core.Logic.{◌≢◌}
use native.Mathlib.Omega.{arith}
use borrow.Author.Tests.{ltb-false}
use lib.Dec.{ltb}
use lib.ListN.{length, set}
use lib.Seq.{get_or-set_same, get_or-set_other, set-get_or, set-set}
use Rattle.record.specs.declared.Record.{Record}
use Rattle.record.specs.declared.Reader.{Reader}
use Rattle.record.specs.declared.ReaderWork.{ReaderWork}
use Rattle.record.specs.Parts.{idle_reader, reader_with, work_of, with_readers, with_work, reader_place}

pub work_replaced : (panel : Record) (reader : ℕ) (work : ReaderWork) → reader < length panel.readers → work_of (with_work panel reader work) reader ≡ work
unfolding work_of with_work with_readers
work_replaced panel reader work h =
    ap (λ (r : Reader). r.work) (get_or-set_same panel.readers reader (reader_with work) idle_reader h)

pub others_stay : (panel : Record) (reader other : ℕ) (work : ReaderWork) → other ≢ reader → work_of (with_work panel reader work) other ≡ work_of panel other
unfolding work_of with_work with_readers
others_stay panel reader other work h =
    ap (λ (r : Reader). r.work) (get_or-set_other panel.readers reader other (reader_with work) idle_reader h)

pub replaced_twice : (panel : Record) (reader : ℕ) (first second : ReaderWork) → with_work (with_work panel reader first) reader second ≡ with_work panel reader second
unfolding with_work with_readers
replaced_twice panel reader first second =
    let same = set-set panel.readers reader (reader_with first) (reader_with second) in
    ap (with_readers panel) same

pub same_work : (panel : Record) (reader : ℕ) (work : ReaderWork) → work_of panel reader ≡ work → with_work panel reader work ≡ panel
unfolding with_work with_readers work_of
same_work panel reader work e =
    let same = ap (λ (w : ReaderWork). set panel.readers reader (reader_with w)) (sym e) ∙ set-get_or panel.readers reader idle_reader in
    ap (with_readers panel) same

-- a place among the sixteen, whatever the reader
pub reader_place_inside : (reader : ℕ) → reader_place reader < 16
unfolding reader_place
reader_place_inside reader = go (ltb 15 reader) refl
  where
    go : (b : Bool) → ltb 15 reader ≡ b → cond b 0 reader < 16
    go true e = omega arith
    go false e = omega (arith, ltb-false 15 reader e)

-- of a reader that there is, its number
pub reader_place_known : (reader : ℕ) → ltb 15 reader ≡ false → reader_place reader ≡ reader
unfolding reader_place
reader_place_known reader e = rw e
