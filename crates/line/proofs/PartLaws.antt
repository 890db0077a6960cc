-- Laws of a line read out of a buffer: one byte at a time, and a run of digits at a time, which comes to the same.
-- No digit is a line end or a space, so each goes to the last field.
use Prim.Native.Nat.{ℕ, zero, suc, ◌+◌, ◌≤◌, ◌<◌, min}
use mathlib.Core.Path.{◌≡◌, refl, sym, ◌∙◌}
use mathlib.Core.Bool.{Bool, true, false, cond, not, ◌&&◌, false≢true}
use mathlib.Core.List.{List, [], ◌∷◌, ◌++◌}
use native.Mathlib.Nat.{add-zero}
use native.Mathlib.Numerals.{add-one}
use native.Mathlib.Omega.{arith}
use borrow.Author.Tests.{leb-true, leb-false}
use lib.Dec.{leb, eqb}
use lib.ListN.{length, get_or, take, drop}
use lib.Seq.{slice, slice-cons, take_all, take-length, drop-drop}
use Rattle.conditions.specs.Conditions.{both, within}
use Rattle.line.specs.declared.field.Field.{Field}
use Rattle.line.specs.declared.field.Field.TheVariants.{Empty}
use Rattle.line.specs.declared.run.Run.{Run}
use Rattle.line.specs.declared.state.Fields.{Fields}
use Rattle.line.specs.declared.state.Line.{Line}
use Rattle.line.specs.Grammar.{digit}
use Rattle.line.specs.LineState.{field_more, field_from, next_field, same_field, line_begin, line_more, line_from, line_after}
use Rattle.line.specs.LineParts.{part_of, no_line_end, leading_digits, run_of}
use Rattle.line.proofs.FieldLaws.{other_digit}
use Rattle.line.proofs.RunLaws.{slice_none}

-- a place past the end counts as the end
pub slice_inside : (l : List ℕ) (from to : ℕ) → slice from (min to (length l)) l ≡ slice from to l
slice_inside l from to = go (leb to (length l)) refl
  where
    go : (b : Bool) → leb to (length l) ≡ b → slice from (min to (length l)) l ≡ slice from to l
    go true e =
        let same : min to (length l) ≡ to = omega (arith, leb-true to (length l) e) in
        rw same
    go false e =
        let past = leb-false to (length l) e in
        let same : min to (length l) ≡ length l = omega arith in
        rw (same, take-length l, take_all to l (omega arith))

module _ (line : Line) (l : List ℕ) (i to : ℕ) where
  pub part_none : to ≤ i → part_of line i (slice i to l) ≡ record { line = line; whole = false; next = i }
  unfolding part_of
  part_none h = rw (slice_none l i to h)

  module _ (more : i < to) (inside : to ≤ length l) where
    pub part_ended : get_or l i 0 ≡ 10 → part_of line i (slice i to l) ≡ record { line = line; whole = true; next = i + 1 }
    unfolding part_of
    part_ended e = rw (slice-cons i to l 0 more inside, e)

    pub part_more : eqb (get_or l i 0) 10 ≡ false → part_of (line_more line (get_or l i 0)) (i + 1) (slice (i + 1) to l) ≡ part_of line i (slice i to l)
    unfolding part_of
    part_more e = rw (slice-cons i to l 0 more inside, e, add-one i)

part_digit : (line : Line) (place byte : ℕ) (bytes : List ℕ) → digit byte ≡ true → part_of line place (byte ∷ bytes) ≡ part_of (same_field line byte) (place + 1) bytes
unfolding part_of line_more digit within both
part_digit line place byte bytes e = rw (other_digit 10 refl byte e, other_digit 32 refl byte e)

-- reading a run at once is the same as giving each of its bytes to the line
part_run : (room place : ℕ) (ended : Fields) (field : Field) (bytes : List ℕ) → part_of (record { ended = ended; last = field_from field (leading_digits room bytes) }) (place + length (leading_digits room bytes)) (drop (length (leading_digits room bytes)) bytes) ≡ part_of (record { ended = ended; last = field }) place bytes
unfolding leading_digits field_from same_field
part_run zero place ended field bytes = rw (add-zero place)
part_run (suc room) place ended field [] = rw (add-zero place)
part_run (suc room) place ended field (byte ∷ bytes) = go (digit byte) refl (part_run room (place + 1) ended (field_more field byte) bytes)
  where
    n : ℕ
    n = length (leading_digits room bytes)

    Later : Type 0
    Later = part_of (record { ended = ended; last = field_from (field_more field byte) (leading_digits room bytes) }) (place + 1 + n) (drop n bytes) ≡ part_of (record { ended = ended; last = field_more field byte }) (place + 1) bytes

    read : Bool → List ℕ
    read d = cond d (byte ∷ leading_digits room bytes) []

    go : (d : Bool) → digit byte ≡ d → Later → part_of (record { ended = ended; last = field_from field (read d) }) (place + length (read d)) (drop (length (read d)) (byte ∷ bytes)) ≡ part_of (record { ended = ended; last = field }) place (byte ∷ bytes)
    go true e later =
        let after_step : place + suc n ≡ place + 1 + n = omega arith in
        rw after_step (later ∙ sym (part_digit (record { ended = ended; last = field }) place byte bytes e))
    go false e later = rw (add-zero place)

run_joins : (ended : Fields) (l : List ℕ) (from to : ℕ) (run : Run) → run ≡ run_of from (slice from to l) → part_of (record { ended = ended; last = run.field }) run.next (slice run.next to l) ≡ part_of (record { ended = ended; last = Empty }) from (slice from to l)
unfolding run_of
run_joins ended l from to run e =
    let n = length (leading_digits 10 (slice from to l)) in
    rw (e, ← drop-drop n from (take to l)) (part_run 10 from ended Empty (slice from to l))

space_begins : (line given : Line) (byte : ℕ) → byte ≡ 32 → given ≡ line_more line byte → record { ended = given.ended; last = Empty } ≡ line_more line byte
unfolding line_more next_field
space_begins line given byte space e = rw (e, space)

-- behind a space the line goes on with a run of digits at once
pub part_field : (line : Line) (l : List ℕ) (i to : ℕ) (given : Line) (run : Run) → i < to → to ≤ length l → get_or l i 0 ≡ 32 → given ≡ line_more line (get_or l i 0) → run ≡ run_of (i + 1) (slice (i + 1) to l) → part_of (record { ended = given.ended; last = run.field }) run.next (slice run.next to l) ≡ part_of line i (slice i to l)
part_field line l i to given run more inside space e r =
    let no_end : eqb (get_or l i 0) 10 ≡ false = rw space in
    run_joins given.ended l (i + 1) to run r
    ∙ rw (space_begins line given (get_or l i 0) space e) (part_more line l i to more inside no_end)

pub run_forward : (from : ℕ) (bytes : List ℕ) (run : Run) → run ≡ run_of from bytes → from ≤ run.next
unfolding run_of
run_forward from bytes run e = rw e (omega arith)

-- bytes that are no line end go to the line
part_reads : (line : Line) (place : ℕ) (bytes later : List ℕ) → no_line_end bytes ≡ true → part_of line place (bytes ++ later) ≡ part_of (line_from line bytes) (place + length bytes) later
unfolding part_of line_from no_line_end
part_reads line place [] later h = rw (add-zero place)
part_reads line place (byte ∷ bytes) later h = go (eqb byte 10) h (part_reads (line_more line byte) (place + 1) bytes later)
  where
    given : Line
    given = line_more line byte

    Rest : Type 0
    Rest = no_line_end bytes ≡ true → part_of given (place + 1) (bytes ++ later) ≡ part_of (line_from given bytes) (place + 1 + length bytes) later

    go : (b : Bool) → not b && no_line_end bytes ≡ true → Rest → cond b (record { line = line; whole = true; next = place + 1 }) (part_of given (place + 1) (bytes ++ later)) ≡ part_of (line_from given bytes) (place + suc (length bytes)) later
    go true none rest = absurd (false≢true none)
    go false none rest =
        let after_step : place + suc (length bytes) ≡ place + 1 + length bytes = omega arith in
        rw after_step (rest none)

-- a whole line in a buffer is the line that was given the bytes before the line end
pub reads_part : (place : ℕ) (bytes later : List ℕ) → no_line_end bytes ≡ true → part_of line_begin place (bytes ++ 10 ∷ later) ≡ record { line = line_after bytes; whole = true; next = place + length bytes + 1 }
unfolding part_of line_after
reads_part place bytes later h = part_reads line_begin place bytes (10 ∷ later) h
