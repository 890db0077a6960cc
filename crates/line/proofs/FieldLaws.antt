-- Laws of a field: what the code keeps of its bytes is read as the bytes are, as a number and as a letter.
-- Digits are followed from any count and value on; they stop being a number where the whole of them is none.
use Rattle.std.specs.Prelude.{Option, Some, None}
use Prim.Native.Nat.{ℕ, suc, ◌+◌, ◌*◌, ◌-◌, ◌≤◌, ◌<◌}
use mathlib.Core.Path.{◌≡◌, refl, sym, ◌∙◌, ap}
use mathlib.Core.Bool.{Bool, true, false, cond, ◌&&◌, true≢false, false≢true}
use mathlib.Core.List.{List, [], ◌∷◌}
use native.Mathlib.Nat.{add-zero, zero-add}
use native.Mathlib.Omega.{arith}
use borrow.Author.Tests.{ltb-true, ltb-false, lt-ltb, leb-true, leb-false, le-leb, lt-leb, ne_eqb}
use lib.Dec.{ltb, leb, eqb}
use lib.ListN.{length}
use Rattle.conditions.specs.Conditions.{both, within}
use Rattle.line.specs.declared.field.Field.{Field}
use Rattle.line.specs.declared.field.Field.TheVariants.{Empty, Letter, Digits, Other}
use Rattle.line.specs.Grammar.{digit, all_digits, decimal, is_number, read_number, is_letter}
use Rattle.line.specs.LineState.{kept, digits_field, digits_more, first_byte, field_more, field_from, number_of, is_letter_field}

other_stays : (bytes : List ℕ) → field_from Other bytes ≡ Other
unfolding field_from field_more
other_stays [] = refl
other_stays (byte ∷ bytes) = other_stays bytes

-- digits after more digits never say less
pub grows : (value : ℕ) (bytes : List ℕ) → value ≤ decimal value bytes
unfolding decimal
grows value [] = omega arith
grows value (byte ∷ bytes) = omega (arith, grows (value * 10 + (byte - 48)) bytes)

-- the number that is read where all three tests hold
abbrev read_if : Bool → Bool → Bool → ℕ → Option ℕ
read_if a b c n = cond (a && b && c) (Some n) None

not_second : (a b c : Bool) (n : ℕ) → b ≡ false → read_if a b c n ≡ None
not_second true b c n e = rw e
not_second false b c n e = refl

not_third : (a b c : Bool) (n : ℕ) → c ≡ false → read_if a b c n ≡ None
not_third true true c n e = rw e
not_third true false c n e = refl
not_third false b c n e = refl

-- what is read of digits that have these bytes behind them
abbrev digits_read : ℕ → ℕ → List ℕ → Option ℕ
digits_read count value bytes = read_if (all_digits bytes) (leb (count + length bytes) 10) (leb (decimal value bytes) 4294967295) (decimal value bytes)

abbrev DigitsRead : List ℕ → Type 0
DigitsRead bytes = (count value : ℕ) → count ≤ 10 → value ≤ 4294967295 → number_of (field_from (Digits (record { count = count; value = value })) bytes) ≡ digits_read count value bytes

-- digits with one byte more, by the three tests: it is a digit, there are not ten yet, and what they say is not too large
abbrev grown : Bool → Bool → Bool → ℕ → ℕ → Field
grown d t f count value = cond d (cond t (cond f (Digits (record { count = count; value = value })) Other) Other) Other

digits_step : (byte : ℕ) (bytes : List ℕ) → DigitsRead bytes → DigitsRead (byte ∷ bytes)
unfolding field_from field_more digits_more kept all_digits decimal number_of
digits_step byte bytes later count value hc hv = go (digit byte) (ltb count 10) (leb next 4294967295) refl refl
  where
    next : ℕ
    next = value * 10 + (byte - 48)

    digits : Bool
    digits = all_digits bytes

    few : Bool
    few = leb (count + suc (length bytes)) 10

    small : Bool
    small = leb (decimal next bytes) 4294967295

    go : (d t f : Bool) → ltb count 10 ≡ t → leb next 4294967295 ≡ f → number_of (field_from (grown d t f (count + 1) next) bytes) ≡ read_if (d && digits) few small (decimal next bytes)
    go false t f et ef = rw (other_stays bytes)
    go true false f et ef =
        let full = ltb-false count 10 et in
        let many = lt-leb (count + suc (length bytes)) 10 (omega arith) in
        rw (other_stays bytes) (sym (not_second digits few small (decimal next bytes) many))
    go true true false et ef =
        let above = leb-false next 4294967295 ef in
        let large = lt-leb (decimal next bytes) 4294967295 (omega (arith, grows next bytes)) in
        rw (other_stays bytes) (sym (not_third digits few small (decimal next bytes) large))
    go true true true et ef =
        let after_step : count + suc (length bytes) ≡ count + 1 + length bytes = omega arith in
        rw after_step (later (count + 1) next (omega (arith, ltb-true count 10 et)) (leb-true next 4294967295 ef))

digits_read_lem : (bytes : List ℕ) → DigitsRead bytes
unfolding field_from all_digits decimal number_of
digits_read_lem [] count value hc hv = rw (le-leb (count + 0) 10 (omega arith), le-leb value 4294967295 hv)
digits_read_lem (byte ∷ bytes) count value hc hv = digits_step byte bytes (digits_read_lem bytes) count value hc hv

-- digits with one digit more, as long as there are not ten
kept_more : (count value byte : ℕ) → digit byte ≡ true → count < 10 → field_more (kept count value) byte ≡ kept (count + 1) (value * 10 + (byte - 48))
unfolding kept field_more digits_more
kept_more count value byte d few = go (leb value 4294967295) refl
  where
    next : ℕ
    next = value * 10 + (byte - 48)

    go : (f : Bool) → leb value 4294967295 ≡ f → field_more (cond f (Digits (record { count = count; value = value })) Other) byte ≡ kept (count + 1) next
    go true e = rw (d, lt-ltb count 10 few)
    go false e =
        let above = leb-false value 4294967295 e in
        rw (lt-leb next 4294967295 (omega arith))

kept_from : (bytes : List ℕ) (count value : ℕ) → all_digits bytes ≡ true → count + length bytes ≤ 10 → field_from (kept count value) bytes ≡ kept (count + length bytes) (decimal value bytes)
unfolding field_from all_digits decimal
kept_from [] count value digits few = rw (add-zero count)
kept_from (byte ∷ bytes) count value digits few = go (digit byte) refl digits λ h. kept_from bytes (count + 1) next h (omega arith)
  where
    next : ℕ
    next = value * 10 + (byte - 48)

    Later : Type 0
    Later = field_from (kept (count + 1) next) bytes ≡ kept (count + 1 + length bytes) (decimal next bytes)

    go : (d : Bool) → digit byte ≡ d → d && all_digits bytes ≡ true → (all_digits bytes ≡ true → Later) → field_from (field_more (kept count value) byte) bytes ≡ kept (count + suc (length bytes)) (decimal next bytes)
    go true e rest later =
        let after_step : count + suc (length bytes) ≡ count + 1 + length bytes = omega arith in
        rw (kept_more count value byte e (omega arith), after_step) (later rest)
    go false e rest later = absurd (false≢true rest)

-- an empty field with up to ten digits more
pub digits_kept : (bytes : List ℕ) → all_digits bytes ≡ true → length bytes ≤ 10 → field_from Empty bytes ≡ digits_field (length bytes) (decimal 0 bytes)
unfolding field_from field_more first_byte all_digits decimal kept digits_field
digits_kept [] digits few = refl
digits_kept (byte ∷ bytes) digits few = go (digit byte) refl digits
  where
    n : ℕ
    n = suc (length bytes)

    go : (d : Bool) → digit byte ≡ d → d && all_digits bytes ≡ true → field_from (cond d (digits_more 0 0 byte) (Letter byte)) bytes ≡ digits_field n (decimal 0 (byte ∷ bytes))
    go true e later = kept_from (byte ∷ bytes) 0 0 digits (omega arith) ∙ rw (zero-add n, ne_eqb n 0 λ same. omega arith)
    go false e later = absurd (false≢true later)

letter_no_number : (letter : ℕ) (bytes : List ℕ) → number_of (field_from (Letter letter) bytes) ≡ None
unfolding field_from field_more number_of
letter_no_number letter [] = refl
letter_no_number letter (byte ∷ bytes) = rw (other_stays bytes)

-- a field's number is the number that its bytes are
pub reads_number : (bytes : List ℕ) → number_of (field_from Empty bytes) ≡ read_number bytes
unfolding field_from field_more first_byte number_of read_number is_number all_digits within both
reads_number [] = refl
reads_number (byte ∷ bytes) = go (digit byte) refl
  where
    n : ℕ
    n = suc (length bytes)

    whole : ℕ
    whole = decimal 0 (byte ∷ bytes)

    go : (d : Bool) → digit byte ≡ d → number_of (field_from (cond d (digits_more 0 0 byte) (Letter byte)) bytes) ≡ read_if (d && all_digits bytes) (leb 1 n && leb n 10) (leb whole 4294967295) whole
    go true e = digits_read_lem (byte ∷ bytes) 0 0 (omega arith) (omega arith) ∙ rw (e, zero-add n, le-leb 1 n (omega arith))
    go false e = letter_no_number byte bytes

digits_no_letter : (letter : ℕ) (bytes : List ℕ) (count value : ℕ) → is_letter_field letter (field_from (Digits (record { count = count; value = value })) bytes) ≡ false
unfolding field_from field_more digits_more kept is_letter_field
digits_no_letter letter [] count value = refl
digits_no_letter letter (byte ∷ bytes) count value = go (digit byte) (ltb count 10) (leb next 4294967295) (digits_no_letter letter bytes (count + 1) next)
  where
    next : ℕ
    next = value * 10 + (byte - 48)

    go : (d t f : Bool) → is_letter_field letter (field_from (grown true true true (count + 1) next) bytes) ≡ false → is_letter_field letter (field_from (grown d t f (count + 1) next) bytes) ≡ false
    go false t f later = rw (other_stays bytes)
    go true false f later = rw (other_stays bytes)
    go true true false later = rw (other_stays bytes)
    go true true true later = later

-- a field is a letter, no digit, where its bytes are that one
module _ (letter : ℕ) (no_digit : digit letter ≡ false) where
  pub other_digit : (byte : ℕ) → digit byte ≡ true → eqb byte letter ≡ false
  other_digit byte e = ne_eqb byte letter λ same. true≢false (sym e ∙ ap digit same ∙ no_digit)

  pub reads_letter : (bytes : List ℕ) → is_letter_field letter (field_from Empty bytes) ≡ is_letter letter bytes
  unfolding field_from field_more first_byte is_letter_field is_letter
  reads_letter [] = refl
  reads_letter (byte ∷ []) = go (digit byte) refl
    where
      go : (d : Bool) → digit byte ≡ d → is_letter_field letter (cond d (digits_more 0 0 byte) (Letter byte)) ≡ eqb byte letter
      go true e = digits_no_letter letter (byte ∷ []) 0 0 ∙ sym (other_digit byte e)
      go false e = refl
  reads_letter (byte ∷ next ∷ bytes) = go (digit byte)
    where
      go : (d : Bool) → is_letter_field letter (field_from (field_more (cond d (digits_more 0 0 byte) (Letter byte)) next) bytes) ≡ false
      go true = digits_no_letter letter (byte ∷ next ∷ bytes) 0 0
      go false = rw (other_stays bytes)
