-- Laws of a run of digits, for the loop that reads it: what was read and what is left make up the whole run.
-- A run of at most ten digits says less than 10^10, so that no sum in the loop wraps.
use Prim.Native.Nat.{ℕ, zero, suc, ◌+◌, ◌*◌, ◌-◌, ◌≤◌, ◌<◌, min}
use mathlib.Core.Path.{◌≡◌, refl, sym, ◌∙◌, ap}
use mathlib.Core.Bool.{Bool, true, false, cond}
use mathlib.Core.List.{List, [], ◌∷◌}
use native.Mathlib.Numerals.{add-one}
use native.Mathlib.Omega.{arith}
use borrow.Author.Tests.{leb-true, leb-false}
use lib.Dec.{leb}
use lib.ListN.{length, get_or, take, drop, length-take, drop_of_length-le}
use Rattle.std.proofs.Common.{length-drop, length-take-le, get_or-drop, get_or-take}
use lib.Seq.{slice, slice-cons}
use Rattle.conditions.proofs.ConditionLaws.{within_high}
use Rattle.line.specs.declared.field.Field.{Field}
use Rattle.line.specs.declared.field.Field.TheVariants.{Empty}
use Rattle.line.specs.Grammar.{digit, all_digits, decimal}
use Rattle.line.specs.LineState.{digits_field, field_from}
use Rattle.line.specs.LineParts.{leading_digits, run_of}
use Rattle.line.proofs.FieldLaws.{grows, digits_kept}

leading_none : (room : ℕ) → leading_digits room [] ≡ []
unfolding leading_digits
leading_none zero = refl
leading_none (suc room) = refl

leading_all : (room : ℕ) (bytes : List ℕ) → all_digits (leading_digits room bytes) ≡ true
unfolding leading_digits all_digits
leading_all zero bytes = refl
leading_all (suc room) [] = refl
leading_all (suc room) (byte ∷ bytes) = go (digit byte) refl (leading_all room bytes)
  where
    go : (d : Bool) → digit byte ≡ d → all_digits (leading_digits room bytes) ≡ true → all_digits (cond d (byte ∷ leading_digits room bytes) []) ≡ true
    go true e later = rw e later
    go false e later = refl

leading_few : (room : ℕ) (bytes : List ℕ) → length (leading_digits room bytes) ≤ room
unfolding leading_digits
leading_few zero bytes = omega arith
leading_few (suc room) [] = omega arith
leading_few (suc room) (byte ∷ bytes) = go (digit byte) (leading_few room bytes)
  where
    go : (d : Bool) → length (leading_digits room bytes) ≤ room → length (cond d (byte ∷ leading_digits room bytes) []) ≤ suc room
    go true later = omega arith
    go false later = omega arith

-- a value with so many nines behind it
nines : ℕ → ℕ → ℕ
nines zero value = value
nines (suc room) value = nines room (value * 10 + 9)

nines_grow : (room a b : ℕ) → a ≤ b → a ≤ nines room b
unfolding nines
nines_grow zero a b h = h
nines_grow (suc room) a b h = nines_grow room a (b * 10 + 9) (omega arith)

leading_high : (room : ℕ) (bytes : List ℕ) (a b : ℕ) → a ≤ b → decimal a (leading_digits room bytes) ≤ nines room b
unfolding leading_digits decimal digit nines
leading_high zero bytes a b h = h
leading_high (suc room) [] a b h = nines_grow (suc room) a b h
leading_high (suc room) (byte ∷ bytes) a b h = go (digit byte) refl (leading_high room bytes next (b * 10 + 9))
  where
    next : ℕ
    next = a * 10 + (byte - 48)

    go : (d : Bool) → digit byte ≡ d → (next ≤ b * 10 + 9 → decimal next (leading_digits room bytes) ≤ nines room (b * 10 + 9)) → decimal a (cond d (byte ∷ leading_digits room bytes) []) ≤ nines (suc room) b
    go true e later = later (omega (arith, within_high 48 byte 57 e))
    go false e later = nines_grow (suc room) a b h

leading_small : (bytes : List ℕ) → decimal 0 (leading_digits 10 bytes) ≤ 9999999999
unfolding nines
leading_small bytes = leading_high 10 bytes 0 0 (omega arith)

pub slice_none : (l : List ℕ) (i to : ℕ) → to ≤ i → slice i to l ≡ []
slice_none l i to h =
    let short : length (take to l) ≤ i = simp length-take (omega arith) in
    drop_of_length-le (take to l) short

-- of the bytes from a place on, so many of them: how many there are, and that each is the buffer's
module _ (l : List ℕ) (from n k : ℕ) (inside : from + n ≤ length l) where
  pub run_length : length (take (from + n - from) (drop from l)) ≡ n
  run_length =
      let many : from + n - from ≡ n = omega arith in
      rw many (length-take-le n (drop from l) (simp length-drop (omega arith)))

  pub run_byte : k < n → get_or (take (from + n - from) (drop from l)) k 0 ≡ get_or l (from + k) 0
  run_byte more = get_or-take (from + n - from) (drop from l) k 0 (omega arith) ∙ get_or-drop from l k 0

-- the digits of a run that are left at a place
unfoldable pub left_at : List ℕ → ℕ → ℕ → ℕ → List ℕ
left_at l from to i = leading_digits (from + 10 - i) (slice i to l)

-- a run was read up to a place: with the digits that are left it has its length, and says what it says
pub record RunRead (l : List ℕ) (from to value i : ℕ) : Type 0 where
  pub count : i + length (left_at l from to i) ≡ from + length (leading_digits 10 (slice from to l))
  pub says : decimal value (left_at l from to i) ≡ decimal 0 (leading_digits 10 (slice from to l))

module _ (l : List ℕ) (from to : ℕ) where
  pub run_begun : RunRead l from to 0 from
  unfolding left_at
  run_begun =
      let ten : from + 10 - from ≡ 10 = omega arith in
      record { count = rw ten; says = rw ten }

  pub run_few : {value i : ℕ} → RunRead l from to value i → i ≤ from + 10
  run_few read = omega (arith, read.count, leading_few 10 (slice from to l))

  pub run_small : {value i : ℕ} → RunRead l from to value i → value ≤ 9999999999
  run_small {value} {i} read = omega (arith, read.says, grows value (left_at l from to i), leading_small (slice from to l))

  -- at a byte in front of which not all of the run was read
  module _ (i : ℕ) (room : i < from + 10) (more : i < to) (inside : to ≤ length l) where
    left_step : left_at l from to i ≡ cond (digit (get_or l i 0)) (get_or l i 0 ∷ left_at l from to (i + 1)) []
    unfolding left_at leading_digits
    left_step =
        let step : from + 10 - i ≡ suc (from + 10 - (i + 1)) = omega arith in
        rw (step, slice-cons i to l 0 more inside, add-one i)

    pub run_more : {value : ℕ} → digit (get_or l i 0) ≡ true → RunRead l from to value i → RunRead l from to (value * 10 + (get_or l i 0 - 48)) (i + 1)
    unfolding decimal
    run_more {value} e read =
        let left = rw e at left_step in
        record { count = omega (arith, read.count, ap length left); says = sym (ap (decimal value) left) ∙ read.says }

    pub left_other : digit (get_or l i 0) ≡ false → left_at l from to i ≡ []
    left_other e = rw e at left_step

  pub left_stopped : (i : ℕ) → from ≤ to → from + min (to - from) 10 ≤ i → left_at l from to i ≡ []
  unfolding left_at leading_digits
  left_stopped i h stopped = go (leb (from + 10) i) refl
    where
      go : (b : Bool) → leb (from + 10) i ≡ b → leading_digits (from + 10 - i) (slice i to l) ≡ []
      go true e =
          let none : from + 10 - i ≡ 0 = omega (arith, leb-true (from + 10) i e) in
          rw none
      go false e =
          rw (slice_none l i to (omega (arith, leb-false (from + 10) i e))) (leading_none (from + 10 - i))

  pub run_ended : (field : Field) {value i : ℕ} → from ≤ i → left_at l from to i ≡ [] → RunRead l from to value i → field ≡ digits_field (i - from) value → record { field = field; next = i } ≡ run_of from (slice from to l)
  unfolding run_of decimal
  run_ended field {value} {i} h none read e =
      let run = leading_digits 10 (slice from to l) in
      let counted : i ≡ from + length run = omega (arith, read.count, ap length none) in
      let many : i - from ≡ length run = omega arith in
      let said : value ≡ decimal 0 run = sym (ap (decimal value) none) ∙ read.says in
      let kept : field ≡ field_from Empty run = e ∙ rw (many, said) (sym (digits_kept run (leading_all 10 _) (leading_few 10 _))) in
      rw (kept, counted)
