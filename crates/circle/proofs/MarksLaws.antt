-- Who has work, in one number: its digits tell it, and so the party due is the one that the code finds by them.
use Rattle.std.proofs.Common.{◌≡◌, ℕ, zero, suc, ◌+◌, ◌-◌, ◌/◌, ◌%◌, ◌^◌, ◌<◌, ◌≤◌, Bool, true, false, cond, not, eqb, List, [], ◌∷◌, length, get_or, drop, sym, refl, ap, ◌∙◌, lt_of_le_of_lt, zero-add, add-one, one-add, arith, drop_of_length-le, drop-cons, shr-shr, lt-ltb, eq-eqb, ne_eqb, le-leb, ◌⊎◌, inl, inr}
use Rattle.std.proofs.lemmas.Bool.{lt-leb}
use lib.Count.{count_leading_zeros}
use lib.Bits.{bit_and, and_le_l}
use Rattle.conditions.specs.Conditions.{both}
use Rattle.conditions.proofs.ConditionLaws.{cond_holds}
use Rattle.record.specs.declared.Record.{Record}
use Rattle.record.specs.declared.Reader.{Reader}
use Rattle.record.specs.declared.WriterWork.{WriterWork}
use Rattle.record.specs.Parts.{idle_reader, work_of}
use Rattle.record.specs.Idle.{is_reader_idle, is_writer_idle}
use Rattle.circle.specs.Circle.{is_at_work}
use Rattle.circle.specs.Marks.{marked_with, marked_behind, all_marked, is_marked, due_by}
use Rattle.circle.proofs.HighestDigit.{digit_kept, highest, highest_none, highest_some, leading_enough, told_due, from_place}

-- the writer's digit, and those of the readers behind it
module _ (work : WriterWork) (marks : ℕ) where
  readers_kept : all_marked work marks % 65536 ≡ marks % 65536
  unfolding all_marked
  readers_kept =
      cond_holds (λ (digit : ℕ). (marks % 65536 + digit) % 65536 ≡ marks % 65536) (is_writer_idle work) 0 65536 (λ e. omega arith) (λ e. omega arith)

  all_small : all_marked work marks < 2 ^ 17
  unfolding all_marked
  all_small = cond_holds (λ (digit : ℕ). marks % 65536 + digit < 131072) (is_writer_idle work) 0 65536 (λ e. omega arith) (λ e. omega arith)

  writer_digit : is_marked work marks 0 ≡ eqb (all_marked work marks / 2 ^ 16 % 2) 1
  unfolding all_marked is_marked
  writer_digit = go (is_writer_idle work)
    where
      go : (idle : Bool) → not idle ≡ eqb ((marks % 65536 + cond idle 0 65536) / 65536 % 2) 1
      go true = sym (ne_eqb ((marks % 65536 + 0) / 65536 % 2) 1 (λ e. omega arith))
      go false = sym (eq-eqb ((marks % 65536 + 65536) / 65536 % 2) 1 (omega arith))

  reader_digit_lem : (reader : ℕ) → reader ≤ 15 → is_marked work marks (suc reader) ≡ eqb (marks / 2 ^ (15 - reader) % 2) 1
  unfolding is_marked both
  reader_digit_lem reader low = rw (lt-ltb reader 16 (omega arith))

  -- each digit tells of its party: the lowest of the last reader
  digits_tell : (i : ℕ) → i ≤ 16 → is_marked work marks (16 - i) ≡ eqb (all_marked work marks / 2 ^ i % 2) 1
  digits_tell i low = go (16 - i) (omega arith)
    where
      same : i ≤ 15 → marks / 2 ^ i % 2 ≡ all_marked work marks / 2 ^ i % 2
      same below =
          sym (digit_kept 16 marks i (omega arith))
          ∙ ap (λ (y : ℕ). y / 2 ^ i % 2) (sym readers_kept)
          ∙ digit_kept 16 (all_marked work marks) i (omega arith)

      go : (party : ℕ) → party + i ≡ 16 → is_marked work marks party ≡ eqb (all_marked work marks / 2 ^ i % 2) 1
      go zero whole =
          let last : i ≡ 16 = omega arith in
          rw last writer_digit
      go (suc reader) whole =
          let place : 15 - reader ≡ i = omega arith in
          reader_digit_lem reader (omega arith) ∙ rw place (ap (λ (n : ℕ). eqb n 1) (same (omega arith)))

pub due_outside : (fits : Bool) (place marks : ℕ) (work : WriterWork) → (fits ≡ false) ⊎ ((fits ≡ true) × (16 < place)) → 18 ≡ due_by fits place work marks
unfolding due_by both
due_outside fits place marks work (inl misfit) = rw misfit
due_outside fits place marks work (inr past) = rw (past.0, lt-leb place 16 past.1)

-- the party due, as the code finds it
module _ (marks all : ℕ) (work : WriterWork) (same : all ≡ all_marked work marks) where
  pub cut_leads : (mask : ℕ) → 15 ≤ count_leading_zeros 32 (bit_and all mask)
  cut_leads mask = leading_enough (bit_and all mask) (lt_of_le_of_lt (and_le_l all mask) (rw same (all_small work marks)))

  pub all_leads : 15 ≤ count_leading_zeros 32 all
  all_leads = leading_enough all (rw same (all_small work marks))

  module _ (fits : Bool) (place : ℕ) (fit : fits ≡ true) (low : place ≤ 16) where
    due_highest : highest (bit_and all (131072 / 2 ^ place - 1)) (count_leading_zeros 32 all - 15) ≡ due_by fits place work marks
    unfolding due_by both
    due_highest =
        rw (fit, le-leb place 16 low, same, from_place (all_marked work marks) place (omega arith))
        (sym (told_due (is_marked work marks) (all_marked work marks) (digits_tell work marks) place low (all_small work marks)))

    pub due_around : bit_and all (131072 / 2 ^ place - 1) ≡ 0 → count_leading_zeros 32 all - 15 ≡ due_by fits place work marks
    due_around none = sym (highest_none _ (count_leading_zeros 32 all - 15) none) ∙ due_highest

    pub due_ahead : (bit_and all (131072 / 2 ^ place - 1) ≡ 0 → ⊥)
        → count_leading_zeros 32 (bit_and all (131072 / 2 ^ place - 1)) - 15 ≡ due_by fits place work marks
    due_ahead some = sym (highest_some _ (count_leading_zeros 32 all - 15) some) ∙ due_highest

-- a reader's digit
reader_digit : Reader → ℕ
reader_digit reader = cond (is_reader_idle reader.work) 0 1

digit_small : (reader : Reader) → reader_digit reader ≤ 1
unfolding reader_digit
digit_small reader = cond_holds (λ (digit : ℕ). digit ≤ 1) (is_reader_idle reader.work) 0 1 (λ e. omega arith) (λ e. omega arith)

-- one more reader's digit moves the others by one, and is the lowest
module _ (marks : ℕ) (reader : Reader) where
  moved : (k : ℕ) → suc k < 32 → marked_with marks reader / 2 ^ suc k % 2 ≡ marks / 2 ^ k % 2
  unfolding marked_with reader_digit
  moved k low =
      let twice = marks + marks + reader_digit reader in
      let half : twice / 2 ≡ marks = omega (arith, digit_small reader) in
      digit_kept 32 twice (suc k) low
      ∙ ap (λ (n : ℕ). twice / 2 ^ n % 2) (sym (one-add k))
      ∙ ap (λ (n : ℕ). n % 2) (sym (shr-shr twice 1 k))
      ∙ ap (λ (n : ℕ). n / 2 ^ k % 2) half

  joined : marked_with marks reader / 2 ^ 0 % 2 ≡ reader_digit reader
  unfolding marked_with reader_digit
  joined = omega (arith, digit_small reader)

-- the same of as many readers as there are
moved_all : (readers : List Reader) (marks k : ℕ) → length readers + k < 32
    → marked_behind marks readers / 2 ^ (length readers + k) % 2 ≡ marks / 2 ^ k % 2
unfolding marked_behind
moved_all [] marks k low = rw (zero-add k)
moved_all (reader ∷ rest) marks k low =
    let further : suc (length rest) + k ≡ length rest + suc k = omega arith in
    rw further (moved_all rest (marked_with marks reader) (suc k) (omega arith) ∙ moved marks reader k (omega arith))

joined_all : (readers : List Reader) (marks n : ℕ) → n < length readers → length readers ≤ 32
    → marked_behind marks readers / 2 ^ (length readers - suc n) % 2 ≡ reader_digit (get_or readers n idle_reader)
unfolding marked_behind
joined_all [] marks n low high = absurd (omega arith)
joined_all (reader ∷ rest) marks zero low high =
    let behind : suc (length rest) - 1 ≡ length rest + 0 = omega arith in
    rw behind (moved_all rest (marked_with marks reader) 0 (omega arith) ∙ joined marks reader)
joined_all (reader ∷ rest) marks (suc n) low high =
    let behind : suc (length rest) - suc (suc n) ≡ length rest - suc n = omega arith in
    rw behind (joined_all rest (marked_with marks reader) n (omega arith) (omega arith))

-- an iteration of the loop over the readers, and its end
pub marked_next : (readers : List Reader) (marks i : ℕ) → i < length readers
    → marked_behind (marked_with marks (get_or readers i idle_reader)) (drop (i + 1) readers) ≡ marked_behind marks (drop i readers)
unfolding marked_behind
marked_next readers marks i low = rw (add-one i, drop-cons readers i idle_reader low)

pub marked_done : (readers : List Reader) (marks i : ℕ) → length readers ≤ i → marked_behind marks (drop i readers) ≡ marks
unfolding marked_behind
marked_done readers marks i past = rw (drop_of_length-le readers past)

digit_tells : (reader : Reader) → eqb (reader_digit reader) 1 ≡ not (is_reader_idle reader.work)
unfolding reader_digit
digit_tells reader = go (is_reader_idle reader.work)
  where
    go : (idle : Bool) → eqb (cond idle 0 1) 1 ≡ not idle
    go true = refl
    go false = refl

-- the marks of sixteen readers tell which party has work
pub marks_tell : (panel : Record) → length panel.readers ≡ 16 → (party : ℕ) → party ≤ 16
    → is_marked panel.writer.work (marked_behind 0 panel.readers) party ≡ is_at_work panel party
unfolding is_marked is_at_work work_of
marks_tell panel sixteen zero low = refl
marks_tell panel sixteen (suc n) low =
    let readers = panel.readers in
    let place : 15 - n ≡ length readers - suc n = omega arith in
    let digit = joined_all readers 0 n (omega arith) (omega arith) in
    reader_digit_lem panel.writer.work (marked_behind 0 readers) n (omega arith)
    ∙ rw place (ap (λ (d : ℕ). eqb d 1) digit)
    ∙ digit_tells (get_or readers n idle_reader)
