-- Where the array has room, feeding is the plain list's own: room for one row more is enough; and a table of m slots that agrees with its list
-- needs no more than m entries, so that no panel of document 01 meets the refusal.
use Prim.Native.Nat.{ℕ, zero, suc, ◌+◌, ◌<◌, ◌≤◌}
use mathlib.Core.Bool.{Bool, true, false, cond, not}
use mathlib.Core.List.{List, [], ◌∷◌}
use mathlib.Core.Logic.{◌⊎◌, inl, inr, ◌≢◌}
use mathlib.Core.Path.{◌≡◌, refl}
use native.Mathlib.Omega.{arith}
use borrow.Author.Tests.{not-true, le-leb}
use lib.Bits.{bit_and, bit_xor}
use lib.Dec.{eqb}
use lib.ListN.{length, get_or}
use Rattle.refusal.specs.Judging.{or_else}
use Rattle.hash.specs.Position.{position_of}
use Rattle.hash.proofs.Laws.{position_below}
use Rattle.slot_words.proofs.TakenLaws.{taken_high, taken_room}
use Rattle.plain_list.specs.PlainList.{Rows, Entry, absent, present, entry_of, without, is_place, lowest, first_free, add_row, put_entry, put_row, change_entry, change_row, remove_entry, remove_row, Operation, nothing, put, change, removal, feed}
use Rattle.plain_list.proofs.Agreement.{Agrees}
use Rattle.plain_list.proofs.RowLaws.{value_length, At, found_place}
use Rattle.conditions.specs.Conditions.{both}
use Rattle.plain_rows.specs.Rows.{RowsHeld, listed}
use Rattle.plain_rows.specs.Fed.{answered, if_room, in_room, fed_rows}
use Rattle.plain_rows.proofs.RowsLaws.{below_length}

without_high : (q : ℕ) (rows : Rows) → length (without q rows) ≤ length rows
unfolding without
without_high q [] = omega arith
without_high q (r ∷ rows) = go (eqb r.point q) (without_high q rows)
  where
    go : (b : Bool) → length (without q rows) ≤ length rows → length (cond b (without q rows) (r ∷ without q rows)) ≤ suc (length rows)
    go true h = omega arith
    go false h = omega arith

-- what is found passes the test
lowest_passes : (test : ℕ → Bool) (n : ℕ) → lowest test n ≢ 0 → test (lowest test n) ≡ true
unfolding lowest or_else
lowest_passes test zero h = absurd (h refl)
lowest_passes test (suc i) h = go (lowest test i) (lowest_passes test i) (test (suc i)) refl h
  where
    go : (low : ℕ) → (low ≢ 0 → test low ≡ true) → (b : Bool) → test (suc i) ≡ b → or_else low (cond b (suc i) 0) ≢ 0 → test (or_else low (cond b (suc i) 0)) ≡ true
    go zero ih true e h = e
    go zero ih false e h = absurd (h refl)
    go (suc low) ih b e h = ih h

-- a free position's slot is empty, so there are fewer rows than slots
free_room : (m k reach : ℕ) (counts slots : List ℕ) (rows : Rows) → Agrees m k reach counts slots rows → (q : ℕ) → first_free m k q rows ≢ 0 → length rows < m
unfolding first_free
free_room m k reach counts slots rows agrees q h =
    let place = position_of m q (first_free m k q rows) in
    let inside : place < m = position_below m q (first_free m k q rows) agrees.some_slot in
    let free : is_place place rows ≡ false = not-true _ (lowest_passes (λ (i : ℕ). not (is_place (position_of m q i) rows)) k h) in
    go place inside free (agrees.free place inside)
  where
    go : (place : ℕ) → place < m → is_place place rows ≡ false → (get_or slots place 0 ≡ 0) ⊎ At rows place → length rows < m
    go place inside free (inl z) = omega (arith, agrees.room, agrees.whole, taken_room slots place (omega (arith, agrees.whole)) z)
    go place inside free (inr w) = let taken = found_place w.point w.value place rows w.found in let z : ◌≡◌ {A = ℕ} 0 1 = cc in absurd (omega arith)

-- a list of at most n rows, of fewer where a position is free, has at most n rows after it was fed
module _ (m k n : ℕ) (rows : Rows) (few : length rows ≤ n) (fewer : (q : ℕ) → first_free m k q rows ≢ 0 → length rows < n) where
  added_high : (q value index : ℕ) → (index ≢ 0 → length rows < n) → length (add_row m k q value rows index).rows ≤ n
  unfolding add_row
  added_high q value zero h = few
  added_high q value (suc i) h = h (omega arith)

  put_high : (q value : ℕ) (entry : Entry) → length (put_entry m k q value rows entry).rows ≤ n
  unfolding put_entry
  put_high q value absent = added_high q value (first_free m k q rows) (fewer q)
  put_high q value (present old place) = omega (arith, value_length q value rows)

  change_high : (q keep flip : ℕ) (entry : Entry) → length (change_entry q keep flip rows entry).rows ≤ n
  unfolding change_entry
  change_high q keep flip absent = few
  change_high q keep flip (present value place) = omega (arith, value_length q (bit_xor (bit_and value keep) flip) rows)

  removal_high : (q : ℕ) (entry : Entry) → length (remove_entry m k q rows entry).rows ≤ n
  unfolding remove_entry
  removal_high q absent = few
  removal_high q (present value place) = omega (arith, without_high q rows)

  fed_high : (operation : Operation) → length (feed m k operation rows).rows ≤ n
  unfolding feed put_row change_row remove_row
  fed_high nothing = few
  fed_high (put q value) = put_high q value (entry_of q rows)
  fed_high (change q keep flip) = change_high q keep flip (entry_of q rows)
  fed_high (removal q) = removal_high q (entry_of q rows)

module _ (m k : ℕ) (list : RowsHeld) (operation : Operation) where
  -- an array of so many entries or more, and a list that keeps to so many rows
  within_room : (high : ℕ) → high ≤ length list.rows → list.count ≤ high → length (feed m k operation (listed list)).rows ≤ high → fed_rows m k operation list ≡ answered (feed m k operation (listed list))
  unfolding fed_rows in_room if_room both
  within_room high room before after =
      rw
      (le-leb list.count (length list.rows) (omega arith), le-leb (length (feed m k operation (listed list)).rows) (length list.rows) (omega arith))

  pub fed_with_room : list.count + 1 ≤ length list.rows → fed_rows m k operation list ≡ answered (feed m k operation (listed list))
  fed_with_room room =
      let size = below_length list.rows list.count in
      within_room (list.count + 1) room (omega arith) (fed_high m k (list.count + 1) (listed list) (omega arith) (λ q h. omega arith) operation)

  -- a table's own list has no more rows than the table has slots
  pub few_rows : (reach : ℕ) (counts slots : List ℕ) → Agrees m k reach counts slots (listed list) → list.count ≤ m
  few_rows reach counts slots agrees =
      omega (arith, below_length list.rows list.count, agrees.room, agrees.whole, taken_high slots)

  pub fed_by_panel : (reach : ℕ) (counts slots : List ℕ) → Agrees m k reach counts slots (listed list) → m ≤ length list.rows → fed_rows m k operation list ≡ answered (feed m k operation (listed list))
  fed_by_panel reach counts slots agrees room =
      let rows = listed list in
      let size = below_length list.rows list.count in
      let few : length rows ≤ m = omega (arith, agrees.room, agrees.whole, taken_high slots) in
      within_room m room (omega arith) (fed_high m k m rows few (free_room m k reach counts slots rows agrees) operation)
