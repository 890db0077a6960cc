-- Laws of `taken_slots`: a slot at a time, for a loop over the slots; after one slot was stored, and how many there are at most.
use Prim.Native.Nat.{ℕ, ◌+◌, ◌<◌, ◌≤◌}
use mathlib.Core.Path.{◌≡◌, ap}
use mathlib.Core.Bool.{Bool, cond, not}
use mathlib.Core.List.{List}
use mathlib.Core.Logic.{◌≢◌}
use native.Mathlib.Omega.{arith}
use borrow.Author.Tests.{eq-eqb, ne_eqb}
use lib.Dec.{eqb}
use lib.ListN.{length, length-set, get_or, set, take}
use Rattle.std.specs.List.{count_by}
use Rattle.std.proofs.lemmas.List.Sums.{count_by-le-length, count_by_more_yes, count_by_more_no, length-filter, sum_by-set}
use Rattle.slot_words.specs.Taken.{taken_slots}

abbrev is_taken : ℕ → Bool
is_taken word = not (eqb word 0)

counted : (slots : List ℕ) → taken_slots slots ≡ count_by is_taken slots
unfolding taken_slots
counted slots = length-filter is_taken slots

-- the slots before one, and that one
module _ (slots : List ℕ) (i : ℕ) (inside : i < length slots) where
  pub taken_more : get_or slots i 0 ≢ 0 → taken_slots (take (i + 1) slots) ≡ taken_slots (take i slots) + 1
  taken_more e = rw (counted (take (i + 1) slots), counted (take i slots)) (count_by_more_yes is_taken slots i 0 inside (ap not (ne_eqb (get_or slots i 0) 0 e)))

  pub taken_same : get_or slots i 0 ≡ 0 → taken_slots (take (i + 1) slots) ≡ taken_slots (take i slots)
  taken_same e = rw (counted (take (i + 1) slots), counted (take i slots)) (count_by_more_no is_taken slots i 0 inside (ap not (eq-eqb (get_or slots i 0) 0 e)))

-- each slot counts for itself
stored : (slots : List ℕ) (i word : ℕ) → i < length slots → taken_slots (set slots i word) + cond (is_taken (get_or slots i 0)) 1 0 ≡ taken_slots slots + cond (is_taken word) 1 0
stored slots i word h =
    rw (counted slots, counted (set slots i word)) (sum_by-set (λ (w : ℕ). cond (is_taken w) 1 0) slots i word 0 h)

module _ (slots : List ℕ) (i : ℕ) where
  -- a word in the place of another
  pub taken_replaced : (word : ℕ) → word ≢ 0 → i < length slots → get_or slots i 0 ≢ 0 → taken_slots (set slots i word) ≡ taken_slots slots
  taken_replaced word w h e =
      let s = rw (ne_eqb word 0 w, ne_eqb (get_or slots i 0) 0 e) at (stored slots i word h) in
      omega arith

  -- a word in an empty slot
  pub taken_added : (word : ℕ) → word ≢ 0 → i < length slots → get_or slots i 0 ≡ 0 → taken_slots (set slots i word) ≡ taken_slots slots + 1
  taken_added word w h e =
      let s = rw (ne_eqb word 0 w, eq-eqb (get_or slots i 0) 0 e) at (stored slots i word h) in
      omega arith

  -- a slot emptied
  pub taken_emptied : i < length slots → get_or slots i 0 ≢ 0 → taken_slots (set slots i 0) + 1 ≡ taken_slots slots
  taken_emptied h e = let s = rw (ne_eqb (get_or slots i 0) 0 e) at (stored slots i 0 h) in omega arith

pub taken_high : (slots : List ℕ) → taken_slots slots ≤ length slots
taken_high slots = omega (arith, counted slots, count_by-le-length is_taken slots)

-- an empty slot leaves fewer taken than there are
pub taken_room : (slots : List ℕ) (i : ℕ) → i < length slots → get_or slots i 0 ≡ 0 → taken_slots slots < length slots
taken_room slots i h e =
    omega (arith, taken_added slots i 1 (omega arith) h e, taken_high (set slots i 1), length-set slots i 1)
