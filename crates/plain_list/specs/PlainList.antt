-- Document 01, "The plain list". It knows nothing of the reach, of counts, of stages or of steps.
use Rattle.std.specs.Prelude.{ℕ, zero, suc, ◌<◌, max, Bool, false, cond, not, List, [], ◌∷◌, ◌≡◌, eqb, length, get_or}
use Rattle.std.specs.Int.Bits.{bit_and, bit_xor}
use Rattle.conditions.specs.Conditions.{either}
use Rattle.refusal.specs.Judging.{or_else}
use Rattle.hash.specs.Position.{position_of}
use Rattle.slot_words.specs.Word.{word_of}
use Rattle.answers.specs.Answers.{Ending, looked_up, placed, changed, removed, ended_with}

-- "rows of point, value and place"
pub record Row : Type 0 where
  pub point : ℕ
  pub value : ℕ
  pub place : ℕ

-- a row of these three
abbrev pub row : ℕ → ℕ → ℕ → Row
row point value place = record { point = point; value = value; place = place }

-- "The plain list has rows"
abbrev pub Rows : Type 0
Rows = List Row

-- a point's row: none, or its value and place
pub data Entry : Type 0 where
  absent : Entry
  present : ℕ → ℕ → Entry

-- "the point's row"
unfoldable pub entry_of : ℕ → Rows → Entry
entry_of point [] = absent
entry_of point (r ∷ rows) = cond (eqb r.point point) (present r.value r.place) (entry_of point rows)

-- "the point's row gets the value"
unfoldable pub with_value : ℕ → ℕ → Rows → Rows
with_value point value [] = []
with_value point value (r ∷ rows) =
    row r.point (cond (eqb r.point point) value r.value) r.place ∷ with_value point value rows

-- "the row goes"
unfoldable pub without : ℕ → Rows → Rows
without point [] = []
without point (r ∷ rows) = cond (eqb r.point point) (without point rows) (r ∷ without point rows)

-- some row's place
unfoldable pub is_place : ℕ → Rows → Bool
is_place place [] = false
is_place place (r ∷ rows) = either (eqb r.place place) (is_place place rows)

-- the lowest of 1 to n that passes the test, or 0
unfoldable pub lowest : (ℕ → Bool) → ℕ → ℕ
lowest test zero = 0
lowest test (suc i) = or_else (lowest test i) (cond (test (suc i)) (suc i) 0)

-- "the row's *index*, the lowest i whose position is the place"
unfoldable pub index_of : ℕ → ℕ → ℕ → ℕ → ℕ
index_of m k point place = lowest (λ (i : ℕ). eqb (position_of m point i) place) k

-- "the first of positions 1 to k that is no row's place": which of them, or 0
unfoldable pub first_free : ℕ → ℕ → ℕ → Rows → ℕ
first_free m k point rows = lowest (λ (i : ℕ). not (is_place (position_of m point i) rows)) k

-- "the largest index of a row left, or 0"
unfoldable pub largest_index : ℕ → ℕ → Rows → ℕ
largest_index m k [] = 0
largest_index m k (r ∷ rows) = max (index_of m k r.point r.place) (largest_index m k rows)

-- what the list becomes, and what it answers
pub record Told : Type 0 where
  pub rows : Rows
  pub answer : Ending

-- the two
abbrev pub tells : Rows → Ending → Told
tells rows answer = record { rows = rows; answer = answer }

-- "No row: one is added, its place the first of positions 1 to k that is no row's place; if none, 6. Answer: the place, and the row's *index*"
unfoldable pub add_row : ℕ → ℕ → ℕ → ℕ → Rows → ℕ → Told
add_row m k point value rows zero = tells rows (ended_with 6)
add_row m k point value rows (suc i) =
    tells (row point value (position_of m point (suc i)) ∷ rows)
    (placed (position_of m point (suc i)) (index_of m k point (position_of m point (suc i))))

-- "the point's row gets the value", or one is added
unfoldable pub put_entry : ℕ → ℕ → ℕ → ℕ → Rows → Entry → Told
put_entry m k point value rows absent = add_row m k point value rows (first_free m k point rows)
put_entry m k point value rows (present old place) = tells (with_value point value rows) (placed place (index_of m k point place))

-- "Put"
unfoldable pub put_row : ℕ → ℕ → ℕ → ℕ → Rows → Told
put_row m k point value rows = put_entry m k point value rows (entry_of point rows)

-- "the row's value becomes (value AND keep) XOR flip, also the answer; no row, 7"
unfoldable pub change_entry : ℕ → ℕ → ℕ → Rows → Entry → Told
change_entry point keep flip rows absent = tells rows (ended_with 7)
change_entry point keep flip rows (present value place) =
    tells (with_value point (bit_xor (bit_and value keep) flip) rows) (changed (bit_xor (bit_and value keep) flip))

-- "Change"
unfoldable pub change_row : ℕ → ℕ → ℕ → Rows → Told
change_row point keep flip rows = change_entry point keep flip rows (entry_of point rows)

-- "the row goes. Answer: the largest index of a row left, or 0; no row, 7"
unfoldable pub remove_entry : ℕ → ℕ → ℕ → Rows → Entry → Told
remove_entry m k point rows absent = tells rows (ended_with 7)
remove_entry m k point rows (present value place) = tells (without point rows) (removed (largest_index m k (without point rows)))

-- "Remove"
unfoldable pub remove_row : ℕ → ℕ → ℕ → Rows → Told
remove_row m k point rows = remove_entry m k point rows (entry_of point rows)

-- "the row's value, or 7"
unfoldable pub lookup_entry : Entry → Ending
lookup_entry absent = ended_with 7
lookup_entry (present value place) = looked_up value

-- "Lookup"
unfoldable pub lookup_row : ℕ → Rows → Ending
lookup_row point rows = lookup_entry (entry_of point rows)

-- an operation with its arguments: "each put, change and removal"
pub data Operation : Type 0 where
  nothing : Operation
  put : (point value : ℕ) → Operation
  change : (point keep flip : ℕ) → Operation
  removal : (point : ℕ) → Operation

-- "It is fed the arguments of each put, change and removal that is started"; `nothing` is about no point, and so tells 7 like an operation whose point has no row
unfoldable pub feed : ℕ → ℕ → Operation → Rows → Told
feed m k nothing rows = tells rows (ended_with 7)
feed m k (put point value) rows = put_row m k point value rows
feed m k (change point keep flip) rows = change_row point keep flip rows
feed m k (removal point) rows = remove_row m k point rows

-- the statement holds of each element
abbrev pub Each : {A : Type 0} → (A → Type 0) → List A → Type 0
Each P [] = Unit {0}
Each P (x ∷ rest) = P x × Each P rest

-- the statement holds of some element
pub data Some {A : Type 0} (P : A → Type 0) : List A → Type 0 where
  here : {x : A} {rest : List A} → P x → Some P (x ∷ rest)
  there : {x : A} {rest : List A} → Some P rest → Some P (x ∷ rest)

-- a row's word stands at its place
pub record AtPlace (m : ℕ) (slots : List ℕ) (r : Row) : Type 0 where
  pub inside : r.place < m
  pub word : get_or slots r.place 0 ≡ word_of r.point r.value

-- "the slots are 0 except for each row's word at its place"
pub record Shows (m : ℕ) (slots : List ℕ) (rows : Rows) : Type 0 where
  pub whole : length slots ≡ m
  pub words : Each (AtPlace m slots) rows
  pub others : (slot : ℕ) → slot < m → is_place slot rows ≡ false → get_or slots slot 0 ≡ 0
