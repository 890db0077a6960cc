-- Document 01, "The plain list", in an array of rows: a row's point and value in a word, with its place.
use Rattle.std.specs.Prelude.{ℕ, zero, suc, ◌≤◌, List, [], ◌∷◌, ◌≡◌, Option, Some, None, length, get_or, map, reverse, take}
use Rattle.slot_words.specs.Word.{point_of, value_of}
use Rattle.plain_list.specs.PlainList.{Row, Rows, Entry, absent, present, row, without}
use Rattle.plain_rows.specs.declared.Row.{Row as RowHeld}
use Rattle.plain_rows.specs.declared.Rows.{Rows as RowsArray}

-- "rows of point, value and place": the row of an entry of the array, its point and value as a slot has them
abbrev pub row_of : RowHeld → Row
row_of r = row (point_of r.word) (value_of r.word) r.place

-- "The *plain list* has rows", "one is added": those of the entries, the newest first
unfoldable pub rows_of : List RowHeld → Rows
rows_of rows = map row_of (reverse rows)

-- an entry of nothing: what counts as one past the array's end
abbrev pub no_row : RowHeld
no_row = record { word = 0; place = 0 }

-- those below a count
unfoldable pub rows_below : List RowHeld → ℕ → Rows
rows_below rows zero = []
rows_below rows (suc i) = row_of (get_or rows i no_row) ∷ rows_below rows i

-- the code's list: entries, and how many of them hold its rows
pub record RowsHeld : Type 0 where
  pub rows : List RowHeld
  pub count : ℕ

-- of entries that are lent
abbrev pub counted : List RowHeld → ℕ → RowsHeld
counted rows count = record { rows = rows; count = count }

-- of an array's entries
abbrev pub in_array : {n : ℕ} → RowsArray n → RowsHeld
in_array list = counted list.rows list.count

-- the rows of the code's list: those below its count
abbrev pub listed : RowsHeld → Rows
listed list = rows_below list.rows list.count

-- the entries that hold them
abbrev pub held : RowsHeld → List RowHeld
held list = take list.count list.rows

-- "the point's row", as the code finds it
abbrev pub entry_read : Option RowHeld → Entry
entry_read None = absent
entry_read (Some r) = present (value_of r.word) r.place

-- an array is as long as before, and from an index on as before
pub record SameFrom (n : ℕ) (before after : List RowHeld) : Type 0 where
  pub size : length after ≡ length before
  pub rest : (i : ℕ) → n ≤ i → get_or after i no_row ≡ get_or before i no_row

-- "the row goes": the rows left are those below their number
pub record Removes (rows rows' : List RowHeld) (left point : ℕ) : Type 0 where
  pub fewer : left ≤ length rows
  pub shown : rows_of (take left rows') ≡ without point (rows_of rows)
  pub stay : SameFrom left rows rows'
