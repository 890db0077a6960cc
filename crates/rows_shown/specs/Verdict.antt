-- The plain list's rows beside the slots: the word of a row by its place, and what a test of a statement says.
use Rattle.std.specs.Prelude.{ℕ, Bool, true, false, cond, [], ◌∷◌, eqb}
use Rattle.slot_words.specs.Word.{word_of}
use Rattle.plain_list.specs.PlainList.{Rows}

-- the word of the latest row with that place; 0 if no row has it
unfoldable pub word_listed : ℕ → Rows → ℕ
word_listed place [] = 0
word_listed place (r ∷ rows) = cond (eqb r.place place) (word_of r.point r.value) (word_listed place rows)

-- the test says whether the statement holds
abbrev pub Decides : Type 0 → Bool → Type 0
Decides P true = P
Decides P false = P → ⊥
