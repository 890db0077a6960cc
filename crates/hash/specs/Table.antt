-- Document 01: "z(1) to z(128) stand in a constant table, and its rule is wanted for all of it".
use Rattle.std.specs.Prelude.{ℕ, Bool, true, cond, ◌&&◌, List, [], ◌∷◌, eqb, leb, length}
use Rattle.hash.specs.Position.{next_of, z}

-- each entry is the generator's next value after the one before it
abbrev pub follows : ℕ → List ℕ → Bool
follows before [] = true
follows before (x ∷ xs) = eqb x (next_of before) && follows x xs

-- the table begins behind z(0) = 1 and has 128 entries
abbrev pub is_table : List ℕ → Bool
is_table xs = eqb (length xs) 128 && follows 1 xs

-- the table's z(j): 0 where it has none
unfoldable pub coefficient_of : ℕ → ℕ
coefficient_of j = cond (leb 1 j && leb j 128) (z j) 0
