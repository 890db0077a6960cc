-- Laws of the rows that an array holds: the newest row; what is found among them.
use Rattle.std.proofs.Common.{◌≡◌, ℕ, zero, suc, max, Bool, true, false, cond, List, [], ◌∷◌, ◌++◌, map, reverse, length, refl, sym, ap, ◌∙◌, arith, Some}
use Rattle.std.specs.Prelude.{◌==◌}
use Rattle.std.specs.List.{find, list_any, reduce, fold}
use Rattle.std.specs.Option.{unwrap_or}
use Rattle.std.proofs.lemmas.List.{reverse-append, length-reverse}
use Rattle.std.proofs.lemmas.List.Sorted.{list_any-IsPermutation, IsPermutation-reverse}
use Rattle.conditions.specs.Conditions.{either}
use Rattle.slot_words.specs.Word.{point_of}
use Rattle.plain_list.specs.PlainList.{Row, Rows, entry_of, is_place, index_of, largest_index}
use Rattle.plain_rows.specs.declared.Row.{Row as RowHeld}
use Rattle.plain_rows.specs.Rows.{row_of, rows_of, rows_below, entry_read}

pub rows_none : rows_of [] ≡ []
unfolding rows_of
rows_none = refl

-- a row behind the others is the newest
pub rows_more : (xs : List RowHeld) (r : RowHeld) → rows_of (xs ++ (r ∷ [])) ≡ row_of r ∷ rows_of xs
unfolding rows_of
rows_more xs r = ap (map row_of) (reverse-append xs (r ∷ []))

length-map : (f : RowHeld → Row) (xs : List RowHeld) → length (map f xs) ≡ length xs
length-map f [] = refl
length-map f (x ∷ xs) = ap suc (length-map f xs)

pub rows_length : (xs : List RowHeld) → length (rows_of xs) ≡ length xs
unfolding rows_of
rows_length xs = length-map row_of (reverse xs) ∙ length-reverse xs

pub below_length : (xs : List RowHeld) (count : ℕ) → length (rows_below xs count) ≡ count
unfolding rows_below
below_length xs zero = refl
below_length xs (suc i) = ap suc (below_length xs i)

entry_mapped : (point : ℕ) (xs : List RowHeld) → entry_read (find (λ r. point_of r.word == point) xs) ≡ entry_of point (map row_of xs)
unfolding entry_of
entry_mapped point [] = refl
entry_mapped point (r ∷ xs) = go (point_of r.word == point) (entry_mapped point xs)
  where
    go : (b : Bool) → entry_read (find (λ r. point_of r.word == point) xs) ≡ entry_of point (map row_of xs) → entry_read (cond b (Some r) (find (λ r. point_of r.word == point) xs)) ≡ cond b (entry_read (Some r)) (entry_of point (map row_of xs))
    go true ih = refl
    go false ih = ih

-- from the newest row down, the first of the point
pub entry_found : (point : ℕ) (xs : List RowHeld) → entry_read (find (λ r. point_of r.word == point) (reverse xs)) ≡ entry_of point (rows_of xs)
unfolding rows_of
entry_found point xs = entry_mapped point (reverse xs)

place_mapped : (place : ℕ) (xs : List RowHeld) → list_any (λ r. r.place == place) xs ≡ is_place place (map row_of xs)
unfolding is_place either
place_mapped place [] = refl
place_mapped place (r ∷ xs) = rw (place_mapped place xs)

pub place_found : (place : ℕ) (xs : List RowHeld) → list_any (λ r. r.place == place) xs ≡ is_place place (rows_of xs)
unfolding rows_of
place_found place xs =
    list_any-IsPermutation (λ r. r.place == place) xs (reverse xs) (IsPermutation-reverse xs) ∙ place_mapped place (reverse xs)

largest_mapped : (m k a : ℕ) (xs : List RowHeld) → fold max a (map (λ r. index_of m k (point_of r.word) r.place) xs) ≡ max a (largest_index m k (map row_of xs))
unfolding largest_index
largest_mapped m k a [] = omega arith
largest_mapped m k a (r ∷ xs) = largest_mapped m k (max a (index_of m k (point_of r.word) r.place)) xs ∙ omega arith

largest_behind : (m k : ℕ) (rows : Rows) (r : Row) → largest_index m k (rows ++ (r ∷ [])) ≡ max (largest_index m k rows) (index_of m k r.point r.place)
unfolding largest_index
largest_behind m k [] r = omega arith
largest_behind m k (s ∷ rows) r = omega (arith, largest_behind m k rows r)

map_append : (xs ys : List RowHeld) → map row_of (xs ++ ys) ≡ map row_of xs ++ map row_of ys
map_append [] ys = refl
map_append (r ∷ xs) ys = ap (λ (rows : Rows). row_of r ∷ rows) (map_append xs ys)

largest_same : (m k : ℕ) (xs : List RowHeld) → largest_index m k (map row_of (reverse xs)) ≡ largest_index m k (map row_of xs)
unfolding largest_index
largest_same m k [] = refl
largest_same m k (r ∷ xs) =
    ap (λ (l : List RowHeld). largest_index m k (map row_of l)) (reverse-append (r ∷ []) xs)
    ∙ ap (largest_index m k) (map_append (reverse xs) (r ∷ []))
    ∙ largest_behind m k (map row_of (reverse xs)) (row_of r)
    ∙ omega (arith, largest_same m k xs)

pub largest_found : (m k : ℕ) (xs : List RowHeld) → unwrap_or (reduce max (map (λ r. index_of m k (point_of r.word) r.place) xs)) 0 ≡ largest_index m k (rows_of xs)
unfolding rows_of largest_index
largest_found m k [] = refl
largest_found m k (r ∷ xs) = largest_mapped m k (index_of m k (point_of r.word) r.place) xs ∙ sym (largest_same m k (r ∷ xs))
