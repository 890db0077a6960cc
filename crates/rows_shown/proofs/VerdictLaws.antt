-- The tests of the slots against the plain list, row by row and slot by slot, decide `Shows`; what is found among the rows.
use Rattle.std.proofs.Common.{◌≡◌, ℕ, zero, suc, ◌-◌, ◌<◌, Bool, true, false, cond, List, [], ◌∷◌, map, reverse, length, get_or, refl, sym, ap, ◌∙◌, arith, Some}
use Rattle.std.specs.Prelude.{◌==◌, eqb}
use Rattle.std.specs.Bool.{MatchBool}
use Rattle.std.specs.List.{find, AllWithin, HoldsAt}
use Rattle.std.specs.Option.{option_map_or}
use Rattle.std.proofs.lemmas.List.{reverse-reverse, length-reverse, get_or-reverse}
use Rattle.slot_words.specs.Word.{point_of, value_of, word_of}
use Rattle.plain_list.specs.PlainList.{Row, Each}
use Rattle.plain_rows.specs.declared.Row.{Row as RowHeld}
use Rattle.plain_rows.specs.Rows.{row_of, rows_of, no_row}
use Rattle.rows_shown.specs.Verdict.{word_listed, Decides}

module _ (P : Row → Type 0) where
  all_each : (xs : List RowHeld) → ((k : ℕ) (d : RowHeld) → k < length xs → P (row_of (get_or xs k d))) → Each P (map row_of xs)
  all_each [] all = tt
  all_each (r ∷ xs) all = (all 0 no_row (omega arith), all_each xs (λ k d h. all (suc k) d (omega arith)))

  each_all : (xs : List RowHeld) → Each P (map row_of xs) → (k : ℕ) (d : RowHeld) → k < length xs → P (row_of (get_or xs k d))
  each_all [] each k d h = absurd (omega arith)
  each_all (r ∷ xs) each zero d h = each.0
  each_all (r ∷ xs) each (suc k) d h = each_all xs each.1 k d (omega arith)

  -- a test of each row decides
  pub each_decided : (xs : List RowHeld) (r : Bool) → MatchBool r (AllWithin (λ x. P (row_of x)) xs 0 (length xs)) ((k : ℕ) × (k < length xs) × HoldsAt (λ x. P (row_of x) → ⊥) xs k) → Decides (Each P (rows_of xs)) r
  unfolding rows_of
  each_decided xs true all =
      all_each (reverse xs)
      (λ k d h.
      let inside : k < length xs = omega (arith, length-reverse xs) in
      rw (get_or-reverse xs k d inside) (all (length xs - 1 - k) d (omega arith) (omega arith)))
  each_decided xs false some = λ each.
      let long = length-reverse xs in
      let k = some.0 in
      let inside : k < length (reverse xs) = omega (arith, some.1) in
      let there = each_all (reverse xs) each (length (reverse xs) - 1 - k) no_row (omega arith) in
      let same : get_or (reverse xs) (length (reverse xs) - 1 - k) no_row ≡ get_or xs k no_row = sym (get_or-reverse (reverse xs) k no_row inside) ∙ ap (λ (l : List RowHeld). get_or l k no_row) (reverse-reverse xs) in
      some.2 no_row (rw same at there)

listed_mapped : (place : ℕ) (xs : List RowHeld) → option_map_or (λ (r : RowHeld). r.word) (find (λ r. r.place == place) xs) 0 ≡ word_listed place (map row_of xs)
unfolding word_listed
listed_mapped place [] = refl
listed_mapped place (r ∷ xs) = go (eqb r.place place) (listed_mapped place xs)
  where
    whole : r.word ≡ word_of (point_of r.word) (value_of r.word)
    whole = omega arith

    go : (b : Bool) → option_map_or (λ (x : RowHeld). x.word) (find (λ x. x.place == place) xs) 0 ≡ word_listed place (map row_of xs) → option_map_or (λ (x : RowHeld). x.word) (cond b (Some r) (find (λ x. x.place == place) xs)) 0 ≡ cond b (word_of (point_of r.word) (value_of r.word)) (word_listed place (map row_of xs))
    go true ih = whole
    go false ih = ih

-- the latest row's word, from the newest row down
pub listed_found : (place : ℕ) (xs : List RowHeld) → option_map_or (λ (r : RowHeld). r.word) (find (λ r. r.place == place) (reverse xs)) 0 ≡ word_listed place (rows_of xs)
unfolding rows_of
listed_found place xs = listed_mapped place (reverse xs)
