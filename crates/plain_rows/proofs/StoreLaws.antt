-- Laws of stores to the rows: a loop that gives a point's rows a value; a loop that moves down the rows of other points.
use Rattle.std.proofs.Common.{◌≡◌, ℕ, zero, suc, ◌+◌, ◌<◌, ◌≤◌, true, false, List, ◌∷◌, length, get_or, set, take, refl, sym, ap, ◌∙◌, arith, add-one, length-set, get_or-set_other}
use Rattle.std.proofs.Math.Seq.{take-suc, take-suc-set}
use Rattle.std.specs.Prelude.{eqb}
use borrow.Author.Tests.{eqb-true}
use Rattle.slot_words.specs.Word.{point_of, word_of}
use Rattle.slot_words.proofs.WordLaws.{word_point, word_value}
use Rattle.plain_list.specs.PlainList.{Rows, with_value, without}
use Rattle.plain_rows.specs.declared.Row.{Row as RowHeld}
use Rattle.plain_rows.specs.Rows.{row_of, rows_of, rows_below, no_row, SameFrom}
use Rattle.plain_rows.proofs.RowsLaws.{rows_more}

pub same_untouched : (n : ℕ) (l : List RowHeld) → SameFrom n l l
same_untouched n l = record { size = refl; rest = λ i h. refl }

pub same_stored : (l l' : List RowHeld) (i : ℕ) (r : RowHeld) → SameFrom i l l' → SameFrom (i + 1) l (set l' i r)
same_stored l l' i r s =
    record {
      size = length-set l' i r ∙ s.size;
      rest = λ j h. get_or-set_other l' i j r no_row (λ e. absurd (omega arith)) ∙ s.rest j (omega arith);
    }

-- one row more of the array
pub row_next : (l : List RowHeld) (i : ℕ) → i < length l → rows_of (take (i + 1) l) ≡ row_of (get_or l i no_row) ∷ rows_of (take i l)
row_next l i h = rw (add-one i, take-suc l i no_row h) (rows_more (take i l) (get_or l i no_row))

pub row_stored : (l : List RowHeld) (i : ℕ) (r : RowHeld) → i < length l → rows_of (take (i + 1) (set l i r)) ≡ row_of r ∷ rows_of (take i l)
row_stored l i r h = rw (add-one i, take-suc-set l i r h) (rows_more (take i l) r)

-- the rows of an array's own entries
pub below_held : (l : List RowHeld) (i : ℕ) → i ≤ length l → rows_below l i ≡ rows_of (take i l)
unfolding rows_below rows_of
below_held l zero h = refl
below_held l (suc i) h =
    ap (λ (rows : Rows). row_of (get_or l i no_row) ∷ rows) (below_held l i (omega arith)) ∙ sym (rw (← add-one i) (row_next l i (omega arith)))

module _ (l : List RowHeld) (point value : ℕ) where
  -- the point's rows below an index have the value
  pub record Revalues (l' : List RowHeld) (i : ℕ) : Type 0 where
    pub shown : rows_of (take i l') ≡ with_value point value (rows_of (take i l))
    pub stay : SameFrom i l l'

  pub revalues_none : Revalues l 0
  unfolding rows_of with_value
  revalues_none = record { shown = refl; stay = same_untouched 0 l }

  module _ (l' : List RowHeld) (i : ℕ) (done : Revalues l' i) (inside : i < length l) where
    pub revalues_stored : value < 4294967296 → eqb (point_of (get_or l' i no_row).word) point ≡ true → Revalues (set l' i (record { word = word_of point value; place = (get_or l' i no_row).place })) (i + 1)
    unfolding with_value
    revalues_stored fits e =
        let r : RowHeld = record { word = word_of point value; place = (get_or l' i no_row).place } in
        let same = done.stay.rest i (omega arith) in
        let there : eqb (point_of (get_or l i no_row).word) point ≡ true = ap (λ (x : RowHeld). eqb (point_of x.word) point) (sym same) ∙ e in
        record {
          shown = row_stored l' i r (omega (arith, done.stay.size))
              ∙ rw (word_point point value fits, word_value point value fits, done.shown, same, row_next l i inside, there, eqb-true _ _ there);
          stay = same_stored l l' i r done.stay;
        }

    pub revalues_kept : eqb (point_of (get_or l' i no_row).word) point ≡ false → Revalues (set l' i (get_or l' i no_row)) (i + 1)
    unfolding with_value
    revalues_kept e =
        let same = done.stay.rest i (omega arith) in
        record {
          shown = row_stored l' i (get_or l' i no_row) (omega (arith, done.stay.size))
              ∙ rw (done.shown, same, row_next l i inside, ap (λ (x : RowHeld). eqb (point_of x.word) point) (sym same) ∙ e);
          stay = same_stored l l' i (get_or l' i no_row) done.stay;
        }

module _ (l : List RowHeld) (point : ℕ) where
  -- the rows of other points below an index i have moved below `left`
  pub record Compacts (l' : List RowHeld) (i left : ℕ) : Type 0 where
    pub fewer : left ≤ i
    pub shown : rows_of (take left l') ≡ without point (rows_of (take i l))
    pub stay : SameFrom left l l'

  pub compacts_none : Compacts l 0 0
  unfolding rows_of without
  compacts_none = record { fewer = omega arith; shown = refl; stay = same_untouched 0 l }

  module _ (l' : List RowHeld) (i left : ℕ) (done : Compacts l' i left) (inside : i < length l) where
    pub compacts_gone : eqb (point_of (get_or l' i no_row).word) point ≡ true → Compacts l' (i + 1) left
    unfolding without
    compacts_gone e =
        let same = done.stay.rest i done.fewer in
        record {
          fewer = omega (arith, done.fewer);
          shown = done.shown ∙ rw (row_next l i inside, ap (λ (x : RowHeld). eqb (point_of x.word) point) (sym same) ∙ e);
          stay = done.stay;
        }

    pub compacts_kept : eqb (point_of (get_or l' i no_row).word) point ≡ false → Compacts (set l' left (get_or l' i no_row)) (i + 1) (left + 1)
    unfolding without
    compacts_kept e =
        let same = done.stay.rest i done.fewer in
        record {
          fewer = omega (arith, done.fewer);
          shown = row_stored l' left (get_or l' i no_row) (omega (arith, done.fewer, done.stay.size))
              ∙ rw (done.shown, same, row_next l i inside, ap (λ (x : RowHeld). eqb (point_of x.word) point) (sym same) ∙ e);
          stay = same_stored l l' left (get_or l' i no_row) done.stay;
        }
