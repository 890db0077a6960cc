-- Laws of what feeding comes to: there is room for what the array shows after it, or it is refused and nothing is stored.
use Rattle.std.proofs.Common.{◌≡◌, ◌≢◌, ℕ, zero, suc, ◌-◌, ◌<◌, ◌≤◌, Bool, true, false, List, ◌∷◌, ◌++◌, length, get_or, take, drop, refl, sym, ap, ◌∙◌, arith, Ok, Err, length-append, length-drop, length-take-le, get_or-take, get_or-drop}
use Rattle.std.specs.Prelude.{leb}
use borrow.Author.Tests.{leb-true, leb-false, le-leb}
use Rattle.std.proofs.Math.Seq.{get_or-append_right}
use Rattle.std.proofs.lemmas.List.{get_or_append_left, take-append-le, take_all}
use Rattle.conditions.specs.Conditions.{both}
use Rattle.refusal.specs.declared.Refusal.TheVariants.{Misfit}
use Rattle.hash.specs.Position.{position_of}
use Rattle.answers.specs.declared.Ending.{Ending as EndingEnum}
use Rattle.answers.specs.declared.Ending.TheVariants.{Unknown}
use Rattle.answers.specs.Answers.{Answer, placed, ended_with, paper_ending}
use Rattle.plain_list.specs.PlainList.{row, Rows, with_value, without, index_of, Told, tells, add_row, Operation, feed}
use Rattle.plain_rows.specs.declared.Row.{Row as RowHeld}
use Rattle.plain_rows.specs.Rows.{RowsHeld, rows_of, listed, held, no_row, SameFrom, Removes}
use Rattle.plain_rows.specs.Fed.{feeding, answered, in_room, if_room, fed_rows, Feeds, Tells, Puts}
use Rattle.plain_rows.proofs.RowsLaws.{rows_length}
use Rattle.plain_rows.proofs.StoreLaws.{same_untouched, below_held}

leb_false : (a b : ℕ) → b < a → leb a b ≡ false
leb_false a b h = go (leb a b) refl
  where
    go : (t : Bool) → leb a b ≡ t → t ≡ false
    go true e = absurd (omega (arith, leb-true a b e))
    go false e = refl

module _ {n : ℕ} (list : RowsHeld) (size : length list.rows ≡ n) where
  -- an array that holds fewer rows than the list has is refused
  pub misfits : (told : Told) → n < list.count → Feeds list list (Err Misfit) (in_room list told)
  unfolding in_room if_room both
  misfits told h =
      record { shown = rw (leb_false list.count (length list.rows) (omega arith)); stay = same_untouched list.count list.rows }

  module _ (room : list.count ≤ n) where
    pub held_length : length (rows_of (held list)) ≡ list.count
    held_length = rows_length (held list) ∙ length-take-le list.count list.rows (omega arith)

    -- what an operation tells has as many rows as there are then
    shown_high : (list' : RowsHeld) → list'.count ≤ n → length list'.rows ≡ n → length (rows_of (held list')) ≤ n
    shown_high list' h s = omega (arith, rows_length (held list'), length-take-le list'.count list'.rows (omega arith))

    pub told_puts : (list' : RowsHeld) (ending : EndingEnum) (told : Told) → list'.count ≤ n → tells (rows_of (held list')) (paper_ending ending) ≡ told → SameFrom list'.count list.rows list'.rows → Puts list list' (Ok ending) told
    unfolding if_room
    told_puts list' ending told within shown stay =
        let high : length told.rows ≤ n = rw (← ap (λ (x : Told). length x.rows) shown) (shown_high list' within (stay.size ∙ size)) in
        record {
          within = omega arith;
          shown = ap answered shown ∙ sym (rw (le-leb (length told.rows) (length list.rows) (omega arith)));
          stay = stay;
        }

    pub tells_puts : (list' : RowsHeld) (ending : EndingEnum) (told : Told) → Tells list list' ending told → Puts list list' (Ok ending) told
    tells_puts list' ending told t = told_puts list' ending told (omega (arith, t.within)) t.shown t.stay

    -- there is no room for the row to be added
    pub misfits_row : (told : Told) → list.count ≡ n → length told.rows ≡ suc (length (rows_of (held list))) → Puts list list (Err Misfit) told
    unfolding if_room
    misfits_row told full more =
        record {
          within = omega arith;
          shown = rw (leb_false (length told.rows) (length list.rows) (omega (arith, held_length)));
          stay = same_untouched list.count list.rows;
        }

    -- by the rows that the list has, whatever its count
    pub shown_fed : (m k : ℕ) (operation : Operation) (list' : RowsHeld) (answer : Answer) → list'.count ≤ length list'.rows → feeding (rows_of (held list')) answer ≡ if_room (leb (length (feed m k operation (rows_of (held list))).rows) (length list.rows)) (rows_of (held list)) (feed m k operation (rows_of (held list))) → feeding (listed list') answer ≡ fed_rows m k operation list
    unfolding fed_rows in_room both
    shown_fed m k operation list' answer h e =
        rw (below_held list'.rows list'.count h, below_held list.rows list.count (omega arith), le-leb list.count (length list.rows) (omega arith)) e

    -- nothing is stored
    pub unknown_tells : (told : Told) → told ≡ tells (rows_of (held list)) (ended_with 7) → Tells list list Unknown told
    unknown_tells told e = record { within = omega arith; shown = sym e; stay = same_untouched list.count list.rows }

    module _ (xs : List RowHeld) (long : length xs ≡ list.count) where
      -- the array after a store to the rows that the list has
      abbrev stored : ℕ → RowsHeld
      stored left = record { rows = xs ++ drop list.count list.rows; count = left }

      pub stored_held : (left : ℕ) → left ≤ list.count → held (stored left) ≡ take left xs
      stored_held left h = take-append-le left xs (drop list.count list.rows) (omega arith)

      stored_stay : (left : ℕ) → ((i : ℕ) → left ≤ i → i < list.count → get_or xs i no_row ≡ get_or list.rows i no_row) → SameFrom left list.rows (stored left).rows
      stored_stay left same =
          record {
            size = length-append xs (drop list.count list.rows) ∙ omega (arith, length-drop list.count list.rows);
            rest = λ i h. go i h (leb list.count i) refl;
          }
        where
          go : (i : ℕ) → left ≤ i → (b : Bool) → leb list.count i ≡ b → get_or (xs ++ drop list.count list.rows) i no_row ≡ get_or list.rows i no_row
          go i h true e =
              let above = leb-true list.count i e in
              get_or-append_right xs (drop list.count list.rows) i no_row (omega arith)
              ∙ get_or-drop list.count list.rows (i - length xs) no_row
              ∙ ap (λ (j : ℕ). get_or list.rows j no_row) (omega arith)
          go i h false e =
              let below = leb-false list.count i e in
              get_or_append_left xs (drop list.count list.rows) no_row i (omega arith) ∙ same i h below

      -- the point's row gets the value
      pub valued : (point value : ℕ) → rows_of xs ≡ with_value point value (rows_of (held list)) → rows_of (held (stored list.count)) ≡ with_value point value (rows_of (held list))
      valued point value e = ap rows_of (stored_held list.count (omega arith) ∙ take_all list.count xs (omega arith)) ∙ e

      pub valued_stay : SameFrom list.count list.rows (stored list.count).rows
      valued_stay = stored_stay list.count (λ i h l. absurd (omega arith))

      -- the row goes
      pub without_tells : (left point : ℕ) (ending : EndingEnum) (told : Told) → Removes (held list) xs left point → told ≡ tells (without point (rows_of (held list))) (paper_ending ending) → Tells list (stored left) ending told
      without_tells left point ending told r e =
          let within : left ≤ list.count = omega (arith, r.fewer, length-take-le list.count list.rows (omega arith)) in
          record {
            within = within;
            shown = ap (λ (rows : Rows). tells rows (paper_ending ending)) (ap rows_of (stored_held left within) ∙ r.shown) ∙ sym e;
            stay = stored_stay left (λ i h l. r.stay.rest i h ∙ get_or-take list.count list.rows i no_row l);
          }

-- "one is added, its place the first of positions 1 to k that is no row's place"
pub row_added : (m k point value index place : ℕ) (rows : Rows) → index ≢ 0 → place ≡ position_of m point index → add_row m k point value rows index ≡ tells (row point value place ∷ rows) (placed place (index_of m k point place))
unfolding add_row
row_added m k point value zero place rows h e = absurd (h refl)
row_added m k point value (suc i) place rows h e = rw e
