-- The contract of `feed` leaves nothing open: of two outcomes of one call the array, the count and the answer are the same.
use Rattle.std.proofs.Common.{◌≡◌, ℕ, zero, suc, ◌<◌, Bool, true, false, List, length, get_or, refl, sym, ap, ◌∙◌, arith, Result}
use Rattle.std.specs.Prelude.{leb}
use Rattle.std.proofs.Math.Seq.{ext_get_or}
use native.Mathlib.Decide.{ℕ_discrete}
use borrow.Author.Tests.{leb-true, leb-false}
use Rattle.refusal.specs.declared.Refusal.{Refusal}
use Rattle.slot_words.specs.Word.{point_of, value_of}
use Rattle.answers.specs.declared.Completion.{Completion}
use Rattle.answers.proofs.AnswerLaws.{whole_tells}
use Rattle.plain_list.specs.PlainList.{Row, Rows}
use Rattle.plain_rows.specs.declared.Row.{Row as RowHeld}
use Rattle.plain_rows.specs.Rows.{RowsHeld, row_of, rows_below, listed, no_row, SameFrom}
use Rattle.plain_rows.specs.Fed.{Feeding, Feeds}
use Rattle.plain_rows.proofs.RowsLaws.{below_length}

-- a word is told by its point and its value
word_halves : (a b : ℕ) → point_of a ≡ point_of b → value_of a ≡ value_of b → a ≡ b
word_halves a b p v = omega arith

row_halves : (a b : RowHeld) → row_of a ≡ row_of b → a ≡ b
row_halves a b e =
    let word = word_halves a.word b.word (ap (λ (r : Row). r.point) e) (ap (λ (r : Row). r.value) e) in
    λ j. record { word = word j; place = (e j).place }

row_told : (l₁ l₂ : List RowHeld) (count i : ℕ) → rows_below l₁ count ≡ rows_below l₂ count → i < count → get_or l₁ i no_row ≡ get_or l₂ i no_row
unfolding rows_below
row_told l₁ l₂ zero i e h = absurd (omega arith)
row_told l₁ l₂ (suc n) i e h =
    let newest : row_of (get_or l₁ n no_row) ≡ row_of (get_or l₂ n no_row) = cc in
    let older : rows_below l₁ n ≡ rows_below l₂ n = cc in
    go (row_halves (get_or l₁ n no_row) (get_or l₂ n no_row) newest) (λ (l : i < n). row_told l₁ l₂ n i older l) (ℕ_discrete i n)
  where
    go : get_or l₁ n no_row ≡ get_or l₂ n no_row → (i < n → get_or l₁ i no_row ≡ get_or l₂ i no_row) → Dec (i ≡ n) → get_or l₁ i no_row ≡ get_or l₂ i no_row
    go newest older (yes same) = rw same newest
    go newest older (no other) = older (omega arith)

-- arrays as long as one array, equal below the count, and from there on as that array
array_same : (count : ℕ) (l l₁ l₂ : List RowHeld) → SameFrom count l l₁ → SameFrom count l l₂ → ((i : ℕ) → i < count → get_or l₁ i no_row ≡ get_or l₂ i no_row) → l₁ ≡ l₂
array_same count l l₁ l₂ s₁ s₂ below = ext_get_or no_row l₁ l₂ (s₁.size ∙ sym s₂.size) (λ i h. go i (leb count i) refl)
  where
    go : (i : ℕ) (b : Bool) → leb count i ≡ b → get_or l₁ i no_row ≡ get_or l₂ i no_row
    go i true e = let h = leb-true count i e in s₁.rest i h ∙ sym (s₂.rest i h)
    go i false e = below i (leb-false count i e)

module _ (list list₁ list₂ : RowsHeld) (answer₁ answer₂ : Result Completion Refusal) (after : Feeding) where
  pub decided : Feeds list list₁ answer₁ after → Feeds list list₂ answer₂ after → (list₁ ≡ list₂) × (answer₁ ≡ answer₂)
  decided a b =
      let same = a.shown ∙ sym b.shown in
      let rows : listed list₁ ≡ listed list₂ = ap (λ (x : Feeding). x.rows) same in
      let answer = whole_tells answer₁ answer₂ (ap (λ (x : Feeding). x.answer) same) in
      let count : list₁.count ≡ list₂.count = sym (below_length list₁.rows list₁.count) ∙ ap (λ (r : Rows). length r) rows ∙ below_length list₂.rows list₂.count in
      let array = array_same list₁.count list.rows list₁.rows list₂.rows a.stay (rw count b.stay) (λ i h. row_told list₁.rows list₂.rows list₁.count i (rows ∙ ap (rows_below list₂.rows) (sym count)) h) in
      (λ j. record { rows = array j; count = count j }, answer)
