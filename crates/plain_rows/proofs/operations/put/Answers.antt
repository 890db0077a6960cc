-- `plain_rows::operations::put` meets its contract: the point has a row, no position is free, there is no room, or the row is stored.
use Rattle.std.proofs.Common.{◌≡◌, suc, ◌+◌, ◌<◌, ◌∷◌, ◌∙◌, refl, sym, ap, length, set, arith, length-take-le}
use Rattle.answers.specs.Answers.{placed}
use Rattle.slot_words.specs.Word.{value_of}
use Rattle.slot_words.proofs.WordLaws.{word_point, word_value}
use Rattle.plain_list.specs.PlainList.{row, Told, absent, present, entry_of, with_value, index_of, first_free, tells, add_row, put_entry, put_row}
use Rattle.plain_rows.specs.declared.Row.{Row}
use Rattle.plain_rows.specs.Rows.{counted, rows_of, held}
use Rattle.plain_rows.proofs.StoreLaws.{same_untouched, same_stored, row_stored}
use Rattle.plain_rows.proofs.FedLaws.{told_puts, misfits_row, valued, valued_stay, row_added}
use Rattle.plain_rows.proofs.operations.put.Goals as goal

pub returns-in-Some : goal.returns-in-Some
unfolding put_row put_entry
returns-in-Some c =
    let a = c.args in
    let list = counted a.rows.now a.count.now in
    let row = c.in-Some.row in
    let some : entry_of a.point (rows_of (held list)) ≡ present (value_of row.word) row.place = sym c.in-Some.ensures in
    let xs = c.with_value.new.rows in
    let long : length xs ≡ list.count = omega (arith, length-take-le list.count list.rows (omega arith)) in
    let told : put_row a.m a.k a.point a.value (rows_of (held list)) ≡ tells (with_value a.point a.value (rows_of (held list))) (placed row.place (index_of a.m a.k a.point row.place)) = rw some in
    told_puts list refl c.requires _ c.placed.result _ c.requires
    ((λ j. tells (valued list refl c.requires xs long a.point a.value c.with_value.ensures j) (c.placed.ensures j)) ∙ sym told)
    (valued_stay list refl c.requires xs long)

pub returns-then-index-eq0 : goal.returns-then-index-eq0
unfolding put_row put_entry add_row
returns-then-index-eq0 c =
    let a = c.args in
    let list = counted a.rows.now a.count.now in
    let none : entry_of a.point (rows_of (held list)) ≡ absent = sym c.in_default.ensures in
    let free : first_free a.m a.k a.point (rows_of (held list)) ≡ 0 = sym c.first_free-index.ensures ∙ c.if-index-eq0.true in
    told_puts list refl c.requires list _ _ c.requires (rw (none, free)) (same_untouched list.count list.rows)

pub returns-then-before-rows : goal.returns-then-before-rows
unfolding put_row put_entry
returns-then-before-rows c =
    let a = c.args in
    let list = counted a.rows.now a.count.now in
    let none : entry_of a.point (rows_of (held list)) ≡ absent = sym c.in_default.ensures in
    let free : first_free a.m a.k a.point (rows_of (held list)) ≡ c.first_free-index.result = sym c.first_free-index.ensures in
    let more : length (put_row a.m a.k a.point a.value (rows_of (held list))).rows ≡ suc (length (rows_of (held list))) = rw (none, free) (ap (λ (t : Told). length t.rows) (row_added a.m a.k a.point a.value c.first_free-index.result _ (rows_of (held list)) c.if-index-eq0.false refl)) in
    misfits_row list refl c.requires _ c.if-before-rows.true more

pub returns : goal.returns
unfolding put_row put_entry
returns c =
    let a = c.args in
    let list = counted a.rows.now a.count.now in
    let none : entry_of a.point (rows_of (held list)) ≡ absent = sym c.in_default.ensures in
    let free : first_free a.m a.k a.point (rows_of (held list)) ≡ c.first_free-index.result = sym c.first_free-index.ensures in
    let place = c.position-place.result in
    let below : list.count < length list.rows = omega arith in
    let r : Row = record { word = c.word_of.result; place = place } in
    let added : rows_of (held (counted (set list.rows list.count r) (list.count + 1))) ≡ row a.point a.value place ∷ rows_of (held list) = row_stored list.rows list.count r (omega arith) ∙ rw (c.word_of.ensures, word_point a.point a.value (omega arith), word_value a.point a.value (omega arith)) in
    let told : put_row a.m a.k a.point a.value (rows_of (held list)) ≡ tells (row a.point a.value place ∷ rows_of (held list)) (placed place (index_of a.m a.k a.point place)) = rw (none, free) (row_added a.m a.k a.point a.value c.first_free-index.result place (rows_of (held list)) c.if-index-eq0.false c.position-place.ensures) in
    told_puts list refl c.requires _ c.placed-2.result _ (omega arith)
    ((λ j. tells (added j) (c.placed-2.ensures j)) ∙ sym told)
    (same_stored list.rows list.rows list.count r (same_untouched list.count list.rows))
