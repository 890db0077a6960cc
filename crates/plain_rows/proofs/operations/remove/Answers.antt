-- `plain_rows::operations::remove` meets its contract, by whether the point has a row.
use Rattle.std.proofs.Common.{◌≡◌, refl, ◌≤◌, ◌∙◌, List, sym, ap, length, arith, length-take-le}
use Rattle.slot_words.specs.Word.{value_of}
use Rattle.plain_list.specs.PlainList.{absent, present, entry_of, without, largest_index, remove_entry, remove_row}
use Rattle.plain_rows.specs.declared.Row.{Row}
use Rattle.plain_rows.specs.Rows.{counted, rows_of, held}
use Rattle.plain_rows.proofs.FedLaws.{unknown_tells, stored_held, without_tells}
use Rattle.plain_rows.proofs.operations.remove.Goals as goal

pub returns-in_default : goal.returns-in_default
unfolding remove_row remove_entry
returns-in_default c =
    let list = counted c.args.rows.now c.args.count.now in
    let none : entry_of c.args.point (rows_of (held list)) ≡ absent = sym c.in_default.ensures in
    unknown_tells list refl c.requires _ (rw none)

pub returns : goal.returns
unfolding remove_row remove_entry
returns c =
    let a = c.args in
    let list = counted a.rows.now a.count.now in
    let xs = c.without-left.new.rows in
    let gone = c.without-left.ensures in
    let long : length xs ≡ list.count = omega (arith, length-take-le list.count list.rows (omega arith)) in
    let within : c.without-left.result ≤ list.count = omega (arith, gone.fewer, length-take-le list.count list.rows (omega arith)) in
    let row = c.in-Some.field-0 in
    let some : entry_of a.point (rows_of (held list)) ≡ present (value_of row.word) row.place = sym c.in-Some.ensures in
    let largest : largest_index a.m a.k (without a.point (rows_of (held list))) ≡ c.largest_index.result = sym (c.largest_index.ensures ∙ ap (λ (rows : List Row). largest_index a.m a.k (rows_of rows)) (stored_held list refl c.requires xs long c.without-left.result within) ∙ ap (largest_index a.m a.k) gone.shown) in
    without_tells list refl c.requires xs long c.without-left.result a.point _ _ gone (rw (some, largest))
