-- `plain_rows::operations::change` meets its contract, by whether the point has a row.
use Rattle.std.proofs.Common.{◌≡◌, refl, ℕ, ◌∙◌, sym, ap, length, arith, bit_and, bit_xor, length-take-le}
use Rattle.answers.specs.Answers.{changed}
use Rattle.slot_words.specs.Word.{value_of}
use Rattle.plain_list.specs.PlainList.{Rows, absent, present, entry_of, with_value, tells, change_entry, change_row}
use Rattle.plain_rows.specs.Rows.{counted, rows_of, held}
use Rattle.plain_rows.proofs.FedLaws.{unknown_tells, valued, valued_stay}
use Rattle.plain_rows.proofs.operations.change.Goals as goal

pub returns-in_default : goal.returns-in_default
unfolding change_row change_entry
returns-in_default c =
    let list = counted c.args.rows.now c.args.count.now in
    let none : entry_of c.args.point (rows_of (held list)) ≡ absent = sym c.in_default.ensures in
    unknown_tells list refl c.requires _ (rw none)

pub returns : goal.returns
unfolding change_row change_entry
returns c =
    let a = c.args in
    let list = counted a.rows.now a.count.now in
    let row = c.in-Some.row in
    let some : entry_of a.point (rows_of (held list)) ≡ present (value_of row.word) row.place = sym c.in-Some.ensures in
    let xs = c.with_value.new.rows in
    let long : length xs ≡ list.count = omega (arith, length-take-le list.count list.rows (omega arith)) in
    let new : ℕ = bit_xor (bit_and c.value_of.result a.keep) a.flip in
    let told : change_row a.point a.keep a.flip (rows_of (held list)) ≡ tells (with_value a.point new (rows_of (held list))) (changed new) = rw (some, c.value_of.ensures) in
    record {
      within = omega arith;
      shown = ap (λ (rows : Rows). tells rows (changed new)) (valued list refl c.requires xs long a.point new c.with_value.ensures) ∙ sym told;
      stay = valued_stay list refl c.requires xs long;
    }
