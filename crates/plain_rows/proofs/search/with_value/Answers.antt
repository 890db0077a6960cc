-- `plain_rows::search::with_value` meets its contract: so far for the rows passed.
use Rattle.std.proofs.Common.{◌≤◌, ◌∙◌, sym, ap, arith, List, length}
use Rattle.std.proofs.lemmas.List.{take_all}
use Rattle.plain_list.specs.PlainList.{with_value}
use Rattle.plain_rows.specs.declared.Row.{Row}
use Rattle.plain_rows.specs.Rows.{rows_of}
use Rattle.plain_rows.proofs.StoreLaws.{revalues_none, revalues_stored, revalues_kept}
use Rattle.plain_rows.proofs.search.with_value.Goals as goal
use Rattle.plain_rows.proofs.search.with_value.Goals.{then-is_of, else-is_of}

pub loop-row-init : goal.loop-row-init
loop-row-init c = revalues_none c.args.rows.now c.args.point c.args.value

pub loop-row-preserved : goal.loop-row-preserved
loop-row-preserved c =
    let a = c.args in
    let l = c.loop-row in
    elim c.if-is_of.branch [
      | then-is_of w ↦ rw (w.rows-is, w.word_of-row.ensures) (revalues_stored a.rows.now a.point a.value l.rows l.row-index l.invariant (omega arith) (omega arith) (sym c.is_of.ensures ∙ w.if-is_of.true))
      | else-is_of w ↦ rw w.rows-is (revalues_kept a.rows.now a.point a.value l.rows l.row-index l.invariant (omega arith) (sym c.is_of.ensures ∙ w.if-is_of.false))
    ]

pub returns : goal.returns
returns c =
    let l = c.loop-row in
    let all : length c.args.rows.now ≤ l.row-index = c.loop-row-test.false in
    sym (ap rows_of (take_all l.row-index l.rows (omega arith))) ∙ l.invariant.shown ∙ ap (λ (rows : List Row). with_value c.args.point c.args.value (rows_of rows)) (take_all l.row-index c.args.rows.now all)
