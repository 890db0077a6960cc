-- `plain_rows::search::without` meets its contract: so far for the rows passed.
use Rattle.std.proofs.Common.{◌≤◌, ◌∙◌, sym, ap, arith, List, length}
use Rattle.std.proofs.lemmas.List.{take_all}
use Rattle.plain_list.specs.PlainList.{without}
use Rattle.plain_rows.specs.declared.Row.{Row}
use Rattle.plain_rows.specs.Rows.{rows_of}
use Rattle.plain_rows.proofs.StoreLaws.{compacts_none, compacts_gone, compacts_kept}
use Rattle.plain_rows.proofs.search.without.Goals as goal
use Rattle.plain_rows.proofs.search.without.Goals.{then-not-is_of, else-not-is_of}

pub loop-i-init : goal.loop-i-init
loop-i-init c = compacts_none c.args.rows.now c.args.point

pub loop-i-preserved : goal.loop-i-preserved
loop-i-preserved c =
    let a = c.args in
    let l = c.loop-i in
    elim c.if-not-is_of.branch [
      | then-not-is_of w ↦ rw (w.rows-is, w.left-is) (compacts_kept a.rows.now a.point l.rows l.i l.left l.invariant (omega arith) (sym c.is_of.ensures ∙ w.if-not-is_of.true))
      | else-not-is_of w ↦ rw (w.rows-is, w.left-is) (compacts_gone a.rows.now a.point l.rows l.i l.left l.invariant (omega arith) (sym c.is_of.ensures ∙ w.if-not-is_of.false))
    ]

pub returns : goal.returns
returns c =
    let l = c.loop-i in
    let all : length c.args.rows.now ≤ l.i = c.loop-i-test.false in
    record {
      fewer = omega (arith, l.invariant.fewer);
      shown = l.invariant.shown ∙ ap (λ (rows : List Row). without c.args.point (rows_of rows)) (take_all l.i c.args.rows.now all);
      stay = l.invariant.stay;
    }
