-- `rows_shown::do_rows_stand` meets its contract, row by row.
use Rattle.std.proofs.Common.{length, rules, tests}
use Rattle.std.proofs.lemmas.Iterator.{YieldsList-from_slice, cases_from_all}
use Rattle.plain_list.specs.PlainList.{AtPlace}
use Rattle.plain_rows.specs.Rows.{row_of}
use Rattle.rows_shown.proofs.VerdictLaws.{each_decided}
use Rattle.rows_shown.proofs.do_rows_stand.Goals as goal

pub returns : goal.returns
returns c =
    let a = c.args in
    each_decided (AtPlace (length a.slots.now) a.slots.now) a.rows.now c.all.result
    (cases_from_all _ _ c.all.result (λ x. AtPlace (length a.slots.now) a.slots.now (row_of x)) (λ x. AtPlace (length a.slots.now) a.slots.now (row_of x) → ⊥) c.all.ensures.ran (YieldsList-from_slice a.rows.now (cc)) (λ x q k. search (rules, tests)) (λ x q k. search (rules, tests)))
