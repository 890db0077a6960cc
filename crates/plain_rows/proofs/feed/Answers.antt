-- `plain_rows::feed` meets its contract, by whether the array holds the rows.
use Rattle.std.proofs.Common.{refl, arith}
use Rattle.std.proofs.lemmas.Result.{err_from_is_err_and}
use Rattle.plain_list.specs.PlainList.{nothing, feed}
use Rattle.plain_rows.specs.Fed.{fed_rows}
use Rattle.plain_rows.specs.Rows.{counted}
use Rattle.plain_rows.proofs.FedLaws.{misfits, tells_puts, unknown_tells, shown_fed}
use Rattle.plain_rows.proofs.feed.Goals as goal

pub returns-then-rows-before : goal.returns-then-rows-before
unfolding fed_rows
returns-then-rows-before c =
    misfits (counted c.args.rows.now c.args.count.now) refl _ c.if-rows-before.true

pub returns-in-None : goal.returns-in-None
unfolding feed
returns-in-None c =
    let a = c.args in
    let list = counted a.rows.now a.count.now in
    let put = tells_puts list refl c.if-rows-before.false list _ _ (unknown_tells list refl c.if-rows-before.false _ refl) in
    rw c.in-None.is (record { shown = shown_fed list refl c.if-rows-before.false a.m a.k nothing list _ (omega arith) put.shown; stay = put.stay })

pub returns-in_ok-ending-in-Some : goal.returns-in_ok-ending-in-Some
returns-in_ok-ending-in-Some c =
    let a = c.args in
    let list = counted a.rows.now a.count.now in
    let put = c.in_ok-ending-in-Some.ensures in
    rw c.in-Some.is
    (record { shown = shown_fed list refl c.if-rows-before.false a.m a.k _ (counted c.carry_out.new.rows c.carry_out.new.count) _ (omega (arith, put.within, put.stay.size)) put.shown; stay = put.stay })

pub returns-in_err-ending-in-Some : goal.returns-in_err-ending-in-Some
returns-in_err-ending-in-Some c =
    let a = c.args in
    let list = counted a.rows.now a.count.now in
    let put = c.in_err-ending-in-Some.ensures in
    let p = err_from_is_err_and c.from_residual.result c.from_residual.ensures.1 in
    rw (c.in-Some.is, p.1, p.2)
    (record { shown = shown_fed list refl c.if-rows-before.false a.m a.k _ (counted c.carry_out.new.rows c.carry_out.new.count) _ (omega (arith, put.within, put.stay.size)) put.shown; stay = put.stay })
