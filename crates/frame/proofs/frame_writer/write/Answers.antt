-- `frame::frame_writer::write` meets its contract: the map byte, the ranges, the room, and then the stores.
use mathlib.Core.Path.{sym}
use Rattle.std.proofs.lemmas.Result.{err_from_is_err_and}
use Rattle.refusal.specs.Refusals.{number_of}
use Rattle.refusal.proofs.Laws.{number_positive}
use Rattle.frame.proofs.LayoutLaws.{chosen, none_chosen}
use Rattle.frame.proofs.Outcomes.{write_not_allowed, write_out_of_range, write_short, write_whole}
use Rattle.frame.proofs.frame_writer.write.Goals as goal

pub returns-in_err-kind : goal.returns-in_err-kind
returns-in_err-kind c =
    let p = err_from_is_err_and c.from_residual.result c.from_residual.ensures.1 in
    let n = none_chosen c.args.map c.in_err-kind.field-0.0 (sym c.in_err-kind.ensures) in
    rw (p.1, p.2, n.0) (sym (write_not_allowed c.args.map c.args.f c.args.out.now n.1))

pub returns-in_err-judge : goal.returns-in_err-judge
returns-in_err-judge c =
    let k = c.in_ok-kind.kind in
    let is = chosen c.args.map k c.in_ok-kind.layout (sym c.in_ok-kind.ensures) in
    let r = c.from_residual-in_err-judge in
    let p = err_from_is_err_and r.result r.ensures.1 in
    let refused = c.in_err-judge.field-0.0 in
    rw (p.1, p.2, is.byte)
    (sym
    (write_out_of_range k c.args.f c.args.out.now (number_of refused) (number_positive refused)
    (rw is.laid_out at c.in_err-judge.ensures)))

pub returns-then-out-layout : goal.returns-then-out-layout
returns-then-out-layout c =
    let k = c.in_ok-kind.kind in
    let is = chosen c.args.map k c.in_ok-kind.layout (sym c.in_ok-kind.ensures) in
    rw (is.byte)
    (sym
    (write_short k c.args.f c.args.out.now
    (rw is.laid_out at c.in_ok-judge.ensures)
    (rw is.laid_out at c.if-out-layout.true)))

pub returns : goal.returns
returns c =
    let k = c.in_ok-kind.kind in
    let is = chosen c.args.map k c.in_ok-kind.layout (sym c.in_ok-kind.ensures) in
    rw (c.put_fields.ensures, c.put_byte.ensures, c.map.ensures, is.laid_out, is.byte)
    (sym
    (write_whole k c.args.f c.args.out.now
    (rw is.laid_out at c.in_ok-judge.ensures)
    (rw is.laid_out at c.if-out-layout.false)))
