-- `line::part::part_of` meets its contract: what the line so far makes of the bytes left is what the line makes of all.
use mathlib.Core.Path.{sym, ◌∙◌}
use native.Mathlib.Omega.{arith}
use borrow.Author.Tests.{ne_eqb}
use borrow.Author.Rules.{rules}
use Rattle.line.proofs.PartLaws.{slice_inside, part_none, part_ended, part_more, part_field, run_forward}
use Rattle.line.proofs.part.part_of.Goals as goal

pub loop-i-init : goal.loop-i-init
loop-i-init c = rw (c.min-end.ensures, slice_inside c.args.bytes.now c.args.from c.args.to)

pub bounds-bytes-i : goal.bounds-bytes-i
bounds-bytes-i c = omega (arith, c.min-end.ensures)

pub returns-then-byte-eq10 : goal.returns-then-byte-eq10
returns-then-byte-eq10 c =
    let l = c.loop-i in
    let bytes = c.args.bytes.now in
    let end = c.min-end in
    sym (part_ended l.part bytes l.i end.result (omega arith) (omega arith) c.if-byte-eq10.true) ∙ l.invariant

pub digits_run-run-requires : goal.digits_run-run-requires
digits_run-run-requires c = (search rules, omega (arith, c.min-end.ensures))

pub loop-i-smaller-then-byte-eq32 : goal.loop-i-smaller-then-byte-eq32
loop-i-smaller-then-byte-eq32 c = omega (arith, run_forward _ _ _ c.digits_run-run.ensures)

pub loop-i-preserved-then-byte-eq32 : goal.loop-i-preserved-then-byte-eq32
loop-i-preserved-then-byte-eq32 c =
    let l = c.loop-i in
    let bytes = c.args.bytes.now in
    let end = c.min-end in
    part_field l.part bytes l.i end.result _ _ (omega arith) (omega arith) c.if-byte-eq32.true c.more-part.ensures c.digits_run-run.ensures ∙ l.invariant

pub loop-i-preserved : goal.loop-i-preserved
loop-i-preserved c =
    let l = c.loop-i in
    let bytes = c.args.bytes.now in
    let end = c.min-end in
    rw c.more-part.ensures (part_more l.part bytes l.i end.result (omega arith) (omega arith) (ne_eqb _ _ c.if-byte-eq10.false) ∙ l.invariant)

pub returns : goal.returns
returns c =
    let l = c.loop-i in
    sym (part_none l.part _ l.i _ c.loop-i-test.false) ∙ l.invariant
