-- `circle::party_due` meets its contract: the zeros in front of the digits tell the party of the highest.
use Rattle.circle.proofs.MarksLaws.{due_outside, cut_leads, all_leads, due_around, due_ahead}
use Rattle.circle.proofs.party_due.Goals as goal

pub returns-then-not-fits : goal.returns-then-not-fits
returns-then-not-fits c =
    let a = c.args in
    due_outside a.fits a.place a.marks a.writer.work c.then-not-fits.either

pub overflow_sub-result : goal.overflow_sub-result
overflow_sub-result c =
    let a = c.args in
    let all = c.all_marked-all in
    all_leads a.marks all.result a.writer.work all.ensures

pub overflow_sub-result-else-from-eq0 : goal.overflow_sub-result-else-from-eq0
overflow_sub-result-else-from-eq0 c =
    let a = c.args in
    let all = c.all_marked-all in
    cut_leads a.marks all.result a.writer.work all.ensures _

pub returns-then-from-eq0 : goal.returns-then-from-eq0
returns-then-from-eq0 c =
    let a = c.args in
    let all = c.all_marked-all in
    due_around a.marks all.result a.writer.work all.ensures a.fits a.place c.if-not-fits.false c.if-place-gt16.false c.if-from-eq0.true

pub returns-else-from-eq0 : goal.returns-else-from-eq0
returns-else-from-eq0 c =
    let a = c.args in
    let all = c.all_marked-all in
    due_ahead a.marks all.result a.writer.work all.ensures a.fits a.place c.if-not-fits.false c.if-place-gt16.false c.if-from-eq0.false
