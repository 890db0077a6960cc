-- `dispatcher::turn` meets its contract: the record is judged, the party due is found by the marks, and its turn is taken.
use mathlib.Core.Path.{◌≡◌, ◌∙◌, ap, sym}
use mathlib.Core.Bool.{Bool, cond}
use lib.ListN.{length}
use borrow.Author.Rules.{rules}
use borrow.Author.Tests.{eq-eqb, ne_eqb}
use Rattle.circle.specs.Marks.{due_by}
use Rattle.dispatcher.specs.Due.{writer_turn, reader_turn}
use Rattle.dispatcher.proofs.TurnLaws.{due_on, turn_by_due}
use Rattle.dispatcher.proofs.turn.Goals as goal

pub returns-then-due-eq0 : goal.returns-then-due-eq0
unfolding due_on
returns-then-due-eq0 c =
    let a = c.args in
    let p = a.panel in
    let s = a.slots.now in
    let due = c.party_due-due in
    let all : length p.readers ≡ 16 = search rules in
    let is : due_on (length s) p ≡ due.result = sym (due.ensures ∙ (λ j. due_by (c.is_in_range-fits.ensures j) p.place p.writer.work (c.readers_marked-marks.ensures j))) in
    c.writer_turn.ensures
    ∙ sym (ap (λ (b : Bool). cond b (writer_turn p s) (reader_turn due.result p s)) (eq-eqb due.result 0 c.if-due-eq0.true))
    ∙ turn_by_due p s all due.result is

pub returns-else-due-eq0 : goal.returns-else-due-eq0
unfolding due_on
returns-else-due-eq0 c =
    let a = c.args in
    let p = a.panel in
    let s = a.slots.now in
    let due = c.party_due-due in
    let all : length p.readers ≡ 16 = search rules in
    let is : due_on (length s) p ≡ due.result = sym (due.ensures ∙ (λ j. due_by (c.is_in_range-fits.ensures j) p.place p.writer.work (c.readers_marked-marks.ensures j))) in
    c.reader_turn.ensures
    ∙ sym (ap (λ (b : Bool). cond b (writer_turn p s) (reader_turn due.result p s)) (ne_eqb due.result 0 c.if-due-eq0.false))
    ∙ turn_by_due p s all due.result is
