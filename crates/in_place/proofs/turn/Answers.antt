use Rattle.std.proofs.Common.{◌≡◌, Bool, cond, length, rules, eq-eqb, ap, sym, ◌∙◌}
use borrow.Author.Tests.{ne_eqb}
use Rattle.dispatcher.specs.Due.{writer_turn, reader_turn}
use Rattle.dispatcher.proofs.TurnLaws.{due_on, turn_by_due}
use Rattle.in_place.proofs.turn.Goals as goal

pub returns-then-due-eq0 : goal.returns-then-due-eq0
unfolding due_on
returns-then-due-eq0 c =
    let a = c.args in
    let p = a.panel.now in
    let s = a.slots.now in
    let due = c.due_at-due in
    let all : length p.readers ≡ 16 = search rules in
    c.writers_turn.ensures
    ∙ sym (ap (λ (b : Bool). cond b (writer_turn p s) (reader_turn due.result p s)) (eq-eqb due.result 0 c.if-due-eq0.true))
    ∙ turn_by_due p s all due.result (sym due.ensures)

pub returns-else-due-eq0 : goal.returns-else-due-eq0
unfolding due_on
returns-else-due-eq0 c =
    let a = c.args in
    let p = a.panel.now in
    let s = a.slots.now in
    let due = c.due_at-due in
    let all : length p.readers ≡ 16 = search rules in
    c.readers_turn.ensures
    ∙ sym (ap (λ (b : Bool). cond b (writer_turn p s) (reader_turn due.result p s)) (ne_eqb due.result 0 c.if-due-eq0.false))
    ∙ turn_by_due p s all due.result (sym due.ensures)
