-- A turn as the code takes it: by the party due, the place first and the step then, on a record that has been judged. A theorem says that this is the turn.
use Rattle.std.specs.Prelude.{ℕ, true, cond, List, ltb}
use Rattle.record.specs.declared.Record.{Record}
use Rattle.record.specs.Parts.{with_place, numbered_place}
use Rattle.answers.specs.Answers.{Answer, served, is_refused, Outcome, outcome}
use Rattle.reader_step.specs.Reader.{step_judged}
use Rattle.writer.specs.Work.{step_stored}
use Rattle.circle.specs.Marks.{place_after}

-- what a turn answers, by what the step of the party due gave
unfoldable pub turn_answer : ℕ → Answer → Answer
turn_answer due answer = cond (is_refused answer) answer (served due answer)

-- a turn whose step has come to this
abbrev pub turned_by : ℕ → Outcome → Outcome
turned_by due step = outcome step.panel step.slots (turn_answer due step.answer)

-- a turn that is due to the writer
unfoldable pub writer_turn : Record → List ℕ → Outcome
writer_turn panel slots = turned_by 0 (step_stored true (with_place panel 1) slots)

-- a turn that is due to a reader, to nobody (17), or on a record out of range (18); in the last two cases the step of reader 0 is refused as the turn is
unfoldable pub reader_turn : ℕ → Record → List ℕ → Outcome
reader_turn due panel slots =
    turned_by due (step_judged (ltb due 18) (with_place panel (place_after panel.place due)) slots (numbered_place 16 due))
