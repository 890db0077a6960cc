-- Request N1: a turn.
use Rattle.std.specs.Prelude.{ℕ, zero, suc, not, List, eqb, length}
use Rattle.refusal.specs.Judging.{refuse_if}
use Rattle.record.specs.declared.Record.{Record}
use Rattle.record.specs.Parts.{with_place}
use Rattle.record_ranges.specs.Ranges.{in_range}
use Rattle.answers.specs.Answers.{served, Outcome, outcome, unless_refused}
use Rattle.reader_step.specs.Reader.{step_reader}
use Rattle.writer.specs.Step.{step_writer}
use Rattle.circle.specs.Circle.{nobody, party_after, party_served}

-- "A turn tests 1, then gives 5 .. where nobody is at work"
unfoldable pub turn_refusal : ℕ → Record → ℕ
turn_refusal lent panel = refuse_if (not (in_range lent panel)) 1 (refuse_if (eqb (party_served panel) nobody) 5 0)

-- a party's very step
unfoldable pub party_step : Record → List ℕ → ℕ → Outcome
party_step panel slots zero = step_writer panel slots
party_step panel slots (suc reader) = step_reader panel slots reader

-- "it hands back the party served .. and what its step gave"; "a turn's step alone moves it one past the party served"
unfoldable pub after_turn : ℕ → Outcome → Outcome
after_turn party step = outcome (with_place step.panel (party_after party)) step.slots (served party step.answer)

-- a turn
unfoldable pub take_turn : Record → List ℕ → Outcome
take_turn panel slots =
    unless_refused (turn_refusal (length slots) panel) (outcome panel slots)
    (after_turn (party_served panel) (party_step panel slots (party_served panel)))
