-- The words in which the law of a turn is stated.
use Rattle.std.specs.Prelude.{ℕ, ◌≡◌}
use Rattle.record.specs.Parts.{with_place}
use Rattle.answers.specs.Answers.{served, Outcome}
use Rattle.circle.specs.Circle.{party_after}

-- but for the place, "a turn's step alone moves it", a turn leaves what the step of the party served leaves
pub record LeavesAsStep (party : ℕ) (turn step : Outcome) : Type 0 where
  pub record_but_place : (place : ℕ) → with_place turn.panel place ≡ with_place step.panel place
  pub place_moves : turn.panel.place ≡ party_after party
  pub same_slots : turn.slots ≡ step.slots
  pub hands_back : turn.answer ≡ served party step.answer
