-- What the private functions of the command entry give: the command that some bytes are, and the answer to it. No public contract cites these.
use Rattle.std.specs.Prelude.{ℕ, zero, suc, List, Result, Ok, Err}
use Rattle.refusal.specs.declared.Refusal.{Refusal}
use Rattle.refusal.specs.Refusals.{number_of}
use Rattle.record.specs.declared.Record.{Record}
use Rattle.record.specs.Parts.{with_writer, station_of}
use Rattle.answers.specs.Answers.{completed, started, given_again, refused, stored_answer, Outcome, outcome, unless_refused}
use Rattle.command.specs.declared.Sent.{Sent}
use Rattle.command.specs.declared.Taken.{Taken}
use Rattle.command.specs.declared.Taken.TheVariants.{Started, GivenAgain}
use Rattle.command.specs.Command.{sent_in, frame_refusal, commanded_change, in_turn}

-- the refusal's number or 0, and the command
pub record Receipt : Type 0 where
  pub refused : ℕ
  pub sent : Sent

-- the command that goes with a refusal
abbrev pub no_command : Sent
no_command = record { station = 0; number = 0; point = 0; action = 0 }

-- the same of the code's answer
abbrev pub paper_received : Result Sent Refusal → Receipt
paper_received (Ok sent) = record { refused = 0; sent = sent }
paper_received (Err r) = record { refused = number_of r; sent = no_command }

-- a command, unless it is refused with that number
unfoldable pub receipt : ℕ → Sent → Receipt
receipt zero sent = record { refused = 0; sent = sent }
receipt (suc n) sent = record { refused = suc n; sent = no_command }

-- what the bytes of a frame are taken for
unfoldable pub received_from : List ℕ → Receipt
received_from bytes = receipt (frame_refusal bytes) (sent_in bytes)

-- the answer to what was received
unfoldable pub answer_received : Record → List ℕ → Receipt → Outcome
answer_received panel slots received =
    unless_refused received.refused (outcome panel slots) (in_turn panel slots received.sent (station_of panel received.sent.station))

-- what is left of a command that was judged
abbrev pub left_by : Record → List ℕ → Result Taken Refusal → Outcome
left_by panel slots (Ok (Started sent)) = outcome (with_writer panel (commanded_change sent)) slots started
left_by panel slots (Ok (GivenAgain answer)) = outcome panel slots (given_again (completed (stored_answer answer) 0))
left_by panel slots (Err r) = outcome panel slots (refused (number_of r))
