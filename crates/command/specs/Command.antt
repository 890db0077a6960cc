-- Document 01, "Commands": the command entry, which takes a frame's bytes.
use Rattle.std.specs.Prelude.{ℕ, ◌+◌, cond, not, List, eqb, length, get_or}
use Rattle.conditions.specs.Conditions.{both}
use Rattle.refusal.specs.Judging.{refuse_if}
use Rattle.record.specs.declared.Record.{Record}
use Rattle.record.specs.declared.Station.{Station}
use Rattle.record.specs.declared.Search.TheVariants.{Unread}
use Rattle.record.specs.declared.Alteration.TheVariants.{Commanded}
use Rattle.record.specs.declared.ChangeStage.TheVariants.{Searching}
use Rattle.record.specs.declared.WriterWork.{WriterWork}
use Rattle.record.specs.declared.WriterWork.TheVariants.{Changing}
use Rattle.record.specs.Parts.{with_writer, station_of}
use Rattle.record_ranges.specs.Ranges.{in_range}
use Rattle.answers.specs.Answers.{completed, started, given_again, refused, stored_answer, Outcome, outcome, unless_refused}
use Rattle.record.specs.Idle.{is_writer_idle}
use Rattle.frame.specs.declared.Fields.{Fields}
use Rattle.frame.specs.Frames.{fields_in, read_refusal}
use Rattle.command.specs.declared.Sent.{Sent}

-- "A command has station, number, point and action": those of a frame's fields
abbrev pub sent_of : Fields → Sent
sent_of f = record { station = f.station; number = f.number; point = f.point; action = f.action }

-- the command of a frame's bytes
unfoldable pub sent_in : List ℕ → Sent
sent_in bytes = sent_of (fields_in bytes 0x0F)

-- "The command entry takes only 0F, else 9 before the length is judged"; an empty frame has no map byte and gets 8
unfoldable pub frame_refusal : List ℕ → ℕ
frame_refusal bytes =
    refuse_if (eqb (length bytes) 0) 8 (refuse_if (not (eqb (get_or bytes 0 0) 0x0F)) 9 (read_refusal bytes))

-- "command 1, frame, .."
unfoldable pub entry_refusal : ℕ → Record → List ℕ → ℕ
entry_refusal lent panel bytes = refuse_if (not (in_range lent panel)) 1 (frame_refusal bytes)

-- a command's change, before its first step
abbrev pub commanded_change : Sent → WriterWork
commanded_change sent =
    Changing
    (record {
      point = sent.point;
      alteration = Commanded (record { station = sent.station; number = sent.number; action = sent.action });
      stage = Searching Unread;
      steps = 0;
    })

-- "the change starts", ".., 4"
unfoldable pub change_starts : Record → List ℕ → Sent → Outcome
change_starts panel slots sent =
    unless_refused (refuse_if (not (is_writer_idle panel.writer.work)) 4 0) (outcome panel slots) (outcome (with_writer panel (commanded_change sent)) slots started)

-- "Number equal to the last, point and action the same: the stored answer is given again and nothing is altered. Number equal, point or action different: 12"; request N2: "A stored answer given again counts 0"
unfoldable pub number_equal : Record → List ℕ → Sent → Station → Outcome
number_equal panel slots sent last =
    cond (both (eqb sent.point last.point) (eqb sent.action last.action))
    (outcome panel slots (given_again (completed (stored_answer last.answer) 0))) (outcome panel slots (refused 12))

-- "Number = last + 1: the change starts"; "Any other number: 11"
unfoldable pub number_other : Record → List ℕ → Sent → Station → Outcome
number_other panel slots sent last =
    cond (eqb sent.number (last.number + 1)) (change_starts panel slots sent) (outcome panel slots (refused 11))

-- "11 or 12 or stored answer, 4": a command beside its station's last one
unfoldable pub in_turn : Record → List ℕ → Sent → Station → Outcome
in_turn panel slots sent last =
    cond (eqb sent.number last.number) (number_equal panel slots sent last) (number_other panel slots sent last)

-- the command entry
unfoldable pub start_command : Record → List ℕ → List ℕ → Outcome
start_command panel slots bytes =
    unless_refused (entry_refusal (length slots) panel bytes) (outcome panel slots)
    (in_turn panel slots (sent_in bytes) (station_of panel (sent_in bytes).station))
