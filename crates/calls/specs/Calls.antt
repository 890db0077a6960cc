-- Any call of document 01 and of request N1, and what it comes to: each by the definition that the call's own contract cites.
use Rattle.std.specs.Prelude.{ℕ, List}
use Rattle.record.specs.declared.Record.{Record}
use Rattle.answers.specs.Answers.{Outcome}
use Rattle.reader_step.specs.Reader.{step_reader}
use Rattle.reader_starts.specs.Starts.{start_lookup, start_walk}
use Rattle.writer.specs.Starts.{start_put, start_change, start_removal}
use Rattle.writer.specs.Step.{step_writer}
use Rattle.command.specs.Command.{start_command}
use Rattle.dispatcher.specs.Turn.{take_turn}
use Rattle.calls.specs.declared.Call.{Call}
use Rattle.calls.specs.declared.Call.TheVariants.{StartLookup, StartWalk, StepReader, StartPut, StartChange, StartRemoval, StartCommand, StepWriter, Turn}

-- a call carried out on a record and its slots; a command takes the frame lent, the other calls do not look at it; of turns, "Its orders are among those that the mission covers"
unfoldable pub applied : Record → List ℕ → Call → List ℕ → Outcome
applied panel slots (StartLookup reader point) frame = start_lookup panel slots reader point
applied panel slots (StartWalk reader) frame = start_walk panel slots reader
applied panel slots (StepReader reader) frame = step_reader panel slots reader
applied panel slots (StartPut point value) frame = start_put panel slots point value
applied panel slots (StartChange point keep flip) frame = start_change panel slots point keep flip
applied panel slots (StartRemoval point) frame = start_removal panel slots point
applied panel slots StartCommand frame = start_command panel slots frame
applied panel slots StepWriter frame = step_writer panel slots
applied panel slots Turn frame = take_turn panel slots
