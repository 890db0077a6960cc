-- Document 01, "Bench program and values": "It reads commands from standard input and runs each to its end".
use Rattle.std.specs.Prelude.{◌≡◌, ℕ, List, [], Option, Some, None}
use Rattle.record.specs.declared.Record.{Record}
use Rattle.answers.specs.Answers.{Answer, gives, Outcome, outcome}
use Rattle.whole_operations.specs.declared.changes.Changes.{Changes}
use Rattle.whole_operations.specs.Whole.{whole_lookup, whole_put, whole_removal, leaves}
use Rattle.line.specs.declared.commands.CommandLine.{CommandLine}
use Rattle.line.specs.declared.commands.CommandLine.TheVariants.{Put, Lookup, Removal}
use Rattle.text_buffer.specs.Filling.{Filled, with_bytes}
use Rattle.bench_lines.specs.Printed.{operation_line, unreadable_line}

-- what a line comes to; lookups are reader 0's, and a line that cannot be read leaves everything as it is
unfoldable pub runs_to : Record → List ℕ → Option CommandLine → Outcome
runs_to panel slots (Some (Put put)) = whole_put panel slots put.point put.value
runs_to panel slots (Some (Lookup point)) = whole_lookup panel slots 0 point
runs_to panel slots (Some (Removal point)) = whole_removal panel slots point
runs_to panel slots None = outcome panel slots (gives [])

-- what is printed for the line of this number, by the operation's answer; the letters P, L and R are 80, 76 and 82
unfoldable pub printed_line : ℕ → Option CommandLine → Answer → List ℕ
printed_line number (Some (Put put)) answer = operation_line 80 put.point answer
printed_line number (Some (Lookup point)) answer = operation_line 76 point answer
printed_line number (Some (Removal point)) answer = operation_line 82 point answer
printed_line number None answer = unreadable_line number

-- a line that was run: the changes lead to the record that the definition leaves, the slots are its slots, and its answer is printed
pub record Runs (panel : Record) (slots : List ℕ) (command : Option CommandLine) (number : ℕ) (before : Filled) (changes : Changes) (slots-after : List ℕ) (after : Filled) : Type 0 where
  pub panel_left : leaves panel changes ≡ (runs_to panel slots command).panel
  pub slots_left : slots-after ≡ (runs_to panel slots command).slots
  pub printed : after ≡ with_bytes before (printed_line number command (runs_to panel slots command).answer)
