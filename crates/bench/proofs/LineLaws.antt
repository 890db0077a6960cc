-- A line that was run, from what its operation handed back and what was printed of it.
use Rattle.std.proofs.Common.{◌≡◌, ℕ, List, Option, ap, ◌∙◌, subst}
use Rattle.record.specs.declared.Record.{Record}
use Rattle.answers.specs.Answers.{Answer, Outcome, outcome}
use Rattle.whole_operations.specs.declared.changes.Changes.{Changes}
use Rattle.whole_operations.specs.Whole.{leaves}
use Rattle.line.specs.declared.commands.CommandLine.{CommandLine}
use Rattle.text_buffer.specs.Filling.{Filled, with_bytes}
use Rattle.bench.specs.Lines.{runs_to, printed_line, Runs}

module _ (panel : Record) (slots : List ℕ) (number : ℕ) (before : Filled) (changes : Changes) (slots-after : List ℕ) (after : Filled) where
  -- the command is the one that the line was read as
  pub runs : (command asked : Option CommandLine) (panel-after : Record) (answer : Answer) → asked ≡ command → leaves panel changes ≡ panel-after → outcome panel-after slots-after answer ≡ runs_to panel slots asked → after ≡ with_bytes before (printed_line number asked answer) → Runs panel slots command number before changes slots-after after
  runs command asked panel-after answer same left comes put =
      subst (λ (asks : Option CommandLine). Runs panel slots asks number before changes slots-after after) same
      (record {
        panel_left = left ∙ ap (λ (o : Outcome). o.panel) comes;
        slots_left = ap (λ (o : Outcome). o.slots) comes;
        printed = put ∙ ap (λ (o : Outcome). with_bytes before (printed_line number asked o.answer)) comes;
      })
