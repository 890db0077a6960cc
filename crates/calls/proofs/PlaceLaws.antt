-- "a turn's step alone moves it": no call but a turn moves the place in the circle.
use Prim.Native.Nat.{ℕ, ◌+◌}
use mathlib.Core.Path.{◌≡◌, refl}
use mathlib.Core.Logic.{◌≢◌}
use mathlib.Core.List.{List}
use lib.Dec.{eqb}
use Rattle.conditions.specs.Conditions.{both}
use Rattle.conditions.proofs.ConditionLaws.{cond_holds}
use Rattle.record.specs.declared.Record.{Record}
use Rattle.record.specs.declared.Station.{Station}
use Rattle.record.specs.declared.WriterWork.{WriterWork}
use Rattle.record.specs.Parts.{with_writer}
use Rattle.answers.specs.Answers.{Outcome, outcome}
use Rattle.answers.proofs.AnswerLaws.{unless}
use Rattle.reader_starts.proofs.ReaderLaws.{step_leaves, lookup_leaves, walk_leaves}
use Rattle.writer.specs.Starts.{start_writer, start_put, start_change, start_removal}
use Rattle.writer.proofs.WriterLaws.{step_keeps}
use Rattle.command.specs.declared.Sent.{Sent}
use Rattle.command.specs.Command.{change_starts, number_equal, number_other, in_turn, start_command}
use Rattle.calls.specs.declared.Call.{Call}
use Rattle.calls.specs.declared.Call.TheVariants.{StartLookup, StartWalk, StepReader, StartPut, StartChange, StartRemoval, StartCommand, StepWriter, Turn}
use Rattle.calls.specs.Calls.{applied}

module _ (panel : Record) (slots : List ℕ) where
  -- the place is as it was
  abbrev Stays : Outcome → Type 0
  Stays after = after.panel.place ≡ panel.place

  start_stays : (point : ℕ) (work : WriterWork) → Stays (start_writer panel slots point work)
  unfolding start_writer with_writer
  start_stays point work = unless Stays _ (outcome panel slots) _ (λ answer. refl) (λ carried. refl)

  change_stays : (sent : Sent) → Stays (change_starts panel slots sent)
  unfolding change_starts with_writer
  change_stays sent = unless Stays _ (outcome panel slots) _ (λ answer. refl) (λ carried. refl)

  taken_stays : (sent : Sent) (last : Station) → Stays (in_turn panel slots sent last)
  unfolding in_turn number_equal number_other
  taken_stays sent last =
      cond_holds Stays (eqb sent.number last.number) _ _
      (λ equal. cond_holds Stays (both (eqb sent.point last.point) (eqb sent.action last.action)) _ _ (λ same. refl) (λ other. refl))
      (λ other. cond_holds Stays (eqb sent.number (last.number + 1)) _ _ (λ next. change_stays sent) (λ out-of-turn. refl))

  command_stays : (bytes : List ℕ) → Stays (start_command panel slots bytes)
  unfolding start_command
  command_stays bytes = unless Stays _ (outcome panel slots) _ (λ answer. refl) (λ taken. taken_stays _ _)

  pub only_turns_move : (call : Call) (frame : List ℕ) → call ≢ Turn → (applied panel slots call frame).panel.place ≡ panel.place
  unfolding applied start_put start_change start_removal
  only_turns_move (StartLookup reader point) frame other = (lookup_leaves reader panel slots point).place_stays
  only_turns_move (StartWalk reader) frame other = (walk_leaves reader panel slots).place_stays
  only_turns_move (StepReader reader) frame other = (step_leaves reader panel slots).place_stays
  only_turns_move (StartPut point value) frame other = start_stays point _
  only_turns_move (StartChange point keep flip) frame other = start_stays point _
  only_turns_move (StartRemoval point) frame other = start_stays point _
  only_turns_move StartCommand frame other = command_stays frame
  only_turns_move StepWriter frame other = (step_keeps panel slots).place_stays
  only_turns_move Turn frame other = absurd (other refl)
