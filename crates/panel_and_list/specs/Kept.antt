-- What is kept beside the panel: the plain list of `history`'s world, and of its notes what says when the list is fed, and with what.
use Rattle.std.specs.Prelude.{ℕ, ◌≤◌, Bool, true, false, cond, not, List, [], ◌∷◌, ◌≡◌, Option, None, Result, eqb, length}
use Rattle.conditions.specs.Conditions.{both, either}
use Rattle.refusal.specs.declared.Refusal.{Refusal}
use Rattle.record.specs.declared.Record.{Record}
use Rattle.answers.specs.declared.Given.{Given}
use Rattle.answers.specs.Answers.{Answer, has_ended, paper_call, outcome}
use Rattle.plain_list.specs.PlainList.{Rows, Operation}
use Rattle.plain_rows.specs.declared.Operation.{Operation as OperationFed}
use Rattle.plain_rows.specs.declared.Row.{Row as RowHeld}
use Rattle.plain_rows.specs.Rows.{RowsHeld, counted, listed, SameFrom}
use Rattle.plain_rows.specs.Fed.{operation_of, fed_rows}
use Rattle.calls.specs.declared.Call.{Call}
use Rattle.calls.specs.declared.Call.TheVariants.{StartLookup, StartWalk, StepReader, StartPut, StartChange, StartRemoval, StartCommand, StepWriter, Turn}
use Rattle.calls.specs.Calls.{applied}
use Rattle.history.specs.Log.{Request, Writing, writing, Role, reader_start, reader_step, writer_start, writer_step, served_by, role_of, writing_after}
use Rattle.history.specs.World.{WriterNotes, World, stores_now, ends_now, next, fresh_world}
use Rattle.history.specs.Claim.{ArgumentsFit}
use Rattle.panel_and_list.specs.declared.Notes.{Notes}
use Rattle.panel_and_list.specs.declared.LentState.{LentState}
use Rattle.panel_and_list.specs.declared.PanelState.{PanelState}

-- nothing is noted
abbrev pub no_notes : Notes
no_notes = record { asked = None; fed = false }

-- a panel of which nothing was asked: no row
unfoldable pub opened_state : Record → LentState
opened_state panel = record { panel = panel; notes = no_notes; count = 0 }

-- the same, with entries beside it
pub record Opened (panel : Record) (state : LentState) (rows : List RowHeld) : Type 0 where
  pub same : state.panel ≡ panel
  pub notes : state.notes ≡ no_notes
  pub rows_none : listed (counted rows state.count) ≡ []

-- a state without the entries of its list
abbrev pub apart : {n : ℕ} → PanelState n → LentState
apart state = record { panel = state.panel; notes = state.notes; count = state.list.count }

-- a turn has served the writer
abbrev pub serves_writer : List ℕ → Bool
serves_writer [] = false
serves_writer (party ∷ rest) = eqb party 0

-- the call is a step of the writer
abbrev pub is_writer_step : Call → Answer → Bool
is_writer_step (StartLookup reader point) answer = false
is_writer_step (StartWalk reader) answer = false
is_writer_step (StepReader reader) answer = false
is_writer_step (StartPut point value) answer = false
is_writer_step (StartChange point keep flip) answer = false
is_writer_step (StartRemoval point) answer = false
is_writer_step StartCommand answer = false
is_writer_step StepWriter answer = true
is_writer_step Turn answer = serves_writer (served_by answer)

-- "fed whole at its step that stores the slot, or at its last if it stores none": `feeds_now` of an operation that has fed the list or has not
unfoldable pub feeds_after : Record → Bool → Answer → Role → Bool
feeds_after panel fed answer role = either (stores_now panel answer role) (both (ends_now answer role) (not fed))

-- the rows after a call that feeds the list, or does not
unfoldable pub rows_after : Record → Bool → Operation → RowsHeld → Rows
rows_after panel feeds asked list = cond feeds (fed_rows panel.m panel.k asked list).rows (listed list)

-- the list has these rows, and behind them its entries are as before
pub record Listed (list list' : RowsHeld) (rows : Rows) : Type 0 where
  pub shown : listed list' ≡ rows
  pub stay : SameFrom list'.count list.rows list'.rows

-- the notes after an operation's start, which is refused or not
unfoldable pub notes_begun : Notes → Bool → Option OperationFed → Notes
notes_begun notes begun operation = cond begun (record { asked = operation; fed = notes.fed }) notes

-- the notes after a step of the writer, which ends the operation or not
unfoldable pub notes_stepped : Notes → Bool → Bool → Notes
notes_stepped notes feeds ends =
    cond ends no_notes (record { asked = notes.asked; fed = either notes.fed feeds })

-- whether the operation underway has fed the list, after the call
unfoldable pub fed_after : Bool → Bool → Answer → Role → Bool
fed_after fed feeds answer (reader_start reader begun) = fed
fed_after fed feeds answer (reader_step reader) = fed
fed_after fed feeds answer (writer_start begun) = fed
fed_after fed feeds answer writer_step = cond (has_ended answer) false (either fed feeds)

-- the notes after a call: the operation underway as the claim's log has it, and whether it has fed the list
pub record NotesAfter (before : Notes) (feeds : Bool) (answer : Answer) (role : Role) (after : Notes) : Type 0 where
  pub asked : operation_of after.asked ≡ (writing_after (writing (operation_of before.asked) []) role answer).operation
  pub fed : after.fed ≡ fed_after before.fed feeds answer role

-- what a call comes to: panel, slots and answer as `apply` has them, the list fed or not, and the notes
pub record CallOnBoth (before : LentState) (slots : List ℕ) (rows : List RowHeld) (call : Call) (frame : List ℕ) (after : LentState) (given : Result Given Refusal) (slots' : List ℕ) (rows' : List RowHeld) : Type 0 where
  pub done : outcome after.panel slots' (paper_call given) ≡ applied before.panel slots call frame
  pub listed_after : Listed (counted rows before.count) (counted rows' after.count) (rows_after before.panel (feeds_after before.panel before.notes.fed (paper_call given) (role_of call frame (paper_call given))) (operation_of before.notes.asked) (counted rows before.count))
  pub noted : NotesAfter before.notes (feeds_after before.panel before.notes.fed (paper_call given) (role_of call frame (paper_call given))) (paper_call given) (role_of call frame (paper_call given)) after.notes

-- the notes keep what the log and the world's notes have of the writer's operation
pub record NotesKept (notes : Notes) (underway : Writing) (writer : WriterNotes) : Type 0 where
  pub asked : operation_of notes.asked ≡ underway.operation
  pub fed : notes.fed ≡ not (eqb writer.feeds 0)

-- a world is kept: its panel and slots, its plain list in at least as many entries, and the notes
pub record Keeps (world : World) (state : LentState) (slots : List ℕ) (rows : List RowHeld) : Type 0 where
  pub panel : state.panel ≡ world.panel
  pub slots_kept : slots ≡ world.slots
  pub rows_kept : listed (counted rows state.count) ≡ world.rows
  pub notes : NotesKept state.notes world.log.writer world.writer
  pub room : length slots ≤ length rows

-- a world to which a list of calls leads from a fresh panel
pub data Reached : World → Type 0 where
  begun : (m k : ℕ) → 1 ≤ m → m ≤ 4096 → 1 ≤ k → k ≤ 64 → Reached (fresh_world m k)
  called : {world : World} → Reached world → (request : Request) → ArgumentsFit request.call → Reached (next world request)

-- the request that a call with its frame is
abbrev pub request : Call → List ℕ → Request
request call frame = record { call = call; frame = frame }
