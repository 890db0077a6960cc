-- A list of calls, from a fresh panel on: the record and the slots as `apply` leaves them, the log of the calls and their answers, the plain list beside them, and what
-- is noted of each operation underway, the turns that it has seen included, so that the claim can speak of it. When the plain list is fed goes by the writer's accesses;
-- of the record nothing else is looked at but m and k.
use Rattle.std.specs.Prelude.{ℕ, zero, suc, ◌+◌, Bool, false, cond, not, List, [], ◌∷◌, ◌++◌, eqb, length, replicate}
use Rattle.conditions.specs.Conditions.{both, either}
use Rattle.record.specs.declared.Record.{Record}
use Rattle.record.specs.Parts.{fresh_record}
use Rattle.answers.specs.Answers.{Ending, ended_with, Answer, started, underway, ended, walked, walked_last, served, given_again, gives, refused, has_ended, is_started, is_refused, Outcome}
use Rattle.plain_list.specs.PlainList.{Rows, Told, feed}
use Rattle.effects.specs.Memory.{stores_slot}
use Rattle.writer.specs.Step.{writer_access}
use Rattle.command.specs.declared.Sent.{Sent}
use Rattle.calls.specs.Calls.{applied}
use Rattle.history.specs.Log.{Request, Role, reader_start, reader_step, writer_start, writer_step, role_of, Log, served_by, log_after, fresh_log}

-- what is noted of the writer's operation underway
pub record WriterNotes : Type 0 where
  -- how many steps it has made
  pub steps : ℕ
  -- how often it has fed the plain list
  pub feeds : ℕ
  -- what the plain list answered when it was last fed
  pub told : Ending

-- what is noted of a reader's operation underway
pub record ReaderNotes : Type 0 where
  -- how many steps it has made
  pub steps : ℕ
  -- the plain lists "after some call from its first step to its last", the latest first
  pub moments : List Rows
  -- the words that a walk has given, the latest first
  pub words : List ℕ

-- the turns that a party has seen
pub record TurnNotes : Type 0 where
  -- since its operation was last started
  pub seen : ℕ
  -- since it was last started or stepped
  pub waited : ℕ

-- before its first step nothing is noted of an operation, and nothing once it has ended
unfoldable pub no_writer_notes : WriterNotes
no_writer_notes = record { steps = 0; feeds = 0; told = ended_with 7 }

-- the same of a reader's
unfoldable pub no_reader_notes : ReaderNotes
no_reader_notes = record { steps = 0; moments = []; words = [] }

-- a party that has seen no turn
unfoldable pub no_turns : TurnNotes
no_turns = record { seen = 0; waited = 0 }

-- the panel, the log, the plain list beside them, and what is noted
pub record World : Type 0 where
  pub panel : Record
  pub slots : List ℕ
  pub log : Log
  pub rows : Rows
  pub writer : WriterNotes
  pub readers : ℕ → ReaderNotes
  -- by the party
  pub turns : ℕ → TurnNotes
  -- the commands that have acted, the latest first
  pub acts : List Sent

-- "A command (station, number, point, action) acts where its change stores the slot": the call is a step of the writer that stores one
unfoldable pub stores_now : Record → Answer → Role → Bool
stores_now panel answer (reader_start reader begun) = false
stores_now panel answer (reader_step reader) = false
stores_now panel answer (writer_start begun) = false
stores_now panel answer writer_step = both (not (is_refused answer)) (stores_slot (writer_access panel panel.writer.work))

-- the call is the last step of the writer's operation
unfoldable pub ends_now : Answer → Role → Bool
ends_now answer (reader_start reader begun) = false
ends_now answer (reader_step reader) = false
ends_now answer (writer_start begun) = false
ends_now answer writer_step = has_ended answer

-- "Each of the first three is fed whole at its step that stores the slot, or at its last if it stores none"; "No other call feeds anything"
unfoldable pub feeds_now : World → Answer → Role → Bool
feeds_now world answer role =
    either (stores_now world.panel answer role) (both (ends_now answer role) (eqb world.writer.feeds 0))

-- what the plain list says if it is fed now: "the arguments of each put, change and removal that is started"
unfoldable pub told_now : World → Told
told_now world = feed world.panel.m world.panel.k world.log.writer.operation world.rows

-- the plain list after the call
unfoldable pub rows_now : World → Answer → Role → Rows
rows_now world answer role = cond (feeds_now world answer role) (told_now world).rows world.rows

-- the notes with one more step, which feeds the plain list or does not
unfoldable pub stepped_writer : WriterNotes → Bool → Told → WriterNotes
stepped_writer notes feeding told =
    record {
      steps = notes.steps + 1;
      feeds = cond feeding (notes.feeds + 1) notes.feeds;
      told = cond feeding told.answer notes.told;
    }

-- the notes on the writer with a step of this answer
unfoldable pub writer_stepped : World → Answer → WriterNotes
writer_stepped world answer = stepped_writer world.writer (feeds_now world answer writer_step) (told_now world)

-- the notes on the writer after the call
unfoldable pub writer_now : World → Answer → Role → WriterNotes
writer_now world answer (reader_start reader begun) = world.writer
writer_now world answer (reader_step reader) = world.writer
writer_now world answer (writer_start begun) = world.writer
writer_now world answer writer_step =
    cond (is_refused answer) world.writer (cond (has_ended answer) no_writer_notes (writer_stepped world answer))

-- the word that a step of a walk gives
unfoldable pub word_given : Answer → List ℕ
word_given started = []
word_given underway = []
word_given (ended completion) = []
word_given (walked word) = word ∷ []
word_given (walked_last word) = word ∷ []
word_given (served party answer) = word_given answer
word_given (given_again completion) = []
word_given (gives values) = []
word_given (refused n) = []

-- the notes on a reader with a step of its own
unfoldable pub stepped_reader : ReaderNotes → Answer → Rows → ReaderNotes
stepped_reader notes answer rows =
    record { steps = notes.steps + 1; moments = rows ∷ notes.moments; words = word_given answer ++ notes.words }

-- the notes after any other call: a moment more once the first step has been made
unfoldable pub witnessed : ReaderNotes → Rows → ReaderNotes
witnessed notes rows =
    cond (eqb notes.steps 0) notes (record { steps = notes.steps; moments = rows ∷ notes.moments; words = notes.words })

-- the notes on reader n after the call
unfoldable pub reader_now : Answer → Rows → Role → ℕ → ReaderNotes → ReaderNotes
reader_now answer rows (reader_start reader begun) n notes = witnessed notes rows
reader_now answer rows (reader_step reader) n notes =
    cond (both (not (is_refused answer)) (eqb reader n)) (cond (has_ended answer) no_reader_notes (stepped_reader notes answer rows))
    (witnessed notes rows)
reader_now answer rows (writer_start begun) n notes = witnessed notes rows
reader_now answer rows writer_step n notes = witnessed notes rows

-- the notes with a step that may be a turn, the party's own or another's; a refused one is nobody's
unfoldable pub turns_passed : Answer → Bool → TurnNotes → TurnNotes
turns_passed answer own notes =
    record {
      seen = notes.seen + length (served_by answer);
      waited = cond (both own (not (is_refused answer))) 0 (notes.waited + length (served_by answer));
    }

-- the turns that a party has seen after the call: none once it has been started
unfoldable pub turns_now : Answer → Role → ℕ → TurnNotes → TurnNotes
turns_now answer (reader_start reader begun) party notes = cond (both (is_started answer) (eqb (suc reader) party)) no_turns notes
turns_now answer (reader_step reader) party notes = turns_passed answer (eqb (suc reader) party) notes
turns_now answer (writer_start begun) party notes = cond (both (is_started answer) (eqb 0 party)) no_turns notes
turns_now answer writer_step party notes = turns_passed answer (eqb 0 party) notes

-- the steps that a party's operation has made
abbrev pub steps_of : World → ℕ → ℕ
steps_of world zero = world.writer.steps
steps_of world (suc reader) = (world.readers reader).steps

-- the world after a call that has come to this
unfoldable pub noted : World → Role → Outcome → World
noted world role after =
    record {
      panel = after.panel;
      slots = after.slots;
      log = log_after world.log role after.answer;
      rows = rows_now world after.answer role;
      writer = writer_now world after.answer role;
      readers = λ (n : ℕ). reader_now after.answer (rows_now world after.answer role) role n (world.readers n);
      turns = λ (party : ℕ). turns_now after.answer role party (world.turns party);
      acts = cond (stores_now world.panel after.answer role) (world.log.writer.command ++ world.acts) world.acts;
    }

-- what a call comes to in this world: `applied`, which the contract of the code's `apply` cites
unfoldable pub outcome_of : World → Request → Outcome
outcome_of world request = applied world.panel world.slots request.call request.frame

-- the world after a call
unfoldable pub next : World → Request → World
next world request = noted world (role_of request.call request.frame (outcome_of world request).answer) (outcome_of world request)

-- a fresh panel: nothing stored, nobody at work, nothing noted
unfoldable pub fresh_world : ℕ → ℕ → World
fresh_world m k =
    record {
      panel = fresh_record m k;
      slots = replicate m 0;
      log = fresh_log;
      rows = [];
      writer = no_writer_notes;
      readers = λ (n : ℕ). no_reader_notes;
      turns = λ (party : ℕ). no_turns;
      acts = [];
    }
