-- What the calls so far and their answers say: who has work underway, which commands have ended with which answer, and the place in the circle. As the types show, it
-- depends on nothing else: nothing in this file looks at the record or at the slots.
use Rattle.std.specs.Prelude.{ℕ, zero, suc, Bool, true, false, cond, not, List, [], ◌∷◌, ◌++◌, eqb}
use Rattle.conditions.specs.Conditions.{both}
use Rattle.answers.specs.Answers.{Ending, changed, Answer, started, underway, ended, walked, walked_last, served, given_again, gives, refused, has_ended, is_started}
use Rattle.plain_list.specs.PlainList.{Operation, nothing, put, change, removal}
use Rattle.change.specs.Change.{action_masks}
use Rattle.command.specs.declared.Sent.{Sent}
use Rattle.command.specs.Command.{sent_in}
use Rattle.circle.specs.Circle.{nobody, party_after, party_due}
use Rattle.calls.specs.declared.Call.{Call}
use Rattle.calls.specs.declared.Call.TheVariants.{StartLookup, StartWalk, StepReader, StartPut, StartChange, StartRemoval, StartCommand, StepWriter, Turn}

-- a call, and the frame lent with it
pub record Request : Type 0 where
  pub call : Call
  pub frame : List ℕ

-- "A reader is idle, looking up or walking"
pub data Reading : Type 0 where
  idle : Reading
  looking_up : (point : ℕ) → Reading
  walking : Reading

-- the writer's work: an operation with its arguments, or nothing, and the command whose change it is, if it is one's
pub record Writing : Type 0 where
  pub operation : Operation
  pub command : List Sent

-- the two
abbrev pub writing : Operation → List Sent → Writing
writing operation command = record { operation = operation; command = command }

-- what a call is for: a reader's start of a lookup or walk, or its step; the writer's start of an operation, or its step
pub data Role : Type 0 where
  reader_start : (reader : ℕ) → Reading → Role
  reader_step : (reader : ℕ) → Role
  writer_start : Writing → Role
  writer_step : Role

-- "a started command as its change"
unfoldable pub as_change : Sent → Operation
as_change sent = change sent.point (action_masks sent.action).keep (action_masks sent.action).flip

-- a command whose change has ended, and the answer that it gave
pub record Given : Type 0 where
  pub sent : Sent
  pub answer : Ending

-- what has been started and has not ended; what the changes of commands have given, the latest first; and the place in the circle
pub record Log : Type 0 where
  pub writer : Writing
  pub readers : ℕ → Reading
  pub ended : List Given
  -- the party that a turn tries first
  pub place : ℕ

-- the reader has no work underway
abbrev pub is_idle : Reading → Bool
is_idle idle = true
is_idle (looking_up point) = false
is_idle walking = false

-- the writer has no work underway
abbrev pub is_nothing : Operation → Bool
is_nothing nothing = true
is_nothing (put point value) = false
is_nothing (change point keep flip) = false
is_nothing (removal point) = false

-- the party has work underway: 0 is the writer, "reader n is n + 1"
unfoldable pub has_work : Log → ℕ → Bool
has_work log zero = not (is_nothing log.writer.operation)
has_work log (suc reader) = not (is_idle (log.readers reader))

-- the party whose turn it is, or nobody
unfoldable pub due_in : Log → ℕ
due_in log = party_due (has_work log) log.place

-- a party's step
abbrev pub step_of : ℕ → Role
step_of zero = writer_step
step_of (suc reader) = reader_step reader

-- the party that a call has served: of a turn one, of a refused turn and of any other call none
abbrev pub served_by : Answer → List ℕ
served_by started = []
served_by underway = []
served_by (ended completion) = []
served_by (walked word) = []
served_by (walked_last word) = []
served_by (served party answer) = party ∷ []
served_by (given_again completion) = []
served_by (gives values) = []
served_by (refused n) = []

-- its step; where none was served, the call was refused and the step is of no party that there is
abbrev pub served_role : List ℕ → Role
served_role [] = step_of nobody
served_role (party ∷ rest) = step_of party

-- "starts of lookups and walks, readers' steps, puts, changes, removals, commands and writer's steps"; a turn is the step of the party that it served
unfoldable pub role_of : Call → List ℕ → Answer → Role
role_of (StartLookup reader point) frame answer = reader_start reader (looking_up point)
role_of (StartWalk reader) frame answer = reader_start reader walking
role_of (StepReader reader) frame answer = reader_step reader
role_of (StartPut point value) frame answer = writer_start (writing (put point value) [])
role_of (StartChange point keep flip) frame answer = writer_start (writing (change point keep flip) [])
role_of (StartRemoval point) frame answer = writer_start (writing (removal point) [])
role_of StartCommand frame answer = writer_start (writing (as_change (sent_in frame)) (sent_in frame ∷ []))
role_of StepWriter frame answer = writer_step
role_of Turn frame answer = served_role (served_by answer)

-- a start begins the writer's work; "A step that ends an operation .. leaves that party idle"
unfoldable pub writing_after : Writing → Role → Answer → Writing
writing_after before (reader_start reader begun) answer = before
writing_after before (reader_step reader) answer = before
writing_after before (writer_start begun) answer = cond (is_started answer) begun before
writing_after before writer_step answer = cond (has_ended answer) (writing nothing []) before

-- the same of reader n
unfoldable pub reading_after : ℕ → Reading → Role → Answer → Reading
reading_after n before (reader_start reader begun) answer = cond (both (is_started answer) (eqb reader n)) begun before
reading_after n before (reader_step reader) answer = cond (both (has_ended answer) (eqb reader n)) idle before
reading_after n before (writer_start begun) answer = before
reading_after n before writer_step answer = before

-- commands with the answer that their change gave
unfoldable pub given_to : List Sent → Ending → List Given
given_to [] ending = []
given_to (sent ∷ rest) ending = record { sent = sent; answer = ending } ∷ given_to rest ending

-- the commands whose change a step of the writer ends
unfoldable pub ended_by : List Sent → Answer → List Given
ended_by command started = []
ended_by command underway = []
ended_by command (ended completion) = given_to command completion.ending
ended_by command (walked word) = []
ended_by command (walked_last word) = []
ended_by command (served party answer) = ended_by command answer
ended_by command (given_again completion) = []
ended_by command (gives values) = []
ended_by command (refused n) = []

-- the commands whose change the call ends
unfoldable pub ended_now : List Sent → Role → Answer → List Given
ended_now command (reader_start reader begun) answer = []
ended_now command (reader_step reader) answer = []
ended_now command (writer_start begun) answer = []
ended_now command writer_step answer = ended_by command answer

-- "a turn's step alone moves it one past the party served"
abbrev pub place_moved : ℕ → List ℕ → ℕ
place_moved place [] = place
place_moved place (party ∷ rest) = party_after party

-- the log after a call with this answer
unfoldable pub log_after : Log → Role → Answer → Log
log_after log role answer =
    record {
      writer = writing_after log.writer role answer;
      readers = λ (n : ℕ). reading_after n (log.readers n) role answer;
      ended = ended_now log.writer.command role answer ++ log.ended;
      place = place_moved log.place (served_by answer);
    }

-- before the first call: everyone idle, no command ended, the place "at first 0, the writer"
unfoldable pub fresh_log : Log
fresh_log = record { writer = writing nothing []; readers = λ (n : ℕ). idle; ended = []; place = 0 }

-- a station's last command that ended, with the answer that its change gave; "Each station's last number starts at 0", and no frame has that number
unfoldable pub last_given : ℕ → List Given → Given
last_given station [] = record { sent = record { station = station; number = 0; point = 0; action = 0 }; answer = changed 0 }
last_given station (given ∷ rest) = cond (eqb given.sent.station station) given (last_given station rest)
