-- Demand 3: the single claim about every whole list of calls, for every m and k in range. What each call is answered is said by the log of the calls before it, the
-- plain list and the notes: no definition of a step is cited.
use Rattle.std.specs.Prelude.{ℕ, zero, suc, ◌+◌, ◌-◌, ◌*◌, ◌≤◌, ◌<◌, Bool, true, false, cond, not, List, [], ◌∷◌, ◌≢◌, ◌≡◌, eqb, ltb, get_or}
use Rattle.conditions.specs.Conditions.{both}
use Rattle.refusal.specs.Judging.{refuse_if, or_else}
use Rattle.slot_words.specs.Points.{valid_point}
use Rattle.slot_words.specs.Word.{point_of, value_of}
use Rattle.counting.specs.declared.steps.OperationKind.TheVariants.{Lookup, Put, Change, Removal}
use Rattle.counting.specs.Steps.{step_bound}
use Rattle.answers.specs.Answers.{Ending, Completion, completed, Answer, started, underway, ended, walked, walked_last, served, given_again, refused, is_refused}
use Rattle.plain_list.specs.PlainList.{Rows, absent, present, entry_of, lookup_row, Operation, nothing, put, change, removal, Each, Some, Shows}
use Rattle.command.specs.declared.Sent.{Sent}
use Rattle.command.specs.Command.{sent_in, frame_refusal}
use Rattle.circle.specs.Circle.{nobody}
use Rattle.calls.specs.declared.Call.{Call}
use Rattle.calls.specs.declared.Call.TheVariants.{StartLookup, StartWalk, StepReader, StartPut, StartChange, StartRemoval, StartCommand, StepWriter, Turn}
use Rattle.history.specs.Log.{Request, Reading, idle, looking_up, walking, Role, reader_start, reader_step, writer_start, writer_step, Given, Log, is_idle, is_nothing, has_work, due_in, role_of, last_given}
use Rattle.history.specs.World.{WriterNotes, ReaderNotes, World, steps_of, stepped_reader, writer_stepped, outcome_of, next, fresh_world}

-- "put, change, remove 1, 2, 4"
unfoldable pub operation_refusal : Log → ℕ → ℕ
operation_refusal log point = refuse_if (not (valid_point point)) 2 (refuse_if (not (is_nothing log.writer.operation)) 4 0)

-- the station's last command that ended
unfoldable pub last_ended : Log → Sent → Given
last_ended log sent = last_given sent.station log.ended

-- "11 or 12 or stored answer, 4": a command beside its station's last one
unfoldable pub number_refusal : Log → Sent → Sent → ℕ
number_refusal log sent last =
    cond (eqb sent.number last.number)
    (refuse_if (not (both (eqb sent.point last.point) (eqb sent.action last.action))) 12 0)
    (refuse_if (not (eqb sent.number (last.number + 1))) 11 (refuse_if (not (is_nothing log.writer.operation)) 4 0))

-- the refusal that a call gets, or 0, in the order that document 01 states, and request N1 for a turn; 1 is for none of them
unfoldable pub refusal_due : Log → Call → List ℕ → ℕ
refusal_due log (StartLookup reader point) frame =
    refuse_if (ltb 15 reader) 3 (refuse_if (not (valid_point point)) 2 (refuse_if (not (is_idle (log.readers reader))) 4 0))
refusal_due log (StartWalk reader) frame = refuse_if (ltb 15 reader) 3 (refuse_if (not (is_idle (log.readers reader))) 4 0)
refusal_due log (StepReader reader) frame = refuse_if (ltb 15 reader) 3 (refuse_if (is_idle (log.readers reader)) 5 0)
refusal_due log (StartPut point value) frame = operation_refusal log point
refusal_due log (StartChange point keep flip) frame = operation_refusal log point
refusal_due log (StartRemoval point) frame = operation_refusal log point
refusal_due log StartCommand frame = or_else (frame_refusal frame) (number_refusal log (sent_in frame) (last_ended log (sent_in frame)).sent)
refusal_due log StepWriter frame = refuse_if (is_nothing log.writer.operation) 5 0
refusal_due log Turn frame = refuse_if (eqb (due_in log) nobody) 5 0

-- "All leave slots, buffers and record untouched"
pub record Untouched (before after : World) : Type 0 where
  pub record_stays : after.panel ≡ before.panel
  pub slots_stay : after.slots ≡ before.slots

-- a command that is not refused: "Number equal to the last ..: the stored answer is given again and nothing is altered", "an answer given again is the one its change gave", and it "counts 0"; or "the change starts"
abbrev pub CommandRight : Bool → Ending → World → World → Answer → Type 0
CommandRight true stored before after answer = (answer ≡ given_again (completed stored 0)) × Untouched before after
CommandRight false stored before after answer = answer ≡ started

-- "every lookup that has ended, one that the plain list gives after some call from its first step to its last"; within the bound; it "gives the number of steps it took"
pub record LookupRight (k point : ℕ) (notes : ReaderNotes) (completion : Completion) : Type 0 where
  pub one_moment : Some (λ (rows : Rows). completion.ending ≡ lookup_row point rows) notes.moments
  pub in_time : notes.steps ≤ step_bound Lookup k
  pub counted : completion.steps ≡ notes.steps

-- "each walk step gives the word read"; "each report was true when read", a report being a word that is not 0
pub record WordRight (slots : List ℕ) (rows : Rows) (slot word : ℕ) : Type 0 where
  pub read : word ≡ get_or slots slot 0
  pub true_when_read : word ≢ 0 → entry_of (point_of word) rows ≡ present (value_of word) slot

-- how many of the words are of this point
unfoldable pub reports : ℕ → List ℕ → ℕ
reports point [] = 0
reports point (word ∷ words) = cond (eqb (point_of word) point) 1 0 + reports point words

-- "A point on the list throughout the walk is reported exactly once"
unfoldable pub ReportedOnce : ReaderNotes → Type 0
ReportedOnce notes = (point : ℕ) → Each (λ (rows : Rows). entry_of point rows ≢ absent) notes.moments → reports point notes.words ≡ 1

-- a reader's step is answered by what the reader has underway, with one of these answers, and then this holds; a walk reads "slots 0 to m − 1, one a step, m steps"
pub data ReaderRight (m k : ℕ) (slots : List ℕ) (rows : Rows) (notes : ReaderNotes) : Reading → Answer → Type 0 where
  lookup_underway : {point : ℕ} → notes.steps < step_bound Lookup k → ReaderRight m k slots rows notes (looking_up point) underway
  lookup_ended : {point : ℕ} (completion : Completion) → LookupRight k point notes completion → ReaderRight m k slots rows notes (looking_up point) (ended completion)
  walk_underway : (word : ℕ) → WordRight slots rows (notes.steps - 1) word → notes.steps < m → ReaderRight m k slots rows notes walking (walked word)
  walk_ended : (word : ℕ) → WordRight slots rows (notes.steps - 1) word → notes.steps ≡ m → ReportedOnce notes → ReaderRight m k slots rows notes walking (walked_last word)

-- the steps that the writer's operation may take
unfoldable pub writing_bound : ℕ → Operation → ℕ
writing_bound k nothing = 0
writing_bound k (put point value) = step_bound Put k
writing_bound k (change point keep flip) = step_bound Change k
writing_bound k (removal point) = step_bound Removal k

-- "Every put, change or removal that has ended gave the answer above": what the plain list answered when it was fed, once; within the bound; it "gives the number of steps it took"
pub record Ended (k : ℕ) (operation : Operation) (notes : WriterNotes) (completion : Completion) : Type 0 where
  pub as_told : completion.ending ≡ notes.told
  pub fed_once : notes.feeds ≡ 1
  pub in_time : notes.steps ≤ writing_bound k operation
  pub counted : completion.steps ≡ notes.steps

-- the writer's step has one of these answers, and then this holds
pub data WriterRight (k : ℕ) (operation : Operation) (notes : WriterNotes) : Answer → Type 0 where
  writer_underway : notes.steps < writing_bound k operation → WriterRight k operation notes underway
  writer_ended : (completion : Completion) → Ended k operation notes completion → WriterRight k operation notes (ended completion)

-- a party's step is judged with the notes that count it
abbrev pub PartyRight : ℕ → ℕ → World → World → ℕ → Answer → Type 0
PartyRight m k before after zero answer = WriterRight k before.log.writer.operation (writer_stepped before answer) answer
PartyRight m k before after (suc reader) answer =
    ReaderRight m k before.slots after.rows (stepped_reader (before.readers reader) answer after.rows) (before.log.readers reader) answer

-- "it hands back the party served, with 6 and 7 too, and what its step gave": the party whose turn it is, and an answer that is right for its step
pub data TurnRight (m k : ℕ) (before after : World) : Answer → Type 0 where
  serves : (answer : Answer) → PartyRight m k before after (due_in before.log) answer → TurnRight m k before after (served (due_in before.log) answer)

-- what a call that is not refused comes to
abbrev pub CarriedOut : ℕ → ℕ → World → World → Call → List ℕ → Answer → Type 0
CarriedOut m k before after (StartLookup reader point) frame answer = answer ≡ started
CarriedOut m k before after (StartWalk reader) frame answer = answer ≡ started
CarriedOut m k before after (StepReader reader) frame answer = PartyRight m k before after (suc reader) answer
CarriedOut m k before after (StartPut point value) frame answer = answer ≡ started
CarriedOut m k before after (StartChange point keep flip) frame answer = answer ≡ started
CarriedOut m k before after (StartRemoval point) frame answer = answer ≡ started
CarriedOut m k before after StartCommand frame answer =
    CommandRight (eqb (sent_in frame).number (last_ended before.log (sent_in frame)).sent.number) (last_ended before.log (sent_in frame)).answer before after answer
CarriedOut m k before after StepWriter frame answer = PartyRight m k before after 0 answer
CarriedOut m k before after Turn frame answer = TurnRight m k before after answer

-- "each call is started, stepped, ended or refused as document 01 says": refused with this number and nothing touched or, where it is 0, carried out
abbrev pub AnsweredBy : ℕ → ℕ → ℕ → World → World → Call → List ℕ → Answer → Type 0
AnsweredBy zero m k before after call frame answer = CarriedOut m k before after call frame answer
AnsweredBy (suc n) m k before after call frame answer = (answer ≡ refused (suc n)) × Untouched before after

-- a call is answered right
abbrev pub Right : ℕ → ℕ → World → World → Call → List ℕ → Answer → Type 0
Right m k before after call frame answer = AnsweredBy (refusal_due before.log call frame) m k before after call frame answer

-- how many of the commands are of this station and number
unfoldable pub times : ℕ → ℕ → List Sent → ℕ
times station number [] = 0
times station number (sent ∷ rest) =
    cond (both (eqb sent.station station) (eqb sent.number number)) 1 0 + times station number rest

-- the commands whose change has ended
unfoldable pub sents : List Given → List Sent
sents [] = []
sents (given ∷ rest) = given.sent ∷ sents rest

-- the steps that a reader's operation may take: a lookup its bound, a walk m
unfoldable pub reading_bound : ℕ → ℕ → Reading → ℕ
reading_bound m k idle = 0
reading_bound m k (looking_up point) = step_bound Lookup k
reading_bound m k walking = m

-- the steps that a party's operation may take
unfoldable pub party_bound : ℕ → ℕ → Log → ℕ → ℕ
party_bound m k log zero = writing_bound k log.writer.operation
party_bound m k log (suc reader) = reading_bound m k (log.readers reader)

-- of a party at work
pub record InTurn (m k : ℕ) (world : World) (party : ℕ) : Type 0 where
  -- "Whoever has work gets a step within seventeen turns": those since it was started or last stepped
  pub served_soon : (world.turns party).waited ≤ 16
  -- "so a lookup that has begun ends within 17(k + 1) turns": an operation underway has seen fewer
  pub ends_soon : (world.turns party).seen < 17 * party_bound m k world.log party

-- of a step that is carried out, and so of one that ends an operation
pub record SteppedInTurn (m k : ℕ) (before after : World) (party : ℕ) : Type 0 where
  -- the operation has seen at most 17 turns for each of its steps, this one included
  pub by_steps : (after.turns party).seen ≤ 17 * (steps_of before party + 1)
  -- so a lookup at most 17(k + 1)
  pub in_all : (after.turns party).seen ≤ 17 * party_bound m k before.log party

-- what holds of the turns that a party has seen, if the call is a step of it
abbrev pub StepInTurn : ℕ → ℕ → World → World → Role → Answer → Type 0
StepInTurn m k before after (reader_start reader begun) answer = Unit {0}
StepInTurn m k before after (reader_step reader) answer = is_refused answer ≡ false → SteppedInTurn m k before after (suc reader)
StepInTurn m k before after (writer_start begun) answer = Unit {0}
StepInTurn m k before after writer_step answer = is_refused answer ≡ false → SteppedInTurn m k before after 0

-- what holds before the first call and after each
pub record WorldRight (m k : ℕ) (world : World) : Type 0 where
  pub m_stays : world.panel.m ≡ m
  pub k_stays : world.panel.k ≡ k
  -- "After each call the slots are 0 except for each row's word at its place"
  pub slots_show : Shows m world.slots world.rows
  -- each command acts at most once, whatever its point and action
  pub acts_once : (station number : ℕ) → times station number world.acts ≤ 1
  -- and its change ends at most once, so that it gave one answer
  pub ends_once : (station number : ℕ) → times station number (sents world.log.ended) ≤ 1
  -- every party at work is served in time, "no matter what the others start"
  pub steps_in_turn : (party : ℕ) → party ≤ 16 → has_work world.log party ≡ true → InTurn m k world party

-- the claim of a list of calls that begins in this world
abbrev pub Holds : ℕ → ℕ → World → List Request → Type 0
Holds m k world [] = WorldRight m k world
Holds m k world (request ∷ rest) =
    WorldRight m k world
    × Right m k world (next world request) request.call request.frame (outcome_of world request).answer
    × StepInTurn m k world (next world request) (role_of request.call request.frame (outcome_of world request).answer) (outcome_of world request).answer
    × Holds m k (next world request) rest

-- the claim
abbrev pub Claim : ℕ → ℕ → List Request → Type 0
Claim m k requests = Holds m k (fresh_world m k) requests

-- a number of 32 bits
abbrev pub Fits32 : ℕ → Type 0
Fits32 x = x < 4294967296

-- the arguments of a call fit their machine types
abbrev pub ArgumentsFit : Call → Type 0
ArgumentsFit (StartLookup reader point) = Fits32 reader × Fits32 point
ArgumentsFit (StartWalk reader) = Fits32 reader
ArgumentsFit (StepReader reader) = Fits32 reader
ArgumentsFit (StartPut point value) = Fits32 point × Fits32 value
ArgumentsFit (StartChange point keep flip) = Fits32 point × Fits32 keep × Fits32 flip
ArgumentsFit (StartRemoval point) = Fits32 point
ArgumentsFit StartCommand = Unit {0}
ArgumentsFit StepWriter = Unit {0}
ArgumentsFit Turn = Unit {0}

-- and so do those of each call of a list, with the bytes of its frame
abbrev pub AllFit : List Request → Type 0
AllFit requests = Each (λ (request : Request). ArgumentsFit request.call × Each (λ (byte : ℕ). byte < 256) request.frame) requests

-- "Demand 3 is a single claim, for every m and k in range, about every whole list of these calls with any arguments"
abbrev pub Demand3 : Type 0
Demand3 = (m k : ℕ) → 1 ≤ m → m ≤ 4096 → 1 ≤ k → k ≤ 64 → (requests : List Request) → AllFit requests → Claim m k requests
