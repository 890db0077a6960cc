-- What is kept is the world of `history`: the laws by which a call carried out keeps it so.
use Prim.Native.Nat.{ℕ, zero, suc, ◌+◌, ◌≤◌}
use mathlib.Core.Bool.{Bool, true, false, cond, not, false≢true}
use mathlib.Core.List.{List, [], ◌∷◌}
use mathlib.Core.Path.{◌≡◌, refl, sym, ap, ap₂, subst, ◌∙◌}
use native.Mathlib.Omega.{arith}
use borrow.Author.Tests.{eqb-true, ne_eqb, not-false}
use lib.Dec.{eqb}
use lib.ListN.{length, length-replicate, get_or}
use Rattle.std.specs.Prelude.{Option, Result, Ok, Err}
use Rattle.refusal.specs.declared.Refusal.{Refusal}
use Rattle.conditions.specs.Conditions.{both, either}
use Rattle.refusal.proofs.Laws.{not_refused, number_positive}
use Rattle.record.specs.declared.Record.{Record}
use Rattle.record.specs.Parts.{fresh_record}
use Rattle.record_ranges.specs.Ranges.{in_range}
use Rattle.answers.specs.declared.Given.{Given}
use Rattle.answers.specs.declared.StepResult.{StepResult}
use Rattle.answers.specs.declared.StepResult.TheVariants.{Underway as StepResult-as-Underway, Ended as StepResult-as-Ended, Walked, WalkedLast}
use Rattle.answers.specs.Answers.{Answer, started, underway, ended, walked, walked_last, served, given_again, gives, refused, has_ended, is_started, is_refused, paper_result, paper_call, Outcome, outcome, unless_refused}
use Rattle.plain_list.specs.PlainList.{Rows, Operation, nothing, feed, Shows}
use Rattle.plain_list.proofs.Agreement.{Agrees, shows}
use Rattle.plain_rows.specs.declared.Operation.{Operation as OperationFed}
use Rattle.plain_rows.specs.declared.Row.{Row as RowHeld}
use Rattle.plain_rows.specs.Rows.{RowsHeld, counted, rows_of, rows_below, listed, held}
use Rattle.plain_rows.specs.Fed.{operation_of, Feeding, answered, fed_rows}
use Rattle.plain_rows.proofs.RoomLaws.{few_rows, fed_by_panel}
use Rattle.plain_rows.proofs.StoreLaws.{below_held}
use Rattle.effects.specs.Memory.{stores_slot}
use Rattle.writer.specs.Step.{writer_access}
use Rattle.frame.specs.declared.Reading.{Reading}
use Rattle.frame.specs.declared.Frame.{Frame}
use Rattle.frame.specs.Frames.{fields_in, read_refusal, handed, read_frame}
use Rattle.frame.specs.Answers.{paper_read}
use Rattle.command.specs.Command.{sent_of, sent_in, frame_refusal, entry_refusal, start_command}
use Rattle.calls.specs.declared.Call.{Call}
use Rattle.calls.specs.declared.Call.TheVariants.{StartLookup, StartWalk, StepReader, StartPut, StartChange, StartRemoval, StartCommand, StepWriter, Turn}
use Rattle.calls.specs.Calls.{applied}
use Rattle.history.specs.Log.{Writing, writing, Role, reader_start, reader_step, writer_start, writer_step, served_by, served_role, role_of, writing_after, log_after, fresh_log}
use Rattle.history.specs.World.{no_writer_notes, World, stores_now, ends_now, feeds_now, told_now, rows_now, stepped_writer, writer_stepped, writer_now, noted, outcome_of, next, fresh_world}
use Rattle.history.specs.Claim.{ArgumentsFit}
use Rattle.history.proofs.Invariant.{Inv}
use Rattle.history.proofs.Theorem.{Along, fresh_along, call_keeps}
use Rattle.panel_and_list.specs.declared.Notes.{Notes}
use Rattle.panel_and_list.specs.declared.LentState.{LentState}
use Rattle.panel_and_list.specs.Kept.{no_notes, opened_state, Opened, serves_writer, is_writer_step, feeds_after, rows_after, notes_begun, notes_stepped, fed_after, Listed, NotesAfter, CallOnBoth, NotesKept, Keeps, Reached, begun, called, request}

-- a step by itself has served nobody
pub result_serves_none : (result : StepResult) → served_by (paper_result result) ≡ []
result_serves_none StepResult-as-Underway = refl
result_serves_none (StepResult-as-Ended ending) = refl
result_serves_none (Walked word) = refl
result_serves_none (WalkedLast word) = refl

-- a turn stores or ends only as a step of the writer
module _ (panel : Record) (answer : Answer) where
  stores_served : (parties : List ℕ) → both (serves_writer parties) (both (not (is_refused answer)) (stores_slot (writer_access panel panel.writer.work))) ≡ stores_now panel answer (served_role parties)
  unfolding stores_now both
  stores_served [] = refl
  stores_served (zero ∷ rest) = refl
  stores_served (suc reader ∷ rest) = rw (ne_eqb (suc reader) 0 (omega arith))

ends_served : (answer : Answer) (parties : List ℕ) → both (serves_writer parties) (has_ended answer) ≡ ends_now answer (served_role parties)
unfolding ends_now both
ends_served answer [] = refl
ends_served answer (zero ∷ rest) = refl
ends_served answer (suc reader ∷ rest) = rw (ne_eqb (suc reader) 0 (omega arith))

-- and so does any call
module _ (panel : Record) (answer : Answer) (frame : List ℕ) where
  pub stores_by_step : (call : Call) → both (is_writer_step call answer) (both (not (is_refused answer)) (stores_slot (writer_access panel panel.writer.work))) ≡ stores_now panel answer (role_of call frame answer)
  unfolding stores_now role_of both
  stores_by_step (StartLookup reader point) = refl
  stores_by_step (StartWalk reader) = refl
  stores_by_step (StepReader reader) = refl
  stores_by_step (StartPut point value) = refl
  stores_by_step (StartChange point keep flip) = refl
  stores_by_step (StartRemoval point) = refl
  stores_by_step StartCommand = refl
  stores_by_step StepWriter = refl
  stores_by_step Turn = stores_served panel answer (served_by answer)

module _ (answer : Answer) (frame : List ℕ) where
  pub ends_by_step : (call : Call) → both (is_writer_step call answer) (has_ended answer) ≡ ends_now answer (role_of call frame answer)
  unfolding ends_now role_of both
  ends_by_step (StartLookup reader point) = refl
  ends_by_step (StartWalk reader) = refl
  ends_by_step (StepReader reader) = refl
  ends_by_step (StartPut point value) = refl
  ends_by_step (StartChange point keep flip) = refl
  ends_by_step (StartRemoval point) = refl
  ends_by_step StartCommand = refl
  ends_by_step StepWriter = refl
  ends_by_step Turn = ends_served answer (served_by answer)

twice_not : (b : Bool) → not (not b) ≡ b
twice_not true = refl
twice_not false = refl

feeds_noted : (world : World) (fed : Bool) (answer : Answer) (role : Role) → fed ≡ not (eqb world.writer.feeds 0) → feeds_after world.panel fed answer role ≡ feeds_now world answer role
unfolding feeds_after feeds_now
feeds_noted world fed answer role e =
    ap (λ (b : Bool). either (stores_now world.panel answer role) (both (ends_now answer role) b)) (ap not e ∙ twice_not (eqb world.writer.feeds 0))

-- the operation has fed the list, or feeds it now
pub fed_more : (fed feeding : Bool) (n : ℕ) → fed ≡ not (eqb n 0) → either fed feeding ≡ not (eqb (cond feeding (n + 1) n) 0)
unfolding either
fed_more true true n e = sym (ap not (ne_eqb (n + 1) 0 (λ z. omega arith)))
fed_more true false n e = e
fed_more false true n e = sym (ap not (ne_eqb (n + 1) 0 (λ z. omega arith)))
fed_more false false n e = e

-- a refused step feeds nothing
refused_feeds : (world : World) (answer : Answer) → is_refused answer ≡ true → feeds_now world answer writer_step ≡ false
unfolding feeds_now stores_now ends_now both either
refused_feeds world started e = absurd (false≢true e)
refused_feeds world underway e = absurd (false≢true e)
refused_feeds world (ended ending) e = absurd (false≢true e)
refused_feeds world (walked word) e = absurd (false≢true e)
refused_feeds world (walked_last word) e = absurd (false≢true e)
refused_feeds world (served party answer) e = refused_feeds world answer e
refused_feeds world (given_again ending) e = absurd (false≢true e)
refused_feeds world (gives values) e = absurd (false≢true e)
refused_feeds world (refused n) e = refl

ended_not_refused : (answer : Answer) → has_ended answer ≡ true → is_refused answer ≡ false
ended_not_refused started e = refl
ended_not_refused underway e = refl
ended_not_refused (ended ending) e = refl
ended_not_refused (walked word) e = refl
ended_not_refused (walked_last word) e = refl
ended_not_refused (served party answer) e = ended_not_refused answer e
ended_not_refused (given_again ending) e = refl
ended_not_refused (gives values) e = refl
ended_not_refused (refused n) e = absurd (false≢true e)

-- the notes after a start and after a step of the writer, by the code's functions
module _ (notes : Notes) (feeds : Bool) (answer : Answer) (after : Notes) where
  pub begun_noted : (operation : Option OperationFed) (work : Writing) → after ≡ notes_begun notes (is_started answer) operation → (is_started answer ≡ true → operation_of operation ≡ work.operation) → NotesAfter notes feeds answer (writer_start work) after
  unfolding notes_begun writing_after fed_after
  begun_noted operation work e given = record { asked = (go (is_started answer) e given).0; fed = (go (is_started answer) e given).1 }
    where
      go : (b : Bool) → after ≡ cond b (record { asked = operation; fed = notes.fed }) notes → (b ≡ true → operation_of operation ≡ work.operation) → (operation_of after.asked ≡ (cond b work (writing (operation_of notes.asked) [])).operation) × (after.fed ≡ notes.fed)
      go true e given = (ap (λ (n : Notes). operation_of n.asked) e ∙ given refl, ap (λ (n : Notes). n.fed) e)
      go false e given = (ap (λ (n : Notes). operation_of n.asked) e, ap (λ (n : Notes). n.fed) e)

  pub stepped_noted : after ≡ notes_stepped notes feeds (has_ended answer) → NotesAfter notes feeds answer writer_step after
  unfolding notes_stepped writing_after fed_after
  stepped_noted e = record { asked = (go (has_ended answer) e).0; fed = (go (has_ended answer) e).1 }
    where
      go : (ends : Bool) → after ≡ cond ends no_notes (record { asked = notes.asked; fed = either notes.fed feeds }) → (operation_of after.asked ≡ (cond ends (writing nothing []) (writing (operation_of notes.asked) [])).operation) × (after.fed ≡ cond ends false (either notes.fed feeds))
      go true e = (ap (λ (n : Notes). operation_of n.asked) e, ap (λ (n : Notes). n.fed) e)
      go false e = (ap (λ (n : Notes). operation_of n.asked) e, ap (λ (n : Notes). n.fed) e)

-- the notes after a turn: where it has not served the writer, they stay
pub passed_noted : (notes : Notes) (feeds : Bool) (answer : Answer) (parties : List ℕ) → serves_writer parties ≡ false → NotesAfter notes feeds answer (served_role parties) notes
unfolding writing_after fed_after
passed_noted notes feeds answer [] e = record { asked = refl; fed = refl }
passed_noted notes feeds answer (zero ∷ rest) e = absurd (false≢true (sym e))
passed_noted notes feeds answer (suc reader ∷ rest) e = record { asked = refl; fed = refl }

pub served_writer : (parties : List ℕ) → serves_writer parties ≡ true → served_role parties ≡ writer_step
served_writer [] e = absurd (false≢true e)
served_writer (zero ∷ rest) e = refl
served_writer (suc reader ∷ rest) e = absurd (omega (arith, eqb-true (suc reader) 0 e))

-- the operation underway after a call goes by the operation before it
operation_after : (operation : Operation) (work : Writing) (answer : Answer) → operation ≡ work.operation → (role : Role) → (writing_after (writing operation []) role answer).operation ≡ (writing_after work role answer).operation
unfolding writing_after
operation_after operation work answer e (reader_start reader reading) = e
operation_after operation work answer e (reader_step reader) = e
operation_after operation work answer e (writer_start asked) = go (is_started answer)
  where
    go : (b : Bool) → (cond b asked (writing operation [])).operation ≡ (cond b asked work).operation
    go true = refl
    go false = e
operation_after operation work answer e writer_step = go (has_ended answer)
  where
    go : (b : Bool) → (cond b (writing nothing []) (writing operation [])).operation ≡ (cond b (writing nothing []) work).operation
    go true = refl
    go false = e

-- whether it has fed the list, as the world's notes count it
fed_after_lem : (world : World) (answer : Answer) (fed : Bool) → fed ≡ not (eqb world.writer.feeds 0) → (role : Role) → fed_after fed (feeds_now world answer role) answer role ≡ not (eqb (writer_now world answer role).feeds 0)
unfolding fed_after writer_now writer_stepped no_writer_notes stepped_writer
fed_after_lem world answer fed e (reader_start reader reading) = e
fed_after_lem world answer fed e (reader_step reader) = e
fed_after_lem world answer fed e (writer_start asked) = e
fed_after_lem world answer fed e writer_step =
    go (is_refused answer) (has_ended answer) (feeds_now world answer writer_step) (refused_feeds world answer) (ended_not_refused answer)
  where
    go : (gone ends feeding : Bool) → (gone ≡ true → feeding ≡ false) → (ends ≡ true → gone ≡ false) → cond ends false (either fed feeding) ≡ not (eqb (cond gone world.writer (cond ends no_writer_notes (stepped_writer world.writer feeding (told_now world)))).feeds 0)
    go true true feeding none over = absurd (false≢true (sym (over refl)))
    go true false true none over = absurd (false≢true (sym (none refl)))
    go true false false none over = fed_more fed false world.writer.feeds e
    go false true feeding none over = refl
    go false false feeding none over = fed_more fed feeding world.writer.feeds e

notes_kept : (world : World) (answer : Answer) (role : Role) (notes after : Notes) → NotesKept notes world.log.writer world.writer → NotesAfter notes (feeds_now world answer role) answer role after → NotesKept after (writing_after world.log.writer role answer) (writer_now world answer role)
notes_kept world answer role notes after kept noted =
    record {
      asked = noted.asked ∙ operation_after (operation_of notes.asked) world.log.writer answer kept.asked role;
      fed = noted.fed ∙ fed_after_lem world answer notes.fed kept.fed role;
    }

-- a frame that is not refused begins with 0F, and has the command's fields
module _ (bytes : List ℕ) (allowed : frame_refusal bytes ≡ 0) where
  first : (not (eqb (get_or bytes 0 0) 0x0F) ≡ false) × (read_refusal bytes ≡ 0)
  unfolding frame_refusal
  first =
      let a = not_refused (eqb (length bytes) 0) 8 _ (omega arith) allowed in
      not_refused (not (eqb (get_or bytes 0 0) 0x0F)) 9 (read_refusal bytes) (omega arith) a.1

  read : read_frame bytes ≡ handed 0 0x0F (fields_in bytes 0x0F)
  unfolding read_frame
  read =
      let map = eqb-true (get_or bytes 0 0) 0x0F (not-false (eqb (get_or bytes 0 0) 0x0F) first.0) in
      ap₂ (λ (n map : ℕ). handed n map (fields_in bytes map)) first.1 map

  pub frame_sent : (f : Frame) → paper_read (Ok f) ≡ read_frame bytes → sent_of f.fields ≡ sent_in bytes
  unfolding handed sent_in
  frame_sent f e = ap (λ (r : Reading). sent_of r.fields) (e ∙ read)

  pub frame_not_refused : (r : Refusal) → paper_read (Err r) ≡ read_frame bytes → ⊥
  unfolding handed
  frame_not_refused r e = omega (arith, number_positive r, ap (λ (r : Reading). r.refused) (e ∙ read))

-- a command that was started had such a frame
started_frame : (panel : Record) (slots bytes : List ℕ) → is_started (start_command panel slots bytes).answer ≡ true → frame_refusal bytes ≡ 0
unfolding start_command entry_refusal unless_refused
started_frame panel slots bytes e =
    (not_refused (not (in_range (length slots) panel)) 1 (frame_refusal bytes) (omega arith) (go (entry_refusal (length slots) panel bytes) _ e)).1
  where
    go : (n : ℕ) (done : Outcome) → is_started (unless_refused n (outcome panel slots) done).answer ≡ true → n ≡ 0
    go zero done e = refl
    go (suc n) done e = absurd (false≢true e)

-- what the code's functions say of a call, together
module _ (before : LentState) (slots : List ℕ) (rows : List RowHeld) (call : Call) (frame : List ℕ) (after : LentState) (gave : Result Given Refusal) (slots' : List ℕ) (rows' : List RowHeld) where
  abbrev given : Answer
  given = paper_call gave

  started_command : given ≡ (applied before.panel slots call frame).answer → call ≡ StartCommand → is_started given ≡ true → frame_refusal frame ≡ 0
  unfolding applied
  started_command e command s =
      started_frame before.panel slots frame (ap is_started (sym (e ∙ ap (λ (x : Call). (applied before.panel slots x frame).answer) command)) ∙ s)

  pub carried_out : {feeds : Bool} → feeds ≡ feeds_after before.panel before.notes.fed given (role_of call frame given) → outcome after.panel slots' given ≡ applied before.panel slots call frame → Listed (counted rows before.count) (counted rows' after.count) (rows_after before.panel feeds (operation_of before.notes.asked) (counted rows before.count)) → ((call ≡ StartCommand → is_started given ≡ true → frame_refusal frame ≡ 0) → NotesAfter before.notes feeds given (role_of call frame given) after.notes) → CallOnBoth before slots rows call frame after gave slots' rows'
  carried_out feeding done fed noted =
      record {
        done = done;
        listed_after = subst (λ (b : Bool). Listed (counted rows before.count) (counted rows' after.count) (rows_after before.panel b (operation_of before.notes.asked) (counted rows before.count))) feeding fed;
        noted = subst (λ (b : Bool). NotesAfter before.notes b given (role_of call frame given) after.notes) feeding (noted (started_command (ap (λ (o : Outcome). o.answer) done)));
      }

-- a world that a list of calls leads to has what holds all along
own : (m k : ℕ) (world : World) → Along m k world → Along world.panel.m world.panel.k world
own m k world along =
    subst (λ (x : ℕ). Along x world.panel.k world) (sym along.inv.m_is) (subst (λ (x : ℕ). Along m x world) (sym along.inv.k_is) along)

reached_along : {world : World} → Reached world → Along world.panel.m world.panel.k world
reached_along (begun m k m_low m_high k_low k_high) = own m k (fresh_world m k) (fresh_along m k m_low m_high k_low k_high)
reached_along (called {world} reached request fit) =
    own world.panel.m world.panel.k (next world request) (call_keeps world.panel.m world.panel.k world request (reached_along reached) fit)

-- no row, whatever entries are lent
pub opened_lent : (panel : Record) (rows : List RowHeld) → Opened panel (opened_state panel) rows
unfolding opened_state rows_below
opened_lent panel rows = record { same = refl; notes = refl; rows_none = refl }

-- and with a list that has no row
pub opened_beside : (panel : Record) (state : LentState) (list : RowsHeld) → state ≡ opened_state panel → listed list ≡ [] → Opened panel (record { panel = state.panel; notes = state.notes; count = list.count }) list.rows
unfolding opened_state
opened_beside panel state list e none =
    record { same = ap (λ (s : LentState). s.panel) e; notes = ap (λ (s : LentState). s.notes) e; rows_none = none }

-- and with the entries of a panel that was there before
pub opened_again : (panel : Record) (state : LentState) (rows : List RowHeld) → state ≡ opened_state panel → Opened panel (record { panel = state.panel; notes = state.notes; count = state.count }) rows
opened_again panel state rows e =
    subst (λ (s : LentState). Opened panel (record { panel = s.panel; notes = s.notes; count = s.count }) rows) (sym e) (opened_lent panel rows)

-- a fresh panel of which nothing was asked
pub opened_kept : (m k : ℕ) (state : LentState) (rows : List RowHeld) → Opened (fresh_record m k) state rows → m ≤ length rows → Keeps (fresh_world m k) state (fresh_world m k).slots rows
unfolding fresh_world fresh_log no_writer_notes
opened_kept m k state rows opened room =
    record {
      panel = opened.same;
      slots_kept = refl;
      rows_kept = opened.rows_none;
      notes = record {
        asked = ap (λ (notes : Notes). operation_of notes.asked) opened.notes;
        fed = ap (λ (notes : Notes). notes.fed) opened.notes;
      };
      room = omega (arith, length-replicate {A = ℕ} m 0);
    }

-- a state that keeps such a world
module _ (world : World) (reached : Reached world) (before : LentState) (slots : List ℕ) (rows : List RowHeld) (keeps : Keeps world before slots rows) where
  abbrev list : RowsHeld
  list = counted rows before.count

  abbrev m : ℕ
  m = world.panel.m

  abbrev k : ℕ
  k = world.panel.k

  inv : Inv m k world
  inv = (reached_along reached).inv

  agrees : Agrees m k world.panel.reach world.panel.counts world.slots (listed list)
  agrees = subst (λ (rows : Rows). Agrees m k world.panel.reach world.panel.counts world.slots rows) (sym keeps.rows_kept) inv.agrees

  as_long : length slots ≡ m
  as_long = ap length keeps.slots_kept ∙ inv.agrees.whole

  told : fed_rows before.panel.m before.panel.k (operation_of before.notes.asked) list ≡ answered (told_now world)
  unfolding told_now
  told =
      ap (λ (panel : Record). fed_rows panel.m panel.k (operation_of before.notes.asked) list) keeps.panel
      ∙ fed_by_panel m k list (operation_of before.notes.asked) world.panel.reach world.panel.counts world.slots agrees (omega (arith, as_long, keeps.room))
      ∙ ap answered (ap₂ (feed m k) keeps.notes.asked keeps.rows_kept)

  -- the slots show the list that is kept
  pub kept_shows : Shows (length slots) slots (listed list)
  kept_shows =
      let shown : Shows m world.slots (listed list) = shows m k world.panel.reach world.panel.counts world.slots (listed list) agrees in
      subst (λ (n : ℕ). Shows n slots (listed list)) (sym as_long) (subst (λ (l : List ℕ). Shows m l (listed list)) (sym keeps.slots_kept) shown)

  -- and so the entries that hold it, by which the program `orders` asks `do_show`
  pub kept_shows_held : Shows (length slots) slots (rows_of (held list))
  kept_shows_held =
      let few = few_rows m k list (operation_of before.notes.asked) world.panel.reach world.panel.counts world.slots agrees in
      let inside : before.count ≤ length rows = omega (arith, as_long, keeps.room) in
      subst (λ (rows : Rows). Shows (length slots) slots rows) (below_held rows before.count inside) kept_shows

  -- a call carried out
  module _ (call : Call) (frame : List ℕ) (after : LentState) (gave : Result Given Refusal) (slots' : List ℕ) (rows' : List RowHeld) (fit : ArgumentsFit call) (out : CallOnBoth before slots rows call frame after gave slots' rows') where
    abbrev role : Role
    role = role_of call frame (paper_call gave)

    abbrev answer : Answer
    answer = paper_call gave

    same : outcome after.panel slots' answer ≡ outcome_of world (request call frame)
    unfolding outcome_of
    same = out.done ∙ ap₂ (λ (panel : Record) (slots : List ℕ). applied panel slots call frame) keeps.panel keeps.slots_kept

    answers : answer ≡ (outcome_of world (request call frame)).answer
    answers = ap (λ (o : Outcome). o.answer) same

    feeds_now_lem : feeds_after before.panel before.notes.fed answer role ≡ feeds_now world answer role
    feeds_now_lem =
        ap (λ (panel : Record). feeds_after panel before.notes.fed answer role) keeps.panel
        ∙ feeds_noted world before.notes.fed answer role keeps.notes.fed

    noted_now : NotesAfter before.notes (feeds_now world answer role) answer role after.notes
    noted_now = subst (λ (feeds : Bool). NotesAfter before.notes feeds answer role after.notes) feeds_now_lem out.noted

    rows_now_lem : rows_after before.panel (feeds_after before.panel before.notes.fed answer role) (operation_of before.notes.asked) list ≡ rows_now world answer role
    unfolding rows_now rows_after
    rows_now_lem =
        ap₂ (λ (b : Bool) (t : Feeding). cond b t.rows (listed list)) feeds_now_lem told
        ∙ ap (λ (rows : Rows). cond (feeds_now world answer role) (told_now world).rows rows) keeps.rows_kept

    whole : length slots' ≡ length slots
    unfolding next noted
    whole =
        ap (λ (o : Outcome). length o.slots) same
        ∙ (call_keeps m k world (request call frame) (reached_along reached) fit).inv.agrees.whole
        ∙ sym as_long

    -- what is kept then is the world after it
    pub kept : Keeps (next world (request call frame)) after slots' rows'
    unfolding next noted log_after
    kept =
        record {
          panel = ap (λ (o : Outcome). o.panel) same;
          slots_kept = ap (λ (o : Outcome). o.slots) same;
          rows_kept = out.listed_after.shown ∙ rows_now_lem ∙ ap (λ (a : Answer). rows_now world a (role_of call frame a)) answers;
          notes = subst (λ (a : Answer). NotesKept after.notes (writing_after world.log.writer (role_of call frame a) a) (writer_now world a (role_of call frame a))) answers (notes_kept world answer role before.notes after.notes keeps.notes noted_now);
          room = omega (arith, out.listed_after.stay.size, keeps.room, whole);
        }
