-- What is true of the writer's work between two of its steps, where the table agrees with a plain list (`WorkOK`), and what a step of it may come to (`StepOK`).
-- The laws of put, change and removal show that each of their steps comes to one of these.
use Rattle.std.specs.Prelude.{Option}
use Prim.Native.Nat.{ℕ, ◌≤◌, ◌<◌}
use mathlib.Core.Bool.{Bool, true, false}
use mathlib.Core.Path.{◌≡◌, sym, ◌∙◌}
use mathlib.Core.Logic.{◌⊎◌, inl, inr, ◌≢◌}
use mathlib.Core.List.{List}
use lib.ListN.{get_or}
use Rattle.hash.specs.Position.{position_of}
use Rattle.record.specs.declared.Record.{Record}
use Rattle.record.specs.declared.Search.TheVariants.{Unread}
use Rattle.record.specs.declared.Place.{Place}
use Rattle.record.specs.declared.PutStage.{PutStage}
use Rattle.record.specs.declared.PutStage.TheVariants.{Searching as PutStage-as-Searching, Scanning, Found as PutStage-as-Found, Chosen}
use Rattle.record.specs.declared.Change.{Change}
use Rattle.record.specs.declared.Alteration.{Alteration}
use Rattle.record.specs.declared.Alteration.TheVariants.{Given, Commanded}
use Rattle.record.specs.declared.Command.{Command}
use Rattle.record.specs.declared.Station.{Station}
use Rattle.record.specs.Parts.{with_numbered}
use Rattle.record.specs.declared.ChangeStage.{ChangeStage}
use Rattle.record.specs.declared.ChangeStage.TheVariants.{Searching as ChangeStage-as-Searching, Found as ChangeStage-as-Found}
use Rattle.record.specs.declared.RemovalStage.{RemovalStage}
use Rattle.record.specs.declared.RemovalStage.TheVariants.{Searching as RemovalStage-as-Searching, Found as RemovalStage-as-Found, Lowering}
use Rattle.record.specs.declared.WriterWork.{WriterWork}
use Rattle.record.specs.declared.WriterWork.TheVariants.{Idle, Putting, Changing, Removing}
use Rattle.counting.specs.Steps.{steps_made}
use Rattle.answers.specs.Answers.{Ending, removed, continues, finishes, stored_answer}
use Rattle.plain_list.specs.PlainList.{Rows, absent, present, entry_of, largest_index, Told}
use Rattle.plain_list.proofs.RowLaws.{present≢absent, Steady}
use Rattle.plain_list.proofs.IndexLaws.{Lowest}
use Rattle.plain_list.proofs.Agreement.{Agrees, Tight}
use Rattle.search.proofs.TrailLaws.{Trail, FoundAt}
use Rattle.effects.specs.declared.memory.WriterAccess.{WriterAccess}
use Rattle.effects.specs.Memory.{slots_after, stores_slot}
use Rattle.effects.specs.Effects.{WriterEffect, updated}
use Rattle.record.specs.Idle.{is_writer_idle}

-- the place found is the point's, by its lowest index
pub record Standing (m k q : ℕ) (rows : Rows) (place : Place) : Type 0 where
  pub found : entry_of q rows ≡ present place.value (position_of m q place.index)
  pub lowest : Lowest m k q (position_of m q place.index) place.index

-- the writer's own search misses nothing: while it works nobody else stores
pub standing : (m k q : ℕ) (rows : Rows) (place : Place) → FoundAt (entry_of q rows ≡ absent) m k q rows place → Standing m k q rows place
standing m k q rows place f = record { found = f.found; lowest = go f.lowest }
  where
    go : (entry_of q rows ≡ absent) ⊎ Lowest m k q (position_of m q place.index) place.index → Lowest m k q (position_of m q place.index) place.index
    go (inl none) = present≢absent (sym f.found ∙ none)
    go (inr l) = l

-- the point has no row, and its positions below this index are taken
pub record Below (m q : ℕ) (slots : List ℕ) (rows : Rows) (index : ℕ) : Type 0 where
  pub none : entry_of q rows ≡ absent
  pub taken : (j : ℕ) → 1 ≤ j → j < index → get_or slots (position_of m q j) 0 ≢ 0

module _ (m k reach : ℕ) (slots : List ℕ) (rows : Rows) where
  abbrev pub PutOK : ℕ → PutStage → Type 0
  PutOK q (PutStage-as-Searching search) = Trail (entry_of q rows ≡ absent) m k q rows search × Tight m k reach rows
  PutOK q (Scanning index) = Below m q slots rows index × Tight m k reach rows
  PutOK q (PutStage-as-Found place) = Standing m k q rows place × Tight m k reach rows
  PutOK q (Chosen index) = Below m q slots rows index × (get_or slots (position_of m q index) 0 ≡ 0) × (Tight m k reach rows ⊎ (reach ≡ index))

  abbrev pub ChangeOK : ℕ → ChangeStage → Type 0
  ChangeOK q (ChangeStage-as-Searching search) = Trail (entry_of q rows ≡ absent) m k q rows search × Tight m k reach rows
  ChangeOK q (ChangeStage-as-Found place) = Standing m k q rows place × Tight m k reach rows

  -- between its last two steps a removal has been fed already
  abbrev pub RemovalOK : ℕ → RemovalStage → Type 0
  RemovalOK q (RemovalStage-as-Searching search) = Trail (entry_of q rows ≡ absent) m k q rows search × Tight m k reach rows
  RemovalOK q (RemovalStage-as-Found place) = Standing m k q rows place × Tight m k reach rows
  RemovalOK q Lowering = Unit {0}

  -- a given flip fits its machine type; a command's follows from its action
  abbrev pub FlipFits : Alteration → Type 0
  FlipFits (Given masks) = masks.flip < 4294967296
  FlipFits (Commanded command) = Unit {0}

  abbrev pub WorkOK : WriterWork → Type 0
  WorkOK Idle = Tight m k reach rows
  WorkOK (Putting put) = PutOK put.point put.stage × (put.value < 4294967296)
  WorkOK (Changing change) = ChangeOK change.point change.stage × FlipFits change.alteration
  WorkOK (Removing removal) = RemovalOK removal.point removal.stage

-- the work as it was started
unfoldable pub begun : WriterWork → WriterWork
begun Idle = Idle
begun (Putting put) = Putting (record { point = put.point; value = put.value; stage = PutStage-as-Searching Unread; steps = 0 })
begun (Changing change) = Changing (record { point = change.point; alteration = change.alteration; stage = ChangeStage-as-Searching Unread; steps = 0 })
begun (Removing removal) = Removing (record { point = removal.point; stage = RemovalStage-as-Searching Unread; steps = 0 })

-- how often the plain list has been fed by a removal at this stage
abbrev pub fed_at : RemovalStage → ℕ
fed_at (RemovalStage-as-Searching search) = 0
fed_at (RemovalStage-as-Found place) = 0
fed_at Lowering = 1

-- how often it has been fed by the work underway
abbrev pub fed_by : WriterWork → ℕ
fed_by Idle = 0
fed_by (Putting put) = 0
fed_by (Changing change) = 0
fed_by (Removing removal) = fed_at removal.stage

-- the change of a command
abbrev pub is_commanded : Alteration → Bool
is_commanded (Given masks) = false
is_commanded (Commanded command) = true

-- the work is a command's
abbrev pub is_command : WriterWork → Bool
is_command Idle = false
is_command (Putting put) = false
is_command (Changing change) = is_commanded change.alteration
is_command (Removing removal) = false

-- what the last step of an operation leaves in the stations: nothing, or the command that it ends with what ends its change
pub data Recorded (stations after : List Station) (ending : Ending) : WriterWork → Type 0 where
  not_a_command : {work : WriterWork} → is_command work ≡ false → after ≡ stations → Recorded stations after ending work
  command_ends_lem : {change : Change} (command : Command) (stored : Option ℕ) → change.alteration ≡ Commanded command → stored_answer stored ≡ ending → after ≡ with_numbered stations command.station (record { number = command.number; point = change.point; action = command.action; answer = stored }) → Recorded stations after ending (Changing change)

module _ (panel : Record) (slots : List ℕ) (access : WriterAccess) (effect : WriterEffect) where
  -- the step leaves the stations
  abbrev pub Leaves : Type 0
  Leaves = (updated panel effect.update).stations ≡ panel.stations

  -- after the step the table agrees with these rows, and the work is in order
  pub record After (rows : Rows) : Type 0 where
    pub agrees : Agrees panel.m panel.k (updated panel effect.update).reach (updated panel effect.update).counts (slots_after slots access) rows
    pub work : WorkOK panel.m panel.k (updated panel effect.update).reach (slots_after slots access) rows effect.work

  -- what a step of this work may come to, where the plain list says `told` if it is fed now
  pub data StepOK (rows : Rows) (told : Told) (work : WriterWork) : Type 0 where
    -- it stores no slot, and the operation goes on
    goes_on : stores_slot access ≡ false → fed_by work ≡ 0 → fed_by effect.work ≡ 0 → begun effect.work ≡ begun work → steps_made effect.work ≡ steps_made work → is_writer_idle effect.work ≡ false → effect.progress ≡ continues → Leaves → After rows → StepOK rows told work
    -- it is the operation's last, and the first that feeds the list
    ends_fed : fed_by work ≡ 0 → effect.work ≡ Idle → effect.progress ≡ finishes told.answer → Steady rows told.rows → Recorded panel.stations (updated panel effect.update).stations told.answer work → After told.rows → StepOK rows told work
    -- it stores the slot, and the reach is still to be lowered
    empties : stores_slot access ≡ true → fed_by work ≡ 0 → fed_by effect.work ≡ 1 → begun effect.work ≡ begun work → steps_made effect.work ≡ steps_made work → is_writer_idle effect.work ≡ false → effect.progress ≡ continues → told.answer ≡ removed (largest_index panel.m panel.k told.rows) → Steady rows told.rows → Leaves → After told.rows → StepOK rows told work
    -- it lowers the reach of a list that has been fed
    lowers : stores_slot access ≡ false → fed_by work ≡ 1 → effect.work ≡ Idle → effect.progress ≡ finishes (removed (largest_index panel.m panel.k rows)) → Leaves → After rows → StepOK rows told work
