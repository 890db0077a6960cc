-- The words in which the laws of the writer are stated (proofs/WriterLaws.antt): what a start of the writer leaves, and what a step of it leaves alone.
use Rattle.std.specs.Prelude.{ℕ, ◌<◌, ◌≡◌, true, false, List, ◌≢◌, length, get_or}
use Rattle.record.specs.declared.Record.{Record}
use Rattle.record_ranges.specs.Ranges.{in_range}
use Rattle.answers.specs.Answers.{is_underway, Outcome}
use Rattle.search.specs.declared.access.ReadAccess.{ReadAccess}
use Rattle.effects.specs.declared.memory.Store.{Store}
use Rattle.effects.specs.declared.memory.WriterAccess.{WriterAccess}
use Rattle.effects.specs.declared.memory.WriterAccess.TheVariants.{Read, StoreReach, StoreSlot}
use Rattle.record.specs.Idle.{is_writer_idle}

-- "reads or stores exactly one slot, or reads or stores the reach": what the access does to the slots and to the reach
pub data Does (reach : ℕ) (slots : List ℕ) (after : Outcome) : WriterAccess → Type 0 where
  reads : {access : ReadAccess} → after.slots ≡ slots → after.panel.reach ≡ reach → Does reach slots after (Read access)
  stores_reach : {new : ℕ} → after.slots ≡ slots → after.panel.reach ≡ new → Does reach slots after (StoreReach new)
  does_store_slot : {store : Store} → store.slot < length slots → get_or after.slots store.slot 0 ≡ store.word → ((other : ℕ) → other ≢ store.slot → get_or after.slots other 0 ≡ get_or slots other 0) → after.panel.reach ≡ reach → Does reach slots after (StoreSlot store)

-- what no step of the writer changes
pub record Keeps (panel : Record) (slots : List ℕ) (after : Outcome) : Type 0 where
  pub length_stays : length after.slots ≡ length slots
  pub m_stays : after.panel.m ≡ panel.m
  pub k_stays : after.panel.k ≡ panel.k
  pub readers_stay : after.panel.readers ≡ panel.readers
  pub place_stays : after.panel.place ≡ panel.place

-- what a start leaves: unless it was refused, a record in range with a writer at work
pub record Begun (now : Outcome) : Type 0 where
  pub fits : is_underway now.answer ≡ true → in_range (length now.slots) now.panel ≡ true
  pub works : is_underway now.answer ≡ true → is_writer_idle now.panel.writer.work ≡ false
