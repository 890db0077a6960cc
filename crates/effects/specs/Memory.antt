-- Part 2 of the writer's step: the one access. "A step reads or stores exactly one slot, or reads or stores the reach".
use Rattle.std.specs.Prelude.{ℕ, Bool, true, false, List, set}
use Rattle.hash.specs.Position.{position_of}
use Rattle.search.specs.Access.{word_read}
use Rattle.effects.specs.declared.memory.WriterAccess.{WriterAccess}
use Rattle.effects.specs.declared.memory.WriterAccess.TheVariants.{Read, StoreReach, StoreSlot}

-- the access that stores a word in "position i of point q"
unfoldable pub store_word : ℕ → ℕ → ℕ → ℕ → WriterAccess
store_word m point index word = StoreSlot (record { slot = position_of m point index; word = word })

-- the slot that an access stores; 0 where it stores none
unfoldable pub slot_stored : WriterAccess → ℕ
slot_stored (Read access) = 0
slot_stored (StoreReach reach) = 0
slot_stored (StoreSlot store) = store.slot

-- the word that an access reads
unfoldable pub access_read : List ℕ → WriterAccess → ℕ
access_read slots (Read access) = word_read slots access
access_read slots (StoreReach reach) = 0
access_read slots (StoreSlot store) = 0

-- the slots after it; the reach stands in the record
unfoldable pub slots_after : List ℕ → WriterAccess → List ℕ
slots_after slots (Read access) = slots
slots_after slots (StoreReach reach) = slots
slots_after slots (StoreSlot store) = set slots store.slot store.word

-- the access stores a slot
abbrev pub stores_slot : WriterAccess → Bool
stores_slot (Read access) = false
stores_slot (StoreReach reach) = false
stores_slot (StoreSlot store) = true
