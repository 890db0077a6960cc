-- The count so far is that of the slots before the next one.
use Rattle.std.proofs.Common.{◌≡◌, ◌≤◌, take}
use Rattle.slot_words.specs.Taken.{taken_slots}
use Rattle.slot_words.proofs.taken.taken_slots.Given as goal

abbrev pub invariant-loop-word : goal.invariant-loop-word
invariant-loop-word l = (l.count ≤ l.word-index) × (l.count ≡ taken_slots (take l.word-index l.slots))
