-- Document 01, "Steps": a search for a point, as a lookup makes it and as the writer's operations do.
use Rattle.std.specs.Prelude.{ℕ, ◌+◌, Bool, cond, ltb, eqb, Some, None}
use Rattle.hash.specs.Position.{position_of}
use Rattle.record.specs.declared.Probe.{Probe}
use Rattle.record.specs.declared.Search.{Search}
use Rattle.record.specs.declared.Search.TheVariants.{Unread, Probing}
use Rattle.search.specs.declared.access.ReadAccess.{ReadAccess}
use Rattle.search.specs.declared.access.ReadAccess.TheVariants.{Reach, Slot}
use Rattle.search.specs.declared.Searched.{Searched}
use Rattle.search.specs.declared.Searched.TheVariants.{Going, Answered}
use Rattle.slot_words.specs.Word.{point_of, value_of}

-- part 1: "read the reach r; then positions 1 to r"
unfoldable pub search_access : ℕ → ℕ → Search → ReadAccess
search_access m point Unread = Reach
search_access m point (Probing probe) = Slot (position_of m point probe.next)

-- part 3, the reach read: "With r = 0 the first step ends it"
unfoldable pub first_probe : ℕ → Searched
first_probe reach = cond (eqb reach 0) (Answered None) (Going (Probing (record { reach = reach; next = 1 })))

-- part 3, a position read: the next one, "else after the r-th with 7"
unfoldable pub next_probe : Probe → Searched
next_probe probe =
    cond (ltb probe.next probe.reach) (Going (Probing (record { reach = probe.reach; next = probe.next + 1 })))
    (Answered None)

-- "the point's slot"
unfoldable pub holds_point : ℕ → ℕ → Bool
holds_point point word = eqb (point_of word) point

-- part 3, a position read: "ending on the point's slot with its value"
unfoldable pub probe_advance : ℕ → Probe → ℕ → Searched
probe_advance point probe word =
    cond (holds_point point word) (Answered (Some (record { index = probe.next; value = value_of word }))) (next_probe probe)

-- part 3
unfoldable pub search_advance : ℕ → ℕ → Search → ℕ → Searched
search_advance reach point Unread word = first_probe reach
search_advance reach point (Probing probe) word = probe_advance point probe word
