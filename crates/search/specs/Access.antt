-- Part 2 of a step: the one access. "A step reads or stores exactly one slot, or reads or stores the reach".
use Rattle.std.specs.Prelude.{ℕ, List, get_or}
use Rattle.search.specs.declared.access.ReadAccess.{ReadAccess}
use Rattle.search.specs.declared.access.ReadAccess.TheVariants.{Nothing, Reach, Slot}

-- the word that an access reads; the reach stands in the record
unfoldable pub word_read : List ℕ → ReadAccess → ℕ
word_read slots Nothing = 0
word_read slots Reach = 0
word_read slots (Slot slot) = get_or slots slot 0
