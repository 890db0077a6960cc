-- Document 01, "Steps": a put. Where it compares an index with the reach, "the record's own reach at that step is meant".
use Rattle.record.specs.declared.Place.{Place}
use Rattle.std.specs.Prelude.{ℕ, ◌+◌, Bool, cond, ltb, eqb, Option, Some, None}
use Rattle.hash.specs.Position.{position_of}
use Rattle.record.specs.declared.Put.{Put}
use Rattle.record.specs.declared.PutStage.{PutStage}
use Rattle.record.specs.declared.PutStage.TheVariants.{Searching, Scanning, Found as PutStage-as-Found, Chosen}
use Rattle.record.specs.declared.WriterWork.TheVariants.{Putting}
use Rattle.search.specs.declared.access.ReadAccess.TheVariants.{Slot}
use Rattle.search.specs.declared.Searched.{Searched}
use Rattle.search.specs.declared.Searched.TheVariants.{Going, Answered}
use Rattle.answers.specs.Answers.{placed, ended_with, continues}
use Rattle.slot_words.specs.Word.{word_of}
use Rattle.search.specs.Search.{search_access, search_advance}
use Rattle.effects.specs.declared.memory.WriterAccess.{WriterAccess}
use Rattle.effects.specs.declared.memory.WriterAccess.TheVariants.{Read, StoreReach}
use Rattle.effects.specs.declared.update.Update.TheVariants.{Nothing, Reach, Counted}
use Rattle.effects.specs.Memory.{store_word}
use Rattle.effects.specs.Effects.{WriterEffect, going_on, ends}

-- "If i exceeds the reach"
unfoldable pub exceeds : ℕ → ℕ → Bool
exceeds reach index = ltb reach index

-- part 1, by the stage: search; read positions 1 to k; "store the new word there"; "store the reach as i *first*, then store the slot"
unfoldable pub put_stage_access : ℕ → ℕ → Put → PutStage → WriterAccess
put_stage_access m reach put (Searching search) = Read (search_access m put.point search)
put_stage_access m reach put (Scanning index) = Read (Slot (position_of m put.point index))
put_stage_access m reach put (PutStage-as-Found place) = store_word m put.point place.index (word_of put.point put.value)
put_stage_access m reach put (Chosen index) =
    cond (exceeds reach index) (StoreReach index) (store_word m put.point index (word_of put.point put.value))

-- part 1: the access that comes next
unfoldable pub put_access : ℕ → ℕ → Put → WriterAccess
put_access m reach put = put_stage_access m reach put put.stage

-- the put goes on at this stage
unfoldable pub put_at : Put → PutStage → WriterEffect
put_at put stage = going_on (Putting (record { point = put.point; value = put.value; stage = stage; steps = put.steps }))

-- "If found, store the new word there. If not, read positions 1 to k"
unfoldable pub put_answered : Put → Option Place → WriterEffect
put_answered put (Some place) = put_at put (PutStage-as-Found place)
put_answered put None = put_at put (Scanning 1)

-- "search as a lookup does"
unfoldable pub put_searched : Put → Searched → WriterEffect
put_searched put (Going search) = put_at put (Searching search)
put_searched put (Answered answer) = put_answered put answer

-- "up to the first empty one, index i"; "No empty position: 6"
unfoldable pub put_scanned : ℕ → Put → ℕ → ℕ → WriterEffect
put_scanned k put index word =
    cond (eqb word 0) (put_at put (Chosen index))
    (cond (ltb index k) (put_at put (Scanning (index + 1))) (ends Nothing (ended_with 6)))

-- "If i exceeds the reach, store the reach as i *first*, then store the slot and count index i"
unfoldable pub put_takes : ℕ → ℕ → Put → ℕ → WriterEffect
put_takes reach slot put index =
    cond (exceeds reach index) (record { work = Putting put; update = Reach index; progress = continues })
    (ends (Counted index) (placed slot index))

-- part 3, by the stage; "a put the slot and index": the slot that the step has stored
unfoldable pub put_stage_advance : ℕ → ℕ → ℕ → Put → PutStage → ℕ → WriterEffect
put_stage_advance k reach slot put (Searching search) word = put_searched put (search_advance reach put.point search word)
put_stage_advance k reach slot put (Scanning index) word = put_scanned k put index word
put_stage_advance k reach slot put (PutStage-as-Found place) word = ends Nothing (placed slot place.index)
put_stage_advance k reach slot put (Chosen index) word = put_takes reach slot put index

-- part 3: what follows from the reach, from the word read, or from the slot stored
unfoldable pub put_advance : ℕ → ℕ → ℕ → Put → ℕ → WriterEffect
put_advance k reach slot put word = put_stage_advance k reach slot put put.stage word
