-- Document 01, "Steps": a change; and "Commands": a command's change.
use Rattle.std.specs.Prelude.{ℕ, cond, eqb, Option, Some, None}
use Rattle.std.specs.Int.Bits.{bit_and, bit_xor}
use Rattle.record.specs.declared.Alteration.{Alteration}
use Rattle.record.specs.declared.Alteration.TheVariants.{Given, Commanded}
use Rattle.record.specs.declared.Change.{Change}
use Rattle.record.specs.declared.ChangeStage.{ChangeStage}
use Rattle.record.specs.declared.ChangeStage.TheVariants.{Searching, Found as ChangeStage-as-Found}
use Rattle.record.specs.declared.Masks.{Masks}
use Rattle.record.specs.declared.Place.{Place}
use Rattle.record.specs.declared.WriterWork.TheVariants.{Changing}
use Rattle.search.specs.declared.Searched.{Searched}
use Rattle.search.specs.declared.Searched.TheVariants.{Going, Answered as Searched-as-Answered}
use Rattle.answers.specs.Answers.{changed, ended_with}
use Rattle.slot_words.specs.Word.{word_of}
use Rattle.search.specs.Search.{search_access, search_advance}
use Rattle.effects.specs.declared.memory.WriterAccess.{WriterAccess}
use Rattle.effects.specs.declared.memory.WriterAccess.TheVariants.{Read}
use Rattle.effects.specs.declared.update.Update.{Update}
use Rattle.effects.specs.declared.update.Update.TheVariants.{Nothing, Answered as Update-as-Answered}
use Rattle.effects.specs.Memory.{store_word}
use Rattle.effects.specs.Effects.{WriterEffect, going_on, ends}

-- "0 enable (clear bit 0), 1 disable (set it), 2 toggle"
unfoldable pub action_masks : ℕ → Masks
action_masks action =
    cond (eqb action 0) (record { keep = 0xFFFF_FFFE; flip = 0 })
    (cond (eqb action 1) (record { keep = 0xFFFF_FFFE; flip = 1 }) (record { keep = 0xFFFF_FFFF; flip = 1 }))

-- a change's keep and flip, given or those of a command's action
unfoldable pub masks_of : Alteration → Masks
masks_of (Given masks) = masks
masks_of (Commanded command) = action_masks command.action

-- "(value AND keep) XOR flip"
unfoldable pub new_value : Alteration → ℕ → ℕ
new_value alteration value = bit_xor (bit_and value (masks_of alteration).keep) (masks_of alteration).flip

-- part 1, by the stage: search; "found, store (value AND keep) XOR flip"
unfoldable pub change_stage_access : ℕ → Change → ChangeStage → WriterAccess
change_stage_access m change (Searching search) = Read (search_access m change.point search)
change_stage_access m change (ChangeStage-as-Found place) =
    store_word m change.point place.index (word_of change.point (new_value change.alteration place.value))

-- part 1: the access that comes next
unfoldable pub change_access : ℕ → Change → WriterAccess
change_access m change = change_stage_access m change change.stage

-- "When it ends, with the new value or with 7, number, point, action and answer are stored in that same step"
unfoldable pub alteration_ends : Alteration → ℕ → Option ℕ → Update
alteration_ends (Given masks) point answer = Nothing
alteration_ends (Commanded command) point answer =
    Update-as-Answered
    (record {
      station = command.station;
      last = record { number = command.number; point = point; action = command.action; answer = answer };
    })

-- what the end of a change stores in the record
unfoldable pub command_ends : Change → Option ℕ → Update
command_ends change answer = alteration_ends change.alteration change.point answer

-- the station whose command the change is; 0 where it is no command's
abbrev pub commanding_station : Alteration → ℕ
commanding_station (Given masks) = 0
commanding_station (Commanded command) = command.station

-- the change goes on at this stage
unfoldable pub change_at : Change → ChangeStage → WriterEffect
change_at change stage =
    going_on (Changing (record { point = change.point; alteration = change.alteration; stage = stage; steps = change.steps }))

-- "found, store"; "else 7"
unfoldable pub change_answered : Change → Option Place → WriterEffect
change_answered change (Some place) = change_at change (ChangeStage-as-Found place)
change_answered change None = ends (command_ends change None) (ended_with 7)

-- "search"
unfoldable pub change_searched : Change → Searched → WriterEffect
change_searched change (Going search) = change_at change (Searching search)
change_searched change (Searched-as-Answered answer) = change_answered change answer

-- the new word is stored; "a change the new value"
unfoldable pub change_stores : Change → Place → WriterEffect
change_stores change place =
    ends (command_ends change (Some (new_value change.alteration place.value)))
    (changed (new_value change.alteration place.value))

-- part 3, by the stage
unfoldable pub change_stage_advance : ℕ → Change → ChangeStage → ℕ → WriterEffect
change_stage_advance reach change (Searching search) word = change_searched change (search_advance reach change.point search word)
change_stage_advance reach change (ChangeStage-as-Found place) word = change_stores change place

-- part 3: what follows from the reach, or from the word read or stored
unfoldable pub change_advance : ℕ → Change → ℕ → WriterEffect
change_advance reach change word = change_stage_advance reach change change.stage word
