-- Document 01, "Steps": a removal. Where it compares an index with the reach, "the record's own reach at that step is meant".
use Rattle.record.specs.declared.Place.{Place}
use Rattle.std.specs.Prelude.{ℕ, Bool, cond, List, eqb, Option, Some, None}
use Rattle.conditions.specs.Conditions.{both}
use Rattle.record.specs.declared.Removal.{Removal}
use Rattle.record.specs.declared.RemovalStage.{RemovalStage}
use Rattle.record.specs.declared.RemovalStage.TheVariants.{Searching, Found as RemovalStage-as-Found, Lowering}
use Rattle.record.specs.declared.WriterWork.TheVariants.{Removing}
use Rattle.record.specs.Parts.{count_in}
use Rattle.search.specs.declared.Searched.{Searched}
use Rattle.search.specs.declared.Searched.TheVariants.{Going, Answered}
use Rattle.answers.specs.Answers.{removed, ended_with, continues}
use Rattle.search.specs.Search.{search_access, search_advance}
use Rattle.effects.specs.declared.memory.WriterAccess.{WriterAccess}
use Rattle.effects.specs.declared.memory.WriterAccess.TheVariants.{Read, StoreReach}
use Rattle.effects.specs.declared.update.Update.{Update}
use Rattle.effects.specs.declared.update.Update.TheVariants.{Nothing, Reach, Uncounted}
use Rattle.effects.specs.Counts.{one_less, largest_counted}
use Rattle.effects.specs.Memory.{store_word}
use Rattle.effects.specs.Effects.{WriterEffect, ends}

-- part 1, by the stage: search; "found, store 0"; "one more step stores the reach as the largest index still counted, or 0"
unfoldable pub removal_stage_access : ℕ → ℕ → List ℕ → Removal → RemovalStage → WriterAccess
removal_stage_access m k counts removal (Searching search) = Read (search_access m removal.point search)
removal_stage_access m k counts removal (RemovalStage-as-Found place) = store_word m removal.point place.index 0
removal_stage_access m k counts removal Lowering = StoreReach (largest_counted k counts)

-- part 1: the access that comes next
unfoldable pub removal_access : ℕ → ℕ → List ℕ → Removal → WriterAccess
removal_access m k counts removal = removal_stage_access m k counts removal removal.stage

-- the removal goes on at this stage
unfoldable pub removal_at : Removal → RemovalStage → Update → WriterEffect
removal_at removal stage update =
    record { work = Removing (record { point = removal.point; stage = stage; steps = removal.steps }); update = update; progress = continues }

-- "found, store 0"; "Else 7"
unfoldable pub removal_answered : Removal → Option Place → WriterEffect
removal_answered removal (Some place) = removal_at removal (RemovalStage-as-Found place) Nothing
removal_answered removal None = ends Nothing (ended_with 7)

-- "search"
unfoldable pub removal_searched : Removal → Searched → WriterEffect
removal_searched removal (Going search) = removal_at removal (Searching search) Nothing
removal_searched removal (Answered answer) = removal_answered removal answer

-- "If that count is now 0 and i is the reach"
unfoldable pub is_last : ℕ → List ℕ → ℕ → Bool
is_last reach counts index = both (eqb (one_less (count_in counts index)) 0) (eqb index reach)

-- the slot is emptied: "uncount its index i. If that count is now 0 and i is the reach, one more step"; "a removal the reach after"
unfoldable pub removal_empties : ℕ → List ℕ → Removal → ℕ → WriterEffect
removal_empties reach counts removal index =
    cond (is_last reach counts index) (removal_at removal Lowering (Uncounted index)) (ends (Uncounted index) (removed reach))

-- "stores the reach as the largest index still counted, or 0"; "a removal the reach after"
unfoldable pub removal_lowers : ℕ → List ℕ → WriterEffect
removal_lowers k counts = ends (Reach (largest_counted k counts)) (removed (largest_counted k counts))

-- part 3, by the stage
unfoldable pub removal_stage_advance : ℕ → ℕ → List ℕ → Removal → RemovalStage → ℕ → WriterEffect
removal_stage_advance k reach counts removal (Searching search) word =
    removal_searched removal (search_advance reach removal.point search word)
removal_stage_advance k reach counts removal (RemovalStage-as-Found place) word =
    removal_empties reach counts removal place.index
removal_stage_advance k reach counts removal Lowering word = removal_lowers k counts

-- part 3: what follows from the reach, or from the word read or stored
unfoldable pub removal_advance : ℕ → ℕ → List ℕ → Removal → ℕ → WriterEffect
removal_advance k reach counts removal word = removal_stage_advance k reach counts removal removal.stage word
