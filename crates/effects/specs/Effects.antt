-- What a step of the writer comes to besides its access: the work after it, what changes in the record besides, and whether the operation has ended.
use Rattle.std.specs.Prelude.{ℕ}
use Rattle.record.specs.declared.Record.{Record}
use Rattle.record.specs.declared.Station.{Station}
use Rattle.record.specs.declared.WriterWork.{WriterWork}
use Rattle.record.specs.declared.WriterWork.TheVariants.{Idle}
use Rattle.record.specs.Parts.{numbered_place, with_reach, with_station}
use Rattle.answers.specs.Answers.{Ending, Progress, continues, finishes, paper_progress}
use Rattle.effects.specs.declared.update.Effect.{Effect}
use Rattle.effects.specs.declared.update.Update.{Update}
use Rattle.effects.specs.declared.update.Update.TheVariants.{Nothing, Reach, Counted, Uncounted, Answered}
use Rattle.counting.specs.Counting.{one_more}
use Rattle.effects.specs.Counts.{one_less, counted, uncounted}

-- the three
pub record WriterEffect : Type 0 where
  pub work : WriterWork
  pub update : Update
  pub progress : Progress

-- the same of the code's effect
abbrev pub paper_effect : Effect → WriterEffect
paper_effect effect = record { work = effect.work; update = effect.update; progress = paper_progress effect.progress }

-- "Any other step says “underway”"
unfoldable pub going_on : WriterWork → WriterEffect
going_on work = record { work = work; update = Nothing; progress = continues }

-- "A step that ends an operation hands back its answer and leaves that party idle"
unfoldable pub ends : Update → Ending → WriterEffect
ends update ending = record { work = Idle; update = update; progress = finishes ending }

-- the record with what the step changes in it besides the writer's work
unfoldable pub updated : Record → Update → Record
updated panel Nothing = panel
updated panel (Reach reach) = with_reach panel reach
updated panel (Counted index) = counted panel index
updated panel (Uncounted index) = uncounted panel index
updated panel (Answered command) = with_station panel command.station command.last

-- the reach after it
abbrev pub reach_after : ℕ → Update → ℕ
reach_after reach Nothing = reach
reach_after reach (Reach new) = new
reach_after reach (Counted index) = reach
reach_after reach (Uncounted index) = reach
reach_after reach (Answered command) = reach

-- the place of the count that it changes; 0 where it changes none
unfoldable pub count_place : Update → ℕ
count_place Nothing = 0
count_place (Reach reach) = 0
count_place (Counted index) = numbered_place 64 index
count_place (Uncounted index) = numbered_place 64 index
count_place (Answered command) = 0

-- what the count at that place is after it
unfoldable pub count_after : ℕ → Update → ℕ → ℕ
count_after m Nothing count = count
count_after m (Reach reach) count = count
count_after m (Counted index) count = one_more m count
count_after m (Uncounted index) count = one_less count
count_after m (Answered command) count = count

-- what the last command of the station is after it whose command's change is underway
abbrev pub station_after : Update → Station → Station
station_after Nothing station = station
station_after (Reach reach) station = station
station_after (Counted index) station = station
station_after (Uncounted index) station = station
station_after (Answered command) station = command.last
