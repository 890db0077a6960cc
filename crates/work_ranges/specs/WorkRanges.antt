-- Document 01, "What the panel holds", and request N2: the ranges of the work underway.
use Rattle.std.specs.Prelude.{ℕ, Bool, true, leb, ltb}
use Rattle.conditions.specs.Conditions.{both, within}
use Rattle.slot_words.specs.Points.{valid_point}
use Rattle.counting.specs.declared.steps.OperationKind.{OperationKind}
use Rattle.counting.specs.declared.steps.OperationKind.TheVariants.{Lookup as Kind-as-Lookup, Put as Kind-as-Put, Change as Kind-as-Change, Removal as Kind-as-Removal}
use Rattle.counting.specs.Steps.{step_bound}
use Rattle.record.specs.declared.Search.{Search}
use Rattle.record.specs.declared.Search.TheVariants.{Unread, Probing}
use Rattle.record.specs.declared.ReaderWork.{ReaderWork}
use Rattle.record.specs.declared.ReaderWork.TheVariants.{Idle as ReaderWork-as-Idle, LookingUp, Walking}
use Rattle.record.specs.declared.Lookup.{Lookup}
use Rattle.record.specs.declared.WriterWork.{WriterWork}
use Rattle.record.specs.declared.WriterWork.TheVariants.{Idle as WriterWork-as-Idle, Putting, Changing, Removing}
use Rattle.record.specs.declared.Put.{Put}
use Rattle.record.specs.declared.PutStage.{PutStage}
use Rattle.record.specs.declared.PutStage.TheVariants.{Searching as PutStage-as-Searching, Scanning, Found as PutStage-as-Found, Chosen}
use Rattle.record.specs.declared.Change.{Change}
use Rattle.record.specs.declared.Alteration.{Alteration}
use Rattle.record.specs.declared.Alteration.TheVariants.{Given, Commanded}
use Rattle.record.specs.declared.Command.{Command}
use Rattle.record.specs.declared.ChangeStage.{ChangeStage}
use Rattle.record.specs.declared.ChangeStage.TheVariants.{Searching as ChangeStage-as-Searching, Found as ChangeStage-as-Found}
use Rattle.record.specs.declared.Removal.{Removal}
use Rattle.record.specs.declared.RemovalStage.{RemovalStage}
use Rattle.record.specs.declared.RemovalStage.TheVariants.{Searching as RemovalStage-as-Searching, Found as RemovalStage-as-Found, Lowering}

-- "remembered reach 0 to k, next index 1 to that reach"; before the reach is read there is neither
unfoldable pub search_in_range : ℕ → Search → Bool
search_in_range k Unread = true
search_in_range k (Probing p) = both (leb p.reach k) (within 1 p.next p.reach)

-- "The count in work runs from 0 to the operation's step bound"
unfoldable pub steps_in_range : OperationKind → ℕ → ℕ → Bool
steps_in_range kind k steps = leb steps (step_bound kind k)

-- "point valid"
unfoldable pub lookup_in_range : ℕ → Lookup → Bool
lookup_in_range k lookup =
    both (valid_point lookup.point) (both (search_in_range k lookup.search) (steps_in_range Kind-as-Lookup k lookup.steps))

-- "next slot 0 to m − 1"
unfoldable pub work_in_range : ℕ → ℕ → ReaderWork → Bool
work_in_range m k ReaderWork-as-Idle = true
work_in_range m k (LookingUp lookup) = lookup_in_range k lookup
work_in_range m k (Walking walk) = ltb walk.next m

-- "(1 to k in a put's second search, and for a place already chosen)"
unfoldable pub put_stage_in_range : ℕ → PutStage → Bool
put_stage_in_range k (PutStage-as-Searching search) = search_in_range k search
put_stage_in_range k (Scanning next) = within 1 next k
put_stage_in_range k (PutStage-as-Found place) = within 1 place.index k
put_stage_in_range k (Chosen index) = within 1 index k

-- "point valid"; any value
unfoldable pub put_in_range : ℕ → Put → Bool
put_in_range k put = both (valid_point put.point) (both (put_stage_in_range k put.stage) (steps_in_range Kind-as-Put k put.steps))

-- "A command underway keeps the ranges of its frame": station 1 to 32, number 1 to 16777215, action not above 2
unfoldable pub command_in_range : Command → Bool
command_in_range command =
    both (within 1 command.station 32) (both (within 1 command.number 16777215) (leb command.action 2))

-- any keep and flip
unfoldable pub alteration_in_range : Alteration → Bool
alteration_in_range (Given masks) = true
alteration_in_range (Commanded command) = command_in_range command

-- "for a place already chosen"
unfoldable pub change_stage_in_range : ℕ → ChangeStage → Bool
change_stage_in_range k (ChangeStage-as-Searching search) = search_in_range k search
change_stage_in_range k (ChangeStage-as-Found place) = within 1 place.index k

-- "point valid"
unfoldable pub change_in_range : ℕ → Change → Bool
change_in_range k change =
    both (valid_point change.point)
    (both (alteration_in_range change.alteration) (both (change_stage_in_range k change.stage) (steps_in_range Kind-as-Change k change.steps)))

-- "for a place already chosen"
unfoldable pub removal_stage_in_range : ℕ → RemovalStage → Bool
removal_stage_in_range k (RemovalStage-as-Searching search) = search_in_range k search
removal_stage_in_range k (RemovalStage-as-Found place) = within 1 place.index k
removal_stage_in_range k Lowering = true

-- "point valid"
unfoldable pub removal_in_range : ℕ → Removal → Bool
removal_in_range k removal =
    both (valid_point removal.point) (both (removal_stage_in_range k removal.stage) (steps_in_range Kind-as-Removal k removal.steps))

-- "the writer's work"
unfoldable pub writer_in_range : ℕ → WriterWork → Bool
writer_in_range k WriterWork-as-Idle = true
writer_in_range k (Putting put) = put_in_range k put
writer_in_range k (Changing change) = change_in_range k change
writer_in_range k (Removing removal) = removal_in_range k removal
