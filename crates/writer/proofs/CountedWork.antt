-- Counting a step changes nothing of the writer's work but the count: the access that comes next, the steps that are left, the station, the operation and
-- what is known of the work stay.
use Prim.Native.Nat.{ℕ}
use mathlib.Core.Path.{◌≡◌, refl, ap}
use mathlib.Core.List.{List}
use Rattle.record.specs.declared.Put.{Put}
use Rattle.record.specs.declared.PutStage.{PutStage}
use Rattle.record.specs.declared.PutStage.TheVariants.{Searching as PutStage-as-Searching, Scanning, Found as PutStage-as-Found, Chosen}
use Rattle.record.specs.declared.Change.{Change}
use Rattle.record.specs.declared.ChangeStage.{ChangeStage}
use Rattle.record.specs.declared.ChangeStage.TheVariants.{Searching as ChangeStage-as-Searching, Found as ChangeStage-as-Found}
use Rattle.record.specs.declared.Removal.{Removal}
use Rattle.record.specs.declared.RemovalStage.{RemovalStage}
use Rattle.record.specs.declared.RemovalStage.TheVariants.{Searching as RemovalStage-as-Searching, Found as RemovalStage-as-Found, Lowering}
use Rattle.record.specs.declared.WriterWork.{WriterWork}
use Rattle.record.specs.declared.WriterWork.TheVariants.{Idle, Putting, Changing, Removing}
use Rattle.record.specs.Parts.{numbered_place}
use Rattle.counting.specs.Steps.{put_counted, change_counted, removal_counted, writer_counted}
use Rattle.plain_list.specs.PlainList.{Rows}
use Rattle.effects.proofs.EffectLaws.{writer_left}
use Rattle.effects.proofs.StepAgreement.{WorkOK, fed_by}
use Rattle.put.specs.Put.{put_stage_access, put_access}
use Rattle.change.specs.Change.{change_stage_access, change_access}
use Rattle.removal.specs.Removal.{removal_stage_access, removal_access}
use Rattle.writer.specs.Step.{work_access}
use Rattle.writer.specs.Work.{station_underway, station_at}
use Rattle.writer.proofs.WriterAgreement.{operation_of}

module _ (m k reach : ℕ) (counts : List ℕ) where
  put_access_lem : (put : Put) (stage : PutStage) → put_stage_access m reach (put_counted k put) stage ≡ put_stage_access m reach put stage
  unfolding put_stage_access put_counted
  put_access_lem put (PutStage-as-Searching search) = refl
  put_access_lem put (Scanning index) = refl
  put_access_lem put (PutStage-as-Found place) = refl
  put_access_lem put (Chosen index) = refl

  change_access_lem : (change : Change) (stage : ChangeStage) → change_stage_access m (change_counted k change) stage ≡ change_stage_access m change stage
  unfolding change_stage_access change_counted
  change_access_lem change (ChangeStage-as-Searching search) = refl
  change_access_lem change (ChangeStage-as-Found place) = refl

  removal_access_lem : (removal : Removal) (stage : RemovalStage) → removal_stage_access m k counts (removal_counted k removal) stage ≡ removal_stage_access m k counts removal stage
  unfolding removal_stage_access removal_counted
  removal_access_lem removal (RemovalStage-as-Searching search) = refl
  removal_access_lem removal (RemovalStage-as-Found place) = refl
  removal_access_lem removal Lowering = refl

  pub same_access : (work : WriterWork) → work_access m k reach counts (writer_counted k work) ≡ work_access m k reach counts work
  unfolding work_access put_access change_access removal_access writer_counted put_counted change_counted removal_counted
  same_access Idle = refl
  same_access (Putting put) = put_access_lem put put.stage
  same_access (Changing change) = change_access_lem change change.stage
  same_access (Removing removal) = removal_access_lem removal removal.stage

module _ (k : ℕ) where
  pub same_left : (reach : ℕ) (work : WriterWork) → writer_left k reach (writer_counted k work) ≡ writer_left k reach work
  unfolding writer_left writer_counted put_counted change_counted removal_counted
  same_left reach Idle = refl
  same_left reach (Putting put) = refl
  same_left reach (Changing change) = refl
  same_left reach (Removing removal) = refl

  same_station_underway : (work : WriterWork) → station_underway (writer_counted k work) ≡ station_underway work
  unfolding writer_counted change_counted
  same_station_underway Idle = refl
  same_station_underway (Putting put) = refl
  same_station_underway (Changing change) = refl
  same_station_underway (Removing removal) = refl

  pub same_station : (work : WriterWork) → station_at (writer_counted k work) ≡ station_at work
  unfolding station_at
  same_station work = ap (numbered_place 32) (same_station_underway work)

  pub same_operation : (work : WriterWork) → operation_of (writer_counted k work) ≡ operation_of work
  unfolding operation_of writer_counted put_counted change_counted removal_counted
  same_operation Idle = refl
  same_operation (Putting put) = refl
  same_operation (Changing change) = refl
  same_operation (Removing removal) = refl

  pub same_fed : (work : WriterWork) → fed_by (writer_counted k work) ≡ fed_by work
  unfolding writer_counted put_counted change_counted removal_counted
  same_fed Idle = refl
  same_fed (Putting put) = refl
  same_fed (Changing change) = refl
  same_fed (Removing removal) = refl

  pub same_known : (m reach : ℕ) (slots : List ℕ) (rows : Rows) (work : WriterWork) → WorkOK m k reach slots rows work → WorkOK m k reach slots rows (writer_counted k work)
  unfolding writer_counted put_counted change_counted removal_counted
  same_known m reach slots rows Idle ok = ok
  same_known m reach slots rows (Putting put) ok = ok
  same_known m reach slots rows (Changing change) ok = ok
  same_known m reach slots rows (Removing removal) ok = ok
