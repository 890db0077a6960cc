-- A step of the writer, where the table agrees with a plain list: it comes to one of the cases of `StepOK`, whatever the operation.
use Prim.Native.Nat.{ℕ}
use mathlib.Core.Bool.{true, false, false≢true}
use mathlib.Core.Path.{◌≡◌, refl, sym}
use mathlib.Core.List.{List}
use Rattle.record.specs.declared.Record.{Record}
use Rattle.record.specs.declared.WriterWork.{WriterWork}
use Rattle.record.specs.declared.WriterWork.TheVariants.{Idle, Putting, Changing, Removing}
use Rattle.work_ranges.specs.WorkRanges.{writer_in_range}
use Rattle.plain_list.specs.PlainList.{Rows, Operation, nothing, put, change, removal, feed}
use Rattle.plain_list.proofs.Agreement.{Agrees}
use Rattle.effects.specs.Memory.{slot_stored, access_read}
use Rattle.record.specs.Idle.{is_writer_idle}
use Rattle.effects.proofs.StepAgreement.{WorkOK, begun, StepOK}
use Rattle.put.proofs.PutAgreement.{put_agrees}
use Rattle.change.specs.Change.{masks_of}
use Rattle.change.proofs.ChangeAgreement.{change_agrees}
use Rattle.removal.proofs.RemovalAgreement.{removal_agrees}
use Rattle.writer.specs.Step.{work_access, writer_access, work_advance, writer_advance}

-- the operation that this work carries out
unfoldable pub operation_of : WriterWork → Operation
operation_of Idle = nothing
operation_of (Putting p) = put p.point p.value
operation_of (Changing c) = change c.point (masks_of c.alteration).keep (masks_of c.alteration).flip
operation_of (Removing r) = removal r.point

-- it stays the same while it goes on
pub operation_begun : (work : WriterWork) → operation_of (begun work) ≡ operation_of work
unfolding operation_of begun
operation_begun Idle = refl
operation_begun (Putting p) = refl
operation_begun (Changing c) = refl
operation_begun (Removing r) = refl

pub writer_agrees : (panel : Record) (slots : List ℕ) (rows : Rows) (work : WriterWork) → Agrees panel.m panel.k panel.reach panel.counts slots rows → writer_in_range panel.k work ≡ true → is_writer_idle work ≡ false → WorkOK panel.m panel.k panel.reach slots rows work → StepOK panel slots (writer_access panel work) (writer_advance panel work (slot_stored (writer_access panel work)) (access_read slots (writer_access panel work))) rows (feed panel.m panel.k (operation_of work) rows) work
unfolding work_access work_advance writer_in_range operation_of feed
writer_agrees panel slots rows Idle agrees fits busy ok = absurd (false≢true (sym busy))
writer_agrees panel slots rows (Putting p) agrees fits busy ok = put_agrees panel slots rows p agrees fits ok
writer_agrees panel slots rows (Changing c) agrees fits busy ok = change_agrees panel slots rows c agrees fits ok
writer_agrees panel slots rows (Removing r) agrees fits busy ok = removal_agrees panel slots rows r agrees fits ok
