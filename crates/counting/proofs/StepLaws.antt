-- Laws of the steps counted: the count stays within the bound, and below the bound it grows by one. Counting a step leaves who is idle.
use Prim.Native.Nat.{ℕ, ◌+◌, ◌≤◌, ◌<◌}
use mathlib.Core.Path.{◌≡◌, refl}
use native.Mathlib.Omega.{arith}
use Rattle.record.specs.declared.ReaderWork.{ReaderWork}
use Rattle.record.specs.declared.ReaderWork.TheVariants.{Idle as ReaderWork-as-Idle, LookingUp, Walking}
use Rattle.record.specs.declared.WriterWork.{WriterWork}
use Rattle.record.specs.declared.WriterWork.TheVariants.{Idle as WriterWork-as-Idle, Putting, Changing, Removing}
use Rattle.record.specs.Idle.{is_reader_idle, is_writer_idle}
use Rattle.counting.specs.declared.steps.OperationKind.{OperationKind}
use Rattle.counting.specs.declared.steps.OperationKind.TheVariants.{Lookup, Put, Change, Removal}
use Rattle.counting.specs.Steps.{step_bound, step_counted, reader_counted, writer_counted}

-- "The count in work runs from 0 to the operation's step bound"
pub counted_within : (kind : OperationKind) (k steps : ℕ) → k ≤ 64 → step_counted kind k steps ≤ step_bound kind k
unfolding step_counted
counted_within Lookup k steps h = omega arith
counted_within Put k steps h = omega arith
counted_within Change k steps h = omega arith
counted_within Removal k steps h = omega arith

-- below the bound a step counts as one
pub counted_one : (kind : OperationKind) (k steps : ℕ) → k ≤ 64 → steps < step_bound kind k → step_counted kind k steps ≡ steps + 1
unfolding step_counted
counted_one Lookup k steps h below = omega arith
counted_one Put k steps h below = omega arith
counted_one Change k steps h below = omega arith
counted_one Removal k steps h below = omega arith

pub reader_counted_idle : (k : ℕ) (work : ReaderWork) → is_reader_idle (reader_counted k work) ≡ is_reader_idle work
unfolding reader_counted
reader_counted_idle k ReaderWork-as-Idle = refl
reader_counted_idle k (LookingUp lookup) = refl
reader_counted_idle k (Walking walk) = refl

pub writer_counted_idle : (k : ℕ) (work : WriterWork) → is_writer_idle (writer_counted k work) ≡ is_writer_idle work
unfolding writer_counted
writer_counted_idle k WriterWork-as-Idle = refl
writer_counted_idle k (Putting put) = refl
writer_counted_idle k (Changing change) = refl
writer_counted_idle k (Removing removal) = refl
