-- Work in range stays in range when a step of it is counted; a count of 0 is in range.
use Prim.Native.Nat.{ℕ, ◌≤◌}
use mathlib.Core.Path.{◌≡◌, refl}
use mathlib.Core.Bool.{Bool, true}
use borrow.Author.Tests.{le-leb}
use lib.Dec.{leb-zero}
use Rattle.conditions.specs.Conditions.{both}
use Rattle.conditions.proofs.ConditionLaws.{both_left, both_right, both_true}
use Rattle.slot_words.specs.Points.{valid_point}
use Rattle.record.specs.declared.ReaderWork.{ReaderWork}
use Rattle.record.specs.declared.ReaderWork.TheVariants.{Idle as ReaderWork-as-Idle, LookingUp, Walking}
use Rattle.record.specs.declared.WriterWork.{WriterWork}
use Rattle.record.specs.declared.WriterWork.TheVariants.{Idle as WriterWork-as-Idle, Putting, Changing, Removing}
use Rattle.counting.specs.declared.steps.OperationKind.{OperationKind}
use Rattle.counting.specs.declared.steps.OperationKind.TheVariants.{Lookup, Put, Change, Removal}
use Rattle.counting.specs.Steps.{step_bound, step_counted, lookup_counted, reader_counted, put_counted, change_counted, removal_counted, writer_counted}
use Rattle.counting.proofs.StepLaws.{counted_within}
use Rattle.work_ranges.specs.WorkRanges.{steps_in_range, lookup_in_range, work_in_range, put_in_range, change_in_range, removal_in_range, writer_in_range}

-- an operation that begins has made no step
pub none_made : (kind : OperationKind) (k : ℕ) → steps_in_range kind k 0 ≡ true
unfolding steps_in_range
none_made kind k = leb-zero (step_bound kind k)

counted : (kind : OperationKind) (k steps : ℕ) → k ≤ 64 → steps_in_range kind k (step_counted kind k steps) ≡ true
unfolding steps_in_range
counted kind k steps h = le-leb (step_counted kind k steps) (step_bound kind k) (counted_within kind k steps h)

-- the last of three tests replaced by one that holds
last_of_three : (a b c d : Bool) → d ≡ true → both a (both b c) ≡ true → both a (both b d) ≡ true
last_of_three a b c d e h = both_true a (both b d) (both_left a (both b c) h) (both_true b d (both_left b c (both_right a (both b c) h)) e)

pub reader_counted_fits : (m k : ℕ) (work : ReaderWork) → k ≤ 64 → work_in_range m k work ≡ true → work_in_range m k (reader_counted k work) ≡ true
unfolding work_in_range lookup_in_range reader_counted lookup_counted
reader_counted_fits m k ReaderWork-as-Idle h e = refl
reader_counted_fits m k (LookingUp lookup) h e = last_of_three _ _ _ _ (counted Lookup k lookup.steps h) e
reader_counted_fits m k (Walking walk) h e = e

pub writer_counted_fits : (k : ℕ) (work : WriterWork) → k ≤ 64 → writer_in_range k work ≡ true → writer_in_range k (writer_counted k work) ≡ true
unfolding writer_in_range put_in_range change_in_range removal_in_range writer_counted put_counted change_counted removal_counted
writer_counted_fits k WriterWork-as-Idle h e = refl
writer_counted_fits k (Putting put) h e = last_of_three _ _ _ _ (counted Put k put.steps h) e
writer_counted_fits k (Changing change) h e =
    both_true (valid_point change.point) _ (both_left (valid_point change.point) _ e)
    (last_of_three _ _ _ _ (counted Change k change.steps h) (both_right (valid_point change.point) _ e))
writer_counted_fits k (Removing removal) h e = last_of_three _ _ _ _ (counted Removal k removal.steps h) e
