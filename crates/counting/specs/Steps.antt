-- Request N2: the steps that an operation has made, which its work counts.
use Rattle.std.specs.Prelude.{ℕ, ◌+◌, ◌*◌, min}
use Rattle.record.specs.declared.Lookup.{Lookup}
use Rattle.record.specs.declared.ReaderWork.{ReaderWork}
use Rattle.record.specs.declared.ReaderWork.TheVariants.{Idle as ReaderWork-as-Idle, LookingUp, Walking}
use Rattle.record.specs.declared.Put.{Put as PutWork}
use Rattle.record.specs.declared.Change.{Change as ChangeWork}
use Rattle.record.specs.declared.Removal.{Removal as RemovalWork}
use Rattle.record.specs.declared.WriterWork.{WriterWork}
use Rattle.record.specs.declared.WriterWork.TheVariants.{Idle as WriterWork-as-Idle, Putting, Changing, Removing}
use Rattle.counting.specs.declared.steps.OperationKind.{OperationKind}
use Rattle.counting.specs.declared.steps.OperationKind.TheVariants.{Lookup as Kind-as-Lookup, Put, Change, Removal}
use Rattle.counting.specs.Counting.{one_more}

-- the steps that an operation takes at most, with k functions: "no lookup takes more than k + 1 of its own steps"; a put "At most 2k + 2 steps"; a change "At most k + 2"; a removal "At most k + 3"
abbrev pub step_bound : OperationKind → ℕ → ℕ
step_bound Kind-as-Lookup k = k + 1
step_bound Put k = 2 * k + 2
step_bound Change k = k + 2
step_bound Removal k = k + 3

-- "The count in work runs from 0 to the operation's step bound": with one step more; at the bound it stays there. A k above 64, which no record in range has, is taken for 64
unfoldable pub step_counted : OperationKind → ℕ → ℕ → ℕ
step_counted kind k steps = one_more (step_bound kind (min k 64)) steps

-- a lookup with the step counted that it makes now
unfoldable pub lookup_counted : ℕ → Lookup → Lookup
lookup_counted k lookup = record { point = lookup.point; search = lookup.search; steps = step_counted Kind-as-Lookup k lookup.steps }

-- a reader's work with that step counted; a walk's are not
unfoldable pub reader_counted : ℕ → ReaderWork → ReaderWork
reader_counted k ReaderWork-as-Idle = ReaderWork-as-Idle
reader_counted k (LookingUp lookup) = LookingUp (lookup_counted k lookup)
reader_counted k (Walking walk) = Walking walk

-- a put with the step counted that it makes now
unfoldable pub put_counted : ℕ → PutWork → PutWork
put_counted k put =
    record { point = put.point; value = put.value; stage = put.stage; steps = step_counted Put k put.steps }

-- a change, likewise
unfoldable pub change_counted : ℕ → ChangeWork → ChangeWork
change_counted k change =
    record { point = change.point; alteration = change.alteration; stage = change.stage; steps = step_counted Change k change.steps }

-- a removal, likewise
unfoldable pub removal_counted : ℕ → RemovalWork → RemovalWork
removal_counted k removal = record { point = removal.point; stage = removal.stage; steps = step_counted Removal k removal.steps }

-- the writer's work with that step counted
unfoldable pub writer_counted : ℕ → WriterWork → WriterWork
writer_counted k WriterWork-as-Idle = WriterWork-as-Idle
writer_counted k (Putting put) = Putting (put_counted k put)
writer_counted k (Changing change) = Changing (change_counted k change)
writer_counted k (Removing removal) = Removing (removal_counted k removal)

-- the steps that the writer's operation has made; without work there are none
abbrev pub steps_made : WriterWork → ℕ
steps_made WriterWork-as-Idle = 0
steps_made (Putting put) = put.steps
steps_made (Changing change) = change.steps
steps_made (Removing removal) = removal.steps
