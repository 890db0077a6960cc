-- Who has work, in one number: a binary digit for each reader, reader 15's the lowest, 1 for work. The code finds the party due by it.
use Rattle.std.specs.Prelude.{ℕ, zero, suc, ◌+◌, ◌-◌, ◌/◌, ◌%◌, ◌^◌, Bool, cond, not, List, fold, ◌==◌, nat_le, nat_lt}
use Rattle.conditions.specs.Conditions.{both}
use Rattle.record.specs.declared.Reader.{Reader}
use Rattle.record.specs.declared.WriterWork.{WriterWork}
use Rattle.record.specs.Idle.{is_reader_idle, is_writer_idle}
use Rattle.circle.specs.Circle.{party_after, party_due}

-- one more reader's digit behind the others, in a number of 32 bits
unfoldable pub marked_with : ℕ → Reader → ℕ
marked_with marks reader = (marks + marks + cond (is_reader_idle reader.work) 0 1) % 4294967296

-- the digits of these readers behind the others
unfoldable pub marked_behind : ℕ → List Reader → ℕ
marked_behind = fold marked_with

-- the writer's digit in front of those of sixteen readers
unfoldable pub all_marked : WriterWork → ℕ → ℕ
all_marked work marks = marks % 65536 + cond (is_writer_idle work) 0 65536

-- the party has work, by the writer's work and the readers' digits
unfoldable pub is_marked : WriterWork → ℕ → ℕ → Bool
is_marked work marks zero = not (is_writer_idle work)
is_marked work marks (suc reader) = both (nat_lt reader 16) (marks / 2 ^ (15 - reader) % 2 == 1)

-- the party due: 17 stands for nobody, 18 for a record that is not in range
unfoldable pub due_by : Bool → ℕ → WriterWork → ℕ → ℕ
due_by fits place work marks = cond (both fits (nat_le place 16)) (party_due (is_marked work marks) place) 18

-- the place after a turn that was due to this party; where it was due to nobody, the place as it was
unfoldable pub place_after : ℕ → ℕ → ℕ
place_after place due = cond (nat_lt due 17) (party_after due) place
