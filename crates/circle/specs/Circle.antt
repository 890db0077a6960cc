-- Request N1: the circle of the parties, "the writer and readers 0 to 15"; the writer is 0, "reader n is n + 1".
use Rattle.std.specs.Prelude.{ℕ, zero, suc, ◌+◌, Bool, cond, not, nat_lt}
use Rattle.record.specs.declared.Record.{Record}
use Rattle.record.specs.Parts.{work_of}
use Rattle.record.specs.Idle.{is_reader_idle, is_writer_idle}

-- stands for nobody where a party is asked for
abbrev pub nobody : ℕ
nobody = 17

-- "one past the party served, from 16 to 0"
unfoldable pub party_after : ℕ → ℕ
party_after party = cond (nat_lt party 16) (party + 1) 0

-- "served in a fixed circle, idle ones passed over": the first party with work, of so many that are tried from this one on
unfoldable pub first_at_work : (ℕ → Bool) → ℕ → ℕ → ℕ
first_at_work works zero party = nobody
first_at_work works (suc tries) party = cond (works party) party (first_at_work works tries (party_after party))

-- the party that a turn serves, by who has work: "seventeen parties"; "The place in the circle, the party tried first"
unfoldable pub party_due : (ℕ → Bool) → ℕ → ℕ
party_due works place = first_at_work works 17 place

-- the party has work underway
unfoldable pub is_at_work : Record → ℕ → Bool
is_at_work panel zero = not (is_writer_idle panel.writer.work)
is_at_work panel (suc reader) = not (is_reader_idle (work_of panel reader))

-- the party that a turn serves, or nobody
unfoldable pub party_served : Record → ℕ
party_served panel = party_due (is_at_work panel) panel.place
