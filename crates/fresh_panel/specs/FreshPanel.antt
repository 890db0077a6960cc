-- Document 01, "Refusal table": "Making a fresh record empties every slot; if refused (1), the slots stay and the record handed back is all zeros, everyone idle."
use Rattle.std.specs.Prelude.{ℕ, cond, List, [], length, replicate}
use Rattle.record.specs.Parts.{fresh_record}
use Rattle.record_ranges.specs.Ranges.{sizes_in_range}
use Rattle.answers.specs.Answers.{gives, refused, Outcome, outcome}

-- making a fresh record
unfoldable pub make_fresh : ℕ → ℕ → List ℕ → Outcome
make_fresh m k slots =
    cond (sizes_in_range m k (length slots)) (outcome (fresh_record m k) (replicate (length slots) 0) (gives []))
    (outcome (fresh_record 0 0) slots (refused 1))
