-- Document 01, "What the panel holds": the counts, "for each function index 1 to k, how many stored points use it (0 to m)".
use Rattle.std.specs.Prelude.{ℕ, zero, suc, ◌-◌, cond, List, eqb}
use Rattle.record.specs.declared.Record.{Record}
use Rattle.record.specs.Parts.{count_in, count_of, with_count}
use Rattle.counting.specs.Counting.{one_more}

-- a count with one point less; a count of 0 stays
abbrev pub one_less : ℕ → ℕ
one_less count = count - 1

-- "count index i"
unfoldable pub counted : Record → ℕ → Record
counted panel index = with_count panel index (one_more panel.m (count_of panel index))

-- "uncount its index i"
unfoldable pub uncounted : Record → ℕ → Record
uncounted panel index = with_count panel index (one_less (count_of panel index))

-- the largest index of 1 to n that is counted, or 0
unfoldable pub largest_up_to : List ℕ → ℕ → ℕ
largest_up_to counts zero = 0
largest_up_to counts (suc i) = cond (eqb (count_in counts (suc i)) 0) (largest_up_to counts i) (suc i)

-- "the largest index still counted, or 0", of 1 to k
unfoldable pub largest_counted : ℕ → List ℕ → ℕ
largest_counted k counts = largest_up_to counts k
