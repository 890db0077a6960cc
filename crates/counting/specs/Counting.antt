-- Document 01, "What the panel holds": "On a record that no history leads to, a count that would leave its range stays at its end."
use Rattle.std.specs.Prelude.{ℕ, ◌+◌, min}

-- a count with one more, not above the most that it may be
abbrev pub one_more : ℕ → ℕ → ℕ
one_more most count = min (count + 1) most
