-- Document 01, "What the panel holds": a slot's word.
use Rattle.std.specs.Prelude.{ℕ, ◌+◌, ◌*◌, ◌/◌, ◌%◌}

-- "its upper 32 bits are the point"
abbrev pub point_of : ℕ → ℕ
point_of word = word / 4294967296

-- "and its lower 32 the value"
abbrev pub value_of : ℕ → ℕ
value_of word = word % 4294967296

-- "its upper 32 bits are the point and its lower 32 the value": the word of the two
abbrev pub word_of : ℕ → ℕ → ℕ
word_of point value = point * 4294967296 + value
