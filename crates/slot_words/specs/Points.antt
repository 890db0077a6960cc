-- Document 01, "What the panel holds": which addresses are points, and which points are disabled.
use Rattle.std.specs.Prelude.{ℕ, ◌%◌, Bool, eqb}
use Rattle.conditions.specs.Conditions.{within}

-- "An address (“point”) is 1 to 2147483646"
unfoldable pub valid_point : ℕ → Bool
valid_point point = within 1 point 2147483646

-- "A point is *disabled* if bit 0 is set": by its value
unfoldable pub disabled : ℕ → Bool
disabled value = eqb (value % 2) 1
