-- Document 01, "What the panel holds": which slots are taken.
use Rattle.std.specs.Prelude.{ℕ, List, not, eqb, length, filter}

-- "A slot of 0 is empty": how many are not
unfoldable pub taken_slots : List ℕ → ℕ
taken_slots slots = length (filter (λ word. not (eqb word 0)) slots)
