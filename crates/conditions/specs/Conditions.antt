-- Conditions joined, and conditions on a number. Each name stays shut where a proof does not open it, so that a caller's proof takes a condition as one term.
use Rattle.std.specs.Prelude.{ℕ, Bool, ◌&&◌, ◌||◌, leb, ltb}

-- both hold
unfoldable pub both : Bool → Bool → Bool
both a b = a && b

-- one of them holds, or both do
unfoldable pub either : Bool → Bool → Bool
either a b = a || b

-- x is "low to high"
unfoldable pub within : ℕ → ℕ → ℕ → Bool
within low x high = both (leb low x) (leb x high)

-- x is outside low to high
unfoldable pub outside : ℕ → ℕ → ℕ → Bool
outside low x high = ltb x low || ltb high x
