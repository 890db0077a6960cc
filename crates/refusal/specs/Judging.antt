-- How a call's refusal is chosen: its tests are judged in the order that document 01 states, and the first that holds gives the number.
-- Each name here stays shut where a proof does not open it, so that a caller's proof takes a test as one term.
use Rattle.std.specs.Prelude.{ℕ, zero, suc, Bool, true, false}

-- refusal n if the test holds, else what is judged after it; 0 at the end of a chain means: not refused
unfoldable pub refuse_if : Bool → ℕ → ℕ → ℕ
refuse_if true n later = n
refuse_if false n later = later

-- the refusal that a part of the tests gave, or what is judged after that part
unfoldable pub or_else : ℕ → ℕ → ℕ
or_else zero later = later
or_else (suc n) later = suc n
