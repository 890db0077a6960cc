-- Laws of `position_of` that proofs cite in place of its text: what it is inside its range, and that a position is a slot's number.
use Prim.Native.Nat.{ℕ, ◌+◌, ◌-◌, ◌*◌, ◌%◌, ◌≤◌, ◌<◌}
use mathlib.Core.Path.{◌≡◌}
use mathlib.Core.Bool.{Bool, true, false, cond}
use native.Mathlib.Nat.{mod-lt}
use borrow.Author.Tests.{le-leb}
use Rattle.hash.specs.Position.{z, carter_wegman, position_of, some_function}

pub position_inside : (m q i : ℕ) → 1 ≤ m → 1 ≤ i → i ≤ 64 → position_of m q i ≡ carter_wegman (z (2 * i - 1)) (z (2 * i)) q m
unfolding position_of
position_inside m q i hm hi hk = rw (le-leb 1 m hm, le-leb 1 i hi, le-leb i 64 hk)

-- a position is the number of a slot
pub position_below : (m q i : ℕ) → 1 ≤ m → position_of m q i < m
unfolding position_of
position_below m q i h = go (some_function m i)
  where
    go : (b : Bool) → cond b (carter_wegman (z (2 * i - 1)) (z (2 * i)) q m) 0 < m
    go true = mod-lt ((z (2 * i - 1) * q + z (2 * i)) % 2147483647) {m = m} h
    go false = h
