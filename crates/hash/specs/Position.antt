-- Document 01, "Where a point may sit".
use Rattle.std.specs.Prelude.{ℕ, zero, suc, ◌+◌, ◌-◌, ◌*◌, ◌%◌, Bool, cond, ◌&&◌, leb}

-- "p = 2147483647"; "z(j+1) = 16807 × z(j) mod p"
abbrev pub next_of : ℕ → ℕ
next_of value = (16807 * value) % 2147483647

-- "z(0) = 1 and z(j+1) = 16807 × z(j) mod p"
unfoldable pub z : ℕ → ℕ
z zero = 1
z (suc j) = next_of (z j)

-- a function of the Carter-Wegman kind: ((a q + b) mod p) mod m
abbrev pub carter_wegman : ℕ → ℕ → ℕ → ℕ → ℕ
carter_wegman a b q m = (a * q + b) % 2147483647 % m

-- there is a slot, and a function of this index
abbrev pub some_function : ℕ → ℕ → Bool
some_function m i = leb 1 m && leb 1 i && leb i 64

-- "position i of point q = ((z(2i−1) × q + z(2i)) mod p) mod m"; 0 where there is no slot or no such function
unfoldable pub position_of : ℕ → ℕ → ℕ → ℕ
position_of m q i = cond (some_function m i) (carter_wegman (z (2 * i - 1)) (z (2 * i)) q m) 0
