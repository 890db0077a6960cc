-- A buffer of bytes, of which the first are in use, and text put behind those.
use Rattle.std.specs.Prelude.{ℕ, zero, suc, ◌+◌, ◌/◌, ◌%◌, cond, List, [], ◌∷◌, ◌++◌, Option, leb, ltb, length, set, take}
use Rattle.std.specs.Io.KnownBytes.{append_known}

-- how many bytes are in use, and all the bytes
pub record Filled : Type 0 where
  pub used : ℕ
  pub bytes : List ℕ

-- the two
abbrev pub filled_by : ℕ → List ℕ → Filled
filled_by used bytes = record { used = used; bytes = bytes }

-- a byte behind those in use; without room for it, the buffer as it is
unfoldable pub with_byte : Filled → ℕ → Filled
with_byte before byte =
    cond (ltb before.used (length before.bytes)) (filled_by (before.used + 1) (set before.bytes before.used byte)) before

-- one byte after another
unfoldable pub with_bytes : Filled → List ℕ → Filled
with_bytes before [] = before
with_bytes before (byte ∷ rest) = with_bytes (with_byte before byte) rest

-- a number's last decimal digits, "0" to "9" as 48 to 57, at most that many: the last one, behind those of the tenth part if there is one
unfoldable pub decimal_up_to : ℕ → ℕ → List ℕ
decimal_up_to zero n = []
decimal_up_to (suc more) n = cond (ltb n 10) [] (decimal_up_to more (n / 10)) ++ ((48 + n % 10) ∷ [])

-- a number of 64 bits in decimal: as few digits as hold it, and none has more than 20
unfoldable pub decimal_of : ℕ → List ℕ
decimal_of n = decimal_up_to 20 n

-- a space and a number
unfoldable pub spaced : ℕ → List ℕ
spaced n = 32 ∷ decimal_of n

-- how many bytes are in use once there is room for a line: as many as before, or none, where the buffer had to be written
unfoldable pub with_room : ℕ → ℕ → ℕ → ℕ
with_room used size line = cond (ltb (used + line) size) used 0

-- the bytes in use; none, where more are said to be in use than the buffer has
unfoldable pub in_use : ℕ → List ℕ → List ℕ
in_use used bytes = cond (leb used (length bytes)) (take used bytes) []

-- what is written where room is made for a line: the bytes in use, or nothing where there is room
unfoldable pub written_for_room : ℕ → List ℕ → ℕ → List ℕ
written_for_room used bytes line = cond (ltb (used + line) (length bytes)) [] (in_use used bytes)

-- all that was given to a writer behind a buffer: the bytes that the writer holds, where they are known, and those in use
abbrev pub given_so_far : Option (List ℕ) → ℕ → List ℕ → Option (List ℕ)
given_so_far held used bytes = append_known held (in_use used bytes)
