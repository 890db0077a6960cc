-- Document 01, "Frames": the map byte and the fields behind it. Fields are named by their bits, 0 to 5.
use Rattle.std.specs.Prelude.{ℕ, zero, suc, ◌+◌, ◌*◌, ◌/◌, ◌%◌, ◌^◌, Bool, false, cond, ◌||◌, List, [], ◌∷◌, ◌++◌, Result, Ok, Err, eqb, get_or}
use Rattle.refusal.specs.declared.Refusal.{Refusal}
use Rattle.refusal.specs.declared.Refusal.TheVariants.{Map}
use Rattle.frame.specs.declared.Kind.{Kind}
use Rattle.frame.specs.declared.Kind.TheVariants.{Query, Command, Value, CommandAnswer, QueryRefused, CommandRefused}

-- "bit 0 station (1 byte ..); bit 1 number (3 bytes ..); bit 2 point (4); bit 3 action (1); bit 4 value (4 ..); bit 5 refusal (1 byte ..)"
abbrev pub width : ℕ → ℕ
width i = get_or (1 ∷ 3 ∷ 4 ∷ 1 ∷ 4 ∷ 1 ∷ []) i 0

-- "the fields whose bit is set"
unfoldable pub has_bit : ℕ → ℕ → Bool
has_bit map i = eqb (map / 2 ^ i % 2) 1

-- "only the fields whose bit is set": the bytes that field i takes
abbrev pub size : ℕ → ℕ → ℕ
size map i = cond (has_bit map i) (width i) 0

-- "One map byte, then only the fields whose bit is set, in rising bit order": where field i begins
unfoldable pub start : ℕ → ℕ → ℕ
start map zero = 1
start map (suc i) = start map i + size map i

-- "Their frames have 5, 10, 9, 13, 6 and 10 bytes": a frame ends behind its last field
abbrev pub length_of : ℕ → ℕ
length_of map = start map 6

-- "big-endian", reading: the number in the w bytes from a place on
unfoldable pub big_endian : List ℕ → ℕ → ℕ → ℕ
big_endian s at zero = 0
big_endian s at (suc w) = big_endian s at w * 256 + get_or s (at + w) 0

-- "big-endian", writing: a number's last w bytes
unfoldable pub bytes_of : ℕ → ℕ → List ℕ
bytes_of zero x = []
bytes_of (suc w) x = bytes_of w (x / 256) ++ (x % 256 ∷ [])

-- "Six map bytes exist (hexadecimal): 04 query, 0F command, 14 value, 17 command answer, 24 query refused, 27 command refused"
abbrev pub map_of : Kind → ℕ
map_of Query = 0x04
map_of Command = 0x0F
map_of Value = 0x14
map_of CommandAnswer = 0x17
map_of QueryRefused = 0x24
map_of CommandRefused = 0x27

-- the six
abbrev pub kinds : List Kind
kinds = Query ∷ Command ∷ Value ∷ CommandAnswer ∷ QueryRefused ∷ CommandRefused ∷ []

-- the map byte of one of some kinds
abbrev pub is_map_of : ℕ → List Kind → Bool
is_map_of map [] = false
is_map_of map (kind ∷ others) = eqb map (map_of kind) || is_map_of map others

-- the map byte of one of the six
unfoldable pub allowed : ℕ → Bool
allowed map = is_map_of map kinds

-- the one of some kinds whose map byte this is, else "9"
abbrev pub kind_among : ℕ → List Kind → Result Kind Refusal
kind_among map [] = Err Map
kind_among map (kind ∷ others) = cond (eqb map (map_of kind)) (Ok kind) (kind_among map others)

-- the kind of a map byte
unfoldable pub kind_of : ℕ → Result Kind Refusal
kind_of map = kind_among map kinds
