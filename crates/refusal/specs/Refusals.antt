-- Document 01, "Refusal table": the number and the word of each row.
use Rattle.std.specs.Prelude.{ℕ, List, ◌++◌, decimal, codes, Result, Ok, Err, ⊤}
use Prim.Native.String.{String}
use Rattle.refusal.specs.declared.Refusal.{Refusal}
use Rattle.refusal.specs.declared.Refusal.TheVariants.{Misfit, Address, Reader, Engaged, Idle, NoPerch, Unknown, Length, Map, Station, Turn, Altered, Code, Short}

-- column "no."
abbrev pub number_of : Refusal → ℕ
number_of Misfit = 1
number_of Address = 2
number_of Reader = 3
number_of Engaged = 4
number_of Idle = 5
number_of NoPerch = 6
number_of Unknown = 7
number_of Length = 8
number_of Map = 9
number_of Station = 10
number_of Turn = 11
number_of Altered = 12
number_of Code = 13
number_of Short = 14

-- what a call's tests came to, as a chain of tests gives it: the refusal's number, or 0 for none
abbrev pub paper_judged : Result ⊤ Refusal → ℕ
paper_judged (Ok _) = 0
paper_judged (Err r) = number_of r

-- column "word"
abbrev pub word_of : Refusal → String
word_of Misfit = "misfit"
word_of Address = "address"
word_of Reader = "reader"
word_of Engaged = "engaged"
word_of Idle = "idle"
word_of NoPerch = "no perch"
word_of Unknown = "unknown"
word_of Length = "length"
word_of Map = "map"
word_of Station = "station"
word_of Turn = "turn"
word_of Altered = "altered"
word_of Code = "code"
word_of Short = "short"

-- a row as it is shown: its number in decimal digits, a space, its word
abbrev pub shown : Refusal → List ℕ
shown r = decimal (number_of r) ++ codes " " ++ codes (word_of r)
