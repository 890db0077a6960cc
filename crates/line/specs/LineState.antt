-- What the code keeps of a line and does with each byte; proofs/GrammarLaws.antt shows that it reads what Grammar says.
use Rattle.std.specs.Prelude.{Option, Some, None, ℕ, ◌+◌, ◌*◌, ◌-◌, Bool, false, cond, List, [], ◌∷◌, ltb, leb, eqb}
use Rattle.line.specs.declared.field.Field.{Field}
use Rattle.line.specs.declared.field.Field.TheVariants.{Empty, Letter, Digits, Other}
use Rattle.line.specs.declared.state.Fields.{Fields}
use Rattle.line.specs.declared.state.Fields.TheVariants.{Nothing, One, Two, TooMany}
use Rattle.line.specs.declared.state.Line.{Line}
use Rattle.line.specs.declared.commands.CommandLine.{CommandLine}
use Rattle.line.specs.declared.sizes.Sizes.{Sizes}
use Rattle.line.specs.Grammar.{digit, sizes_line, put_line, lookup_line, removal_line}

-- digits, as long as what they say fits 32 bits
unfoldable pub kept : ℕ → ℕ → Field
kept count value = cond (leb value 4294967295) (Digits (record { count = count; value = value })) Other

-- an empty field with so many digits more, which say this
unfoldable pub digits_field : ℕ → ℕ → Field
digits_field count value = cond (eqb count 0) Empty (kept count value)

-- digits with one byte more: an eleventh, or what is no digit, makes them no number
unfoldable pub digits_more : ℕ → ℕ → ℕ → Field
digits_more count value byte =
    cond (digit byte) (cond (ltb count 10) (kept (count + 1) (value * 10 + (byte - 48))) Other) Other

-- an empty field with one byte more
unfoldable pub first_byte : ℕ → Field
first_byte byte = cond (digit byte) (digits_more 0 0 byte) (Letter byte)

-- a field with one byte more
unfoldable pub field_more : Field → ℕ → Field
field_more Empty byte = first_byte byte
field_more (Letter letter) byte = Other
field_more (Digits digits) byte = digits_more digits.count digits.value byte
field_more Other byte = Other

-- a field with all these bytes more
unfoldable pub field_from : Field → List ℕ → Field
field_from field [] = field
field_from field (byte ∷ bytes) = field_from (field_more field byte) bytes

-- the number that the field is
unfoldable pub number_of : Field → Option ℕ
number_of Empty = None
number_of (Letter letter) = None
number_of (Digits digits) = Some digits.value
number_of Other = None

-- the field is this letter
unfoldable pub is_letter_field : ℕ → Field → Bool
is_letter_field letter Empty = false
is_letter_field letter (Letter byte) = eqb byte letter
is_letter_field letter (Digits digits) = false
is_letter_field letter Other = false

-- a line of which no byte has been given
unfoldable pub line_begin : Line
line_begin = record { ended = Nothing; last = Empty }

-- the ended fields with one more
unfoldable pub with_ended : Fields → Field → Fields
with_ended Nothing last = One last
with_ended (One first) last = Two first last
with_ended (Two first second) last = TooMany
with_ended TooMany last = TooMany

-- a space ends the last field and begins the next
unfoldable pub next_field : Line → Line
next_field line = record { ended = with_ended line.ended line.last; last = Empty }

-- any other byte goes on with the last field
unfoldable pub same_field : Line → ℕ → Line
same_field line byte = record { ended = line.ended; last = field_more line.last byte }

-- a line with one byte more
unfoldable pub line_more : Line → ℕ → Line
line_more line byte = cond (eqb byte 32) (next_field line) (same_field line byte)

-- a line with all these bytes more
unfoldable pub line_from : Line → List ℕ → Line
line_from line [] = line
line_from line (byte ∷ bytes) = line_from (line_more line byte) bytes

-- the line that was given these bytes
unfoldable pub line_after : List ℕ → Line
line_after bytes = line_from line_begin bytes

-- a line of two fields: a lookup or a removal
unfoldable pub point_command : Field → Field → Option CommandLine
point_command letter point =
    cond (is_letter_field 76 letter) (lookup_line (number_of point))
    (cond (is_letter_field 82 letter) (removal_line (number_of point)) None)

-- a line of three fields: a put
unfoldable pub put_command : Field → Field → Field → Option CommandLine
put_command letter point value =
    cond (is_letter_field 80 letter) (put_line (number_of point) (number_of value)) None

-- what a whole line asks for, by its ended fields and its last one
unfoldable pub command_with : Fields → Field → Option CommandLine
command_with Nothing last = None
command_with (One letter) last = point_command letter last
command_with (Two letter point) last = put_command letter point last
command_with TooMany last = None

-- what a whole line behind the first asks for
unfoldable pub command_of : Line → Option CommandLine
command_of line = command_with line.ended line.last

-- what a whole line says of the sizes, by its ended fields and its last one
unfoldable pub sizes_with : Fields → Field → Option Sizes
sizes_with Nothing last = None
sizes_with (One m) last = sizes_line (number_of m) (number_of last)
sizes_with (Two first second) last = None
sizes_with TooMany last = None

-- what the whole first line says
unfoldable pub sizes_of : Line → Option Sizes
sizes_of line = sizes_with line.ended line.last
