-- What a line of the bench program's input may be. A line is the list of its bytes, without the line end.
use Rattle.std.specs.Prelude.{Option, Some, None, ℕ, ◌+◌, ◌*◌, ◌-◌, Bool, true, false, cond, ◌&&◌, List, [], ◌∷◌, leb, eqb, length}
use Rattle.conditions.specs.Conditions.{within}
use Rattle.line.specs.declared.commands.CommandLine.{CommandLine}
use Rattle.line.specs.declared.sizes.Sizes.{Sizes}

-- a byte in front of the fields behind it, of which there is always one: a space (32) ends an empty field, any other byte begins the first
unfoldable pub before : ℕ → List (List ℕ) → List (List ℕ)
before byte [] = []
before byte (field ∷ later) = cond (eqb byte 32) ([] ∷ field ∷ later) ((byte ∷ field) ∷ later)

-- "one space between": every space ends a field and begins the next, so that a needless space leaves an empty field
unfoldable pub fields : List ℕ → List (List ℕ)
fields [] = [] ∷ []
fields (byte ∷ bytes) = before byte (fields bytes)

-- "in decimal": 0 to 9 are the bytes 48 to 57
unfoldable pub digit : ℕ → Bool
digit byte = within 48 byte 57

-- every byte is a digit
unfoldable pub all_digits : List ℕ → Bool
all_digits [] = true
all_digits (byte ∷ bytes) = digit byte && all_digits bytes

-- "in decimal": the number that more digits make of the digits before them
unfoldable pub decimal : ℕ → List ℕ → ℕ
decimal value [] = value
decimal value (byte ∷ bytes) = decimal (value * 10 + (byte - 48)) bytes

-- "a number has 1 to 10 digits, leading zeros allowed; one above 4294967295 is unreadable"
unfoldable pub is_number : List ℕ → Bool
is_number bytes = all_digits bytes && within 1 (length bytes) 10 && leb (decimal 0 bytes) 4294967295

-- the number that a field is
unfoldable pub read_number : List ℕ → Option ℕ
read_number bytes = cond (is_number bytes) (Some (decimal 0 bytes)) None

-- the field is one byte, this letter
unfoldable pub is_letter : ℕ → List ℕ → Bool
is_letter letter [] = false
is_letter letter (byte ∷ []) = eqb byte letter
is_letter letter (byte ∷ next ∷ bytes) = false

-- "m and k"
unfoldable pub sizes_line : Option ℕ → Option ℕ → Option Sizes
sizes_line (Some m) (Some k) = Some (record { m = m; k = k })
sizes_line (Some m) None = None
sizes_line None k = None

-- "P point value"
unfoldable pub put_line : Option ℕ → Option ℕ → Option CommandLine
put_line (Some point) (Some value) = Some (CommandLine.Put (record { point = point; value = value }))
put_line (Some point) None = None
put_line None value = None

-- "L point"
unfoldable pub lookup_line : Option ℕ → Option CommandLine
lookup_line (Some point) = Some (CommandLine.Lookup point)
lookup_line None = None

-- "R point"
unfoldable pub removal_line : Option ℕ → Option CommandLine
removal_line (Some point) = Some (CommandLine.Removal point)
removal_line None = None

-- "Line 1 is m and k": two fields, both numbers
unfoldable pub sizes_of_fields : List (List ℕ) → Option Sizes
sizes_of_fields [] = None
sizes_of_fields (m ∷ []) = None
sizes_of_fields (m ∷ k ∷ []) = sizes_line (read_number m) (read_number k)
sizes_of_fields (m ∷ k ∷ next ∷ later) = None

-- "then P point value, L point, R point": the letters L, R and P are the bytes 76, 82 and 80
unfoldable pub command_of_fields : List (List ℕ) → Option CommandLine
command_of_fields [] = None
command_of_fields (letter ∷ []) = None
command_of_fields (letter ∷ point ∷ []) =
    cond (is_letter 76 letter) (lookup_line (read_number point))
    (cond (is_letter 82 letter) (removal_line (read_number point)) None)
command_of_fields (letter ∷ point ∷ value ∷ []) =
    cond (is_letter 80 letter) (put_line (read_number point) (read_number value)) None
command_of_fields (letter ∷ point ∷ value ∷ next ∷ later) = None

-- line 1
unfoldable pub read_sizes : List ℕ → Option Sizes
read_sizes bytes = sizes_of_fields (fields bytes)

-- every other line
unfoldable pub read_command : List ℕ → Option CommandLine
read_command bytes = command_of_fields (fields bytes)
