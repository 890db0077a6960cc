-- The state that the code keeps of a line reads what Grammar says, for every list of bytes.
-- The line's fields are shown to stand in the state one by one; each of them is read as its bytes are.
use Prim.Native.Nat.{ℕ, ◌≤◌}
use mathlib.Core.Path.{◌≡◌, refl, sym, ◌∙◌}
use mathlib.Core.Bool.{Bool, true, false, cond}
use mathlib.Core.List.{List, [], ◌∷◌}
use native.Mathlib.Omega.{arith}
use lib.Dec.{eqb}
use lib.ListN.{length}
use Rattle.conditions.specs.Conditions.{both, within}
use Rattle.line.specs.declared.field.Field.{Field}
use Rattle.line.specs.declared.field.Field.TheVariants.{Empty}
use Rattle.line.specs.declared.state.Fields.TheVariants.{TooMany}
use Rattle.line.specs.declared.state.Line.{Line}
use Rattle.line.specs.Grammar.{before, fields, digit, sizes_of_fields, command_of_fields, read_sizes, read_command}
use Rattle.line.specs.LineState.{field_from, line_begin, with_ended, next_field, same_field, line_more, line_from, line_after, point_command, put_command, command_with, command_of, sizes_with, sizes_of}
use Rattle.line.proofs.FieldLaws.{reads_number, reads_letter}

-- the line whose last field has all these bytes more
last_from : Line → List ℕ → Line
last_from line bytes = record { ended = line.ended; last = field_from line.last bytes }

-- the line behind which these fields follow, each after a space
behind : Line → List (List ℕ) → Line
behind line [] = line
behind line (field ∷ later) = behind (last_from (next_field line) field) later

-- the line that goes on with these fields, the first of them its last field's rest
joined : Line → List (List ℕ) → Line
joined line [] = line
joined line (field ∷ later) = behind (last_from line field) later

last_none : (line : Line) → last_from line [] ≡ line
unfolding last_from field_from
last_none line = refl

last_more : (line : Line) (byte : ℕ) (bytes : List ℕ) → last_from (same_field line byte) bytes ≡ last_from line (byte ∷ bytes)
unfolding last_from field_from same_field
last_more line byte bytes = refl

-- one byte in front of fields, of which there is at least one
joined_before : (line : Line) (byte : ℕ) (rest : List (List ℕ)) → 1 ≤ length rest → joined (line_more line byte) rest ≡ joined line (before byte rest)
unfolding joined behind before line_more
joined_before line byte [] h = absurd (omega arith)
joined_before line byte (field ∷ later) h = go (eqb byte 32)
  where
    go : (b : Bool) → behind (last_from (cond b (next_field line) (same_field line byte)) field) later ≡ joined line (cond b ([] ∷ field ∷ later) ((byte ∷ field) ∷ later))
    go true = rw (last_none line)
    go false = rw (last_more line byte field)

before_some : (byte : ℕ) (rest : List (List ℕ)) → 1 ≤ length rest → 1 ≤ length (before byte rest)
unfolding before
before_some byte [] h = h
before_some byte (field ∷ later) h = go (eqb byte 32)
  where
    go : (b : Bool) → 1 ≤ length (cond b ([] ∷ field ∷ later) ((byte ∷ field) ∷ later))
    go true = omega arith
    go false = omega arith

some_field : (bytes : List ℕ) → 1 ≤ length (fields bytes)
unfolding fields
some_field [] = omega arith
some_field (byte ∷ bytes) = before_some byte (fields bytes) (some_field bytes)

line_joined : (line : Line) (bytes : List ℕ) → line_from line bytes ≡ joined line (fields bytes)
unfolding line_from fields joined behind
line_joined line [] = sym (last_none line)
line_joined line (byte ∷ bytes) = line_joined (line_more line byte) bytes ∙ joined_before line byte (fields bytes) (some_field bytes)

too_many : (last : Field) (later : List (List ℕ)) → (behind (record { ended = TooMany; last = last }) later).ended ≡ TooMany
unfolding behind last_from next_field with_ended
too_many last [] = refl
too_many last (field ∷ later) = too_many (field_from Empty field) later

command_joined : (l : List (List ℕ)) → command_of (joined line_begin l) ≡ command_of_fields l
unfolding joined behind last_from next_field with_ended line_begin command_of command_with point_command put_command command_of_fields digit within both
command_joined [] = refl
command_joined (letter ∷ []) = refl
command_joined (letter ∷ point ∷ []) = rw (reads_letter 76 refl letter, reads_letter 82 refl letter, reads_number point)
command_joined (letter ∷ point ∷ value ∷ []) = rw (reads_letter 80 refl letter, reads_number point, reads_number value)
command_joined (letter ∷ point ∷ value ∷ next ∷ later) = rw (too_many _ later)

sizes_joined : (l : List (List ℕ)) → sizes_of (joined line_begin l) ≡ sizes_of_fields l
unfolding joined behind last_from next_field with_ended line_begin sizes_of sizes_with sizes_of_fields
sizes_joined [] = refl
sizes_joined (m ∷ []) = refl
sizes_joined (m ∷ k ∷ []) = rw (reads_number m, reads_number k)
sizes_joined (m ∷ k ∷ next ∷ []) = refl
sizes_joined (m ∷ k ∷ next ∷ last ∷ later) = rw (too_many _ later)

-- the code's answer for a line that was given byte by byte is what the line says
pub reads_command : (bytes : List ℕ) → command_of (line_after bytes) ≡ read_command bytes
unfolding line_after read_command
reads_command bytes = rw (line_joined line_begin bytes) (command_joined (fields bytes))

-- the same for line 1
pub reads_sizes : (bytes : List ℕ) → sizes_of (line_after bytes) ≡ read_sizes bytes
unfolding line_after read_sizes
reads_sizes bytes = rw (line_joined line_begin bytes) (sizes_joined (fields bytes))
