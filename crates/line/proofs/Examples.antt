-- Lines that are readable, and lines that are not: what Grammar says of each, by computation.
use Rattle.std.specs.Prelude.{Option, Some, None}
use Prim.Native.Nat.{ℕ}
use Prim.Native.Char.{code}
use Prim.Native.String.{String}
use mathlib.Core.Path.{◌≡◌, refl}
use mathlib.Core.List.{List, [], ◌∷◌, map}
use lib.ListN.{replicate}
use Rattle.conditions.specs.Conditions.{both, within}
use Rattle.line.specs.declared.commands.CommandLine.{CommandLine}
use Rattle.line.specs.declared.sizes.Sizes.{Sizes}
use Rattle.line.specs.Grammar.{before, fields, digit, all_digits, decimal, is_number, read_number, is_letter, sizes_line, put_line, lookup_line, removal_line, sizes_of_fields, command_of_fields, read_sizes, read_command}

-- a line's bytes, from its text in ASCII
abbrev bytes : String → List ℕ
bytes String.[] = []
bytes (String.◌∷◌ c text) = code c ∷ bytes text

abbrev sizes : ℕ → ℕ → Option Sizes
sizes m k = Some (record { m = m; k = k })

abbrev put : ℕ → ℕ → Option CommandLine
put point value = Some (CommandLine.Put (record { point = point; value = value }))

abbrev sizes_in : String → Option Sizes
sizes_in text = read_sizes (bytes text)

abbrev command_in : String → Option CommandLine
command_in text = read_command (bytes text)

pub sizes_read : map sizes_in ("8 4" ∷ "0 4294967295" ∷ []) ≡ sizes 8 4 ∷ sizes 0 4294967295 ∷ []
unfolding read_sizes sizes_of_fields sizes_line read_number is_number decimal all_digits digit fields before within both
sizes_read = refl

pub no_sizes_read : map sizes_in ("8" ∷ "8 4 1" ∷ "8  4" ∷ "8 " ∷ "P 1 5" ∷ "" ∷ []) ≡ replicate 6 None
unfolding read_sizes sizes_of_fields sizes_line read_number is_number decimal all_digits digit fields before within both
no_sizes_read = refl

pub commands_read : map command_in ("P 1 5" ∷ "P 007 8" ∷ "L 17" ∷ "L 0000000001" ∷ "R 9" ∷ []) ≡ put 1 5 ∷ put 7 8 ∷ Some (CommandLine.Lookup 17) ∷ Some (CommandLine.Lookup 1) ∷ Some (CommandLine.Removal 9) ∷ []
unfolding read_command command_of_fields put_line lookup_line removal_line is_letter read_number is_number decimal all_digits digit fields before within both
commands_read = refl

pub no_commands_read : map command_in ("P 4294967296 1" ∷ "L 12345678901" ∷ "P  1 5" ∷ " P 1 5" ∷ "P 1 5 " ∷ "p 1 5" ∷ "P 1" ∷ "P 1 5 2" ∷ "L 1 5" ∷ "L -1" ∷ "L 1\r" ∷ "L\t1" ∷ "L" ∷ "" ∷ []) ≡ replicate 14 None
unfolding read_command command_of_fields put_line lookup_line removal_line is_letter read_number is_number decimal all_digits digit fields before within both
no_commands_read = refl
