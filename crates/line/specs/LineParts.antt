-- A line read out of a buffer, which may hold only a part of it.
use Rattle.std.specs.Prelude.{ℕ, zero, suc, ◌+◌, Bool, true, false, cond, not, ◌&&◌, List, [], ◌∷◌, eqb, length}
use Rattle.line.specs.declared.field.Field.TheVariants.{Empty}
use Rattle.line.specs.declared.part.Part.{Part}
use Rattle.line.specs.declared.run.Run.{Run}
use Rattle.line.specs.declared.state.Line.{Line}
use Rattle.line.specs.Grammar.{digit}
use Rattle.line.specs.LineState.{field_from, line_more}

-- the line goes on with these bytes, the first of them at this place: a byte 10 is its line end, any other goes to the line
unfoldable pub part_of : Line → ℕ → List ℕ → Part
part_of line place [] = record { line = line; whole = false; next = place }
part_of line place (byte ∷ bytes) =
    cond (eqb byte 10) (record { line = line; whole = true; next = place + 1 })
    (part_of (line_more line byte) (place + 1) bytes)

-- no byte is a line end
unfoldable pub no_line_end : List ℕ → Bool
no_line_end [] = true
no_line_end (byte ∷ bytes) = not (eqb byte 10) && no_line_end bytes

-- the digits with which these bytes begin, as many as there is room for
unfoldable pub leading_digits : ℕ → List ℕ → List ℕ
leading_digits zero bytes = []
leading_digits (suc room) [] = []
leading_digits (suc room) (byte ∷ bytes) = cond (digit byte) (byte ∷ leading_digits room bytes) []

-- an empty field with the first digits of these bytes, ten at most, and the place behind them
unfoldable pub run_of : ℕ → List ℕ → Run
run_of place bytes =
    record {
      field = field_from Empty (leading_digits 10 bytes);
      next = place + length (leading_digits 10 bytes);
    }
