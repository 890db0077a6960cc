-- Document 01's sample lines, by computation.
use Rattle.std.specs.Prelude.{codes}
use Prim.Native.Nat.{ℕ}
use Prim.Native.String.{String}
use mathlib.Core.List.{List, [], ◌∷◌, ◌++◌, map}
use mathlib.Core.Path.{◌≡◌, refl}
use Rattle.answers.specs.Answers.{Ending, looked_up, placed, removed, ended_with, completed, Answer, ended, refused}
use Rattle.text_buffer.specs.Filling.{decimal_up_to, decimal_of, spaced}
use Rattle.bench_lines.specs.Printed.{line_end, refusal_shown, ending_shown, completion_shown, answer_shown, operation_line, unreadable_line, panel_line, refused_panel_line, last_line}

abbrev line : String → List ℕ
line text = codes text ++ line_end

-- an operation that has ended in as many steps
abbrev took : Ending → ℕ → Answer
took ending steps = ended (completed ending steps)

-- "it prints all of this", with the steps behind; that these are the answers of the sample run is a row of the marked values
pub sample_lines :
    (panel_line 8 4 ∷ operation_line 80 1 (took (placed 0 1) 4) ∷ operation_line 80 9 (took (placed 2 2) 6) ∷ operation_line 80 17 (took (placed 3 3) 8) ∷ operation_line 76 17 (took (looked_up 7) 4) ∷ operation_line 82 9 (took (removed 3) 4) ∷ operation_line 76 9 (took (ended_with 7) 4) ∷ last_line 3 2 ∷ [])
    ≡ map line ("panel 8 4" ∷ "P 1 0 1 4" ∷ "P 9 2 2 6" ∷ "P 17 3 3 8" ∷ "L 17 7 4" ∷ "R 9 3 4" ∷ "L 9 ! 7 4" ∷ "reach 3 points 2" ∷ [])
unfolding panel_line operation_line last_line answer_shown completion_shown ending_shown refusal_shown spaced decimal_of decimal_up_to
sample_lines = refl

-- a refused start, a line that cannot be read, a first line that is refused, and the largest value
pub other_lines :
    (operation_line 80 0 (refused 2) ∷ unreadable_line 10 ∷ refused_panel_line ∷ operation_line 76 2147483646 (took (looked_up 4294967295) 65) ∷ [])
    ≡ map line ("P 0 ! 2" ∷ "? 10" ∷ "panel ! 1" ∷ "L 2147483646 4294967295 65" ∷ [])
unfolding operation_line unreadable_line refused_panel_line answer_shown completion_shown ending_shown refusal_shown spaced decimal_of decimal_up_to
other_lines = refl
