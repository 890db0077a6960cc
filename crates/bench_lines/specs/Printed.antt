-- Document 01, "Bench program and values", and request N2: the printed lines, each as its bytes with the line end.
use Rattle.std.specs.Prelude.{ℕ, List, [], ◌∷◌, ◌++◌, codes}
use Rattle.answers.specs.Answers.{Ending, looked_up, placed, changed, removed, ended_with, Completion, Answer, started, underway, ended, walked, walked_last, served, given_again, gives, refused}
use Rattle.text_buffer.specs.Filling.{spaced}

-- the line end, LF
abbrev pub line_end : List ℕ
line_end = 10 ∷ []

-- ""!" and a number a refusal, in place of what follows the point"
unfoldable pub refusal_shown : ℕ → List ℕ
refusal_shown n = codes " !" ++ spaced n

-- what follows the point: "P shows point, slot, index"; "L point and value"; "R point and reach after"
unfoldable pub ending_shown : Ending → List ℕ
ending_shown (looked_up value) = spaced value
ending_shown (placed slot index) = spaced slot ++ spaced index
ending_shown (changed value) = spaced value
ending_shown (removed reach) = spaced reach
ending_shown (ended_with n) = refusal_shown n

-- "the bench prints it last on P, L and R lines": the number of steps
unfoldable pub completion_shown : Completion → List ℕ
completion_shown completion = ending_shown completion.ending ++ spaced completion.steps

-- what follows the point, by the answer, "a refused start's excepted"; an operation that is carried out whole has ended or was refused
unfoldable pub answer_shown : Answer → List ℕ
answer_shown started = []
answer_shown underway = []
answer_shown (ended completion) = completion_shown completion
answer_shown (walked word) = []
answer_shown (walked_last word) = []
answer_shown (served party answer) = []
answer_shown (given_again completion) = []
answer_shown (gives values) = []
answer_shown (refused n) = refusal_shown n

-- the line of an operation: its letter, the point, and what it came to
unfoldable pub operation_line : ℕ → ℕ → Answer → List ℕ
operation_line letter point answer = (letter ∷ []) ++ spaced point ++ answer_shown answer ++ line_end

-- "A line it cannot read prints "?", a space and the line's number"
unfoldable pub unreadable_line : ℕ → List ℕ
unreadable_line number = codes "?" ++ spaced number ++ line_end

-- "The first line shows m and k"
unfoldable pub panel_line : ℕ → ℕ → List ℕ
panel_line m k = codes "panel" ++ spaced m ++ spaced k ++ line_end

-- "A first line that is missing, unreadable or refused prints "panel ! 1""
unfoldable pub refused_panel_line : List ℕ
refused_panel_line = codes "panel ! 1" ++ line_end

-- "the last, at the end of input, the reach and the number of stored points"
unfoldable pub last_line : ℕ → ℕ → List ℕ
last_line reach points = codes "reach" ++ spaced reach ++ codes " points" ++ spaced points ++ line_end
