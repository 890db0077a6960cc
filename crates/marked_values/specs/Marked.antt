-- Document 01, "Bench program and values": the values marked for proof, the sample run, and with them the generator's first values, as one table.
-- proofs/MarkedValues.antt shows that the definitions give what document 01 says, in every row.
use Rattle.std.specs.Prelude.{ℕ, List, [], ◌∷◌, ◌++◌, ◌≡◌, replicate}
use Rattle.hash.specs.Position.{z, position_of}
use Rattle.slot_words.specs.Word.{word_of}
use Rattle.slot_words.specs.Taken.{taken_slots}
use Rattle.answers.specs.Answers.{Ending, looked_up, placed, removed, ended_with, completed, Answer, started, ended, refused, Outcome}
use Rattle.fresh_panel.specs.FreshPanel.{make_fresh}
use Rattle.whole_operations.specs.Whole.{whole_lookup, whole_put, whole_removal}
use Rattle.frame.specs.declared.Reading.{Reading}
use Rattle.frame.specs.Frames.{read_frame}
use Rattle.calls.specs.declared.Call.{Call}
use Rattle.calls.specs.declared.Call.TheVariants.{StartLookup, StartPut, StartChange, StartRemoval}
use Rattle.calls.specs.Calls.{applied}

-- a row of the table: what the definitions give, and what document 01 says
pub data MarkedRow : Type 0 where
  numbers : (given said : List ℕ) → MarkedRow
  answers : (given said : List Answer) → MarkedRow
  frame : (given said : Reading) → MarkedRow

-- the two are the same
abbrev pub Agrees : MarkedRow → Type 0
Agrees (numbers given said) = given ≡ said
Agrees (answers given said) = given ≡ said
Agrees (frame given said) = given ≡ said

-- a line of the bench program: "P point value, L point, R point"
pub data Line : Type 0 where
  P : (point value : ℕ) → Line
  L : (point : ℕ) → Line
  R : (point : ℕ) → Line

-- "runs each to its end": a line, from what the line before it left
unfoldable pub run_line : Outcome → Line → Outcome
run_line before (P point value) = whole_put before.panel before.slots point value
run_line before (L point) = whole_lookup before.panel before.slots 0 point
run_line before (R point) = whole_removal before.panel before.slots point

-- what a list of lines leaves
unfoldable pub run : Outcome → List Line → Outcome
run before [] = before
run before (line ∷ rest) = run (run_line before line) rest

-- what its lines answer
unfoldable pub answers_of : Outcome → List Line → List Answer
answers_of before [] = []
answers_of before (line ∷ rest) = (run_line before line).answer ∷ answers_of (run_line before line) rest

-- a fresh panel of m slots and k functions
unfoldable pub fresh : ℕ → ℕ → Outcome
fresh m k = make_fresh m k (replicate m 0)

-- at m = 8, "with k = 2 and only point 1 stored"
unfoldable pub only_point1 : Outcome
only_point1 = run (fresh 8 2) (P 1 5 ∷ [])

-- the sample run's lines behind the first, "8 4"
unfoldable pub sample : List Line
sample = P 1 5 ∷ P 9 6 ∷ P 17 7 ∷ L 17 ∷ R 9 ∷ L 9 ∷ []

-- what a call answers
unfoldable pub answer_to : Outcome → Call → Answer
answer_to before call = (applied before.panel before.slots call []).answer

-- what the four starts with this point answer, on a fresh panel
unfoldable pub starts_of : ℕ → List Answer
starts_of point =
    answer_to (fresh 8 4) (StartLookup 0 point)
    ∷ answer_to (fresh 8 4) (StartPut point 5)
    ∷ answer_to (fresh 8 4) (StartChange point 0 1)
    ∷ answer_to (fresh 8 4) (StartRemoval point)
    ∷ []

-- an operation that has ended in as many steps
abbrev pub took : Ending → ℕ → Answer
took ending steps = ended (completed ending steps)

-- the table
unfoldable pub marked_values : List MarkedRow
marked_values =
    -- "positions 1 of points 1, 9, 17 at m = 8 are all 0"
    numbers (position_of 8 1 1 ∷ position_of 8 9 1 ∷ position_of 8 17 1 ∷ []) (0 ∷ 0 ∷ 0 ∷ [])
    -- "positions 2 are 4, 2, 0"
    ∷ numbers (position_of 8 1 2 ∷ position_of 8 9 2 ∷ position_of 8 17 2 ∷ []) (4 ∷ 2 ∷ 0 ∷ [])
    -- "position 3 of 17 is 3"
    ∷ numbers (position_of 8 17 3 ∷ []) (3 ∷ [])
    -- "with k = 2 and only point 1 stored, a put of 17 gets 6"
    ∷ answers (answers_of only_point1 (P 17 7 ∷ [])) (took (ended_with 6) 4 ∷ [])
    -- "though seven slots are empty"
    ∷ numbers only_point1.slots (word_of 1 5 ∷ replicate 7 0)
    -- "m = 1 with one point stored: another point gets 6", here with k = 1
    ∷ answers (answers_of (fresh 1 1) (P 1 5 ∷ P 2 6 ∷ [])) (took (placed 0 1) 4 ∷ took (ended_with 6) 3 ∷ [])
    -- and with k = 64
    ∷ answers (answers_of (fresh 1 64) (P 1 5 ∷ P 2 6 ∷ [])) (took (placed 0 1) 4 ∷ took (ended_with 6) 66 ∷ [])
    -- "put of a stored point keeps its slot"
    ∷ answers (answers_of (fresh 8 4) (P 1 5 ∷ P 1 6 ∷ [])) (took (placed 0 1) 4 ∷ took (placed 0 1) 3 ∷ [])
    -- and holds the new value there
    ∷ numbers (run (fresh 8 4) (P 1 5 ∷ P 1 6 ∷ [])).slots (word_of 1 6 ∷ replicate 7 0)
    -- also where its position 1 has become empty
    ∷ answers (answers_of (fresh 8 4) (P 1 5 ∷ P 9 6 ∷ R 1 ∷ P 9 7 ∷ [])) (took (placed 0 1) 4 ∷ took (placed 2 2) 6 ∷ took (removed 2) 3 ∷ took (placed 2 2) 4 ∷ [])
    -- and is then stored once
    ∷ numbers (run (fresh 8 4) (P 1 5 ∷ P 9 6 ∷ R 1 ∷ P 9 7 ∷ [])).slots (0 ∷ 0 ∷ word_of 9 7 ∷ replicate 5 0)
    -- "points 0 and 2147483647 get 2"
    ∷ answers (starts_of 0 ++ starts_of 2147483647) (replicate 8 (refused 2))
    -- "2147483646 does not"
    ∷ answers (starts_of 2147483646) (replicate 4 started)
    -- "frame 0F 03 00 00 01 00 00 00 09 02 is station 3, number 1, point 9, toggle"; "2 toggle"
    ∷ frame (read_frame (0x0F ∷ 0x03 ∷ 0x00 ∷ 0x00 ∷ 0x01 ∷ 0x00 ∷ 0x00 ∷ 0x00 ∷ 0x09 ∷ 0x02 ∷ []))
    (record { refused = 0; map = 0x0F; fields = record { station = 3; number = 1; point = 9; action = 2; value = 0; refusal = 0 } })
    -- the sample run: what its lines print behind the point, with the steps of request N2
    ∷ answers (answers_of (fresh 8 4) sample) (took (placed 0 1) 4 ∷ took (placed 2 2) 6 ∷ took (placed 3 3) 8 ∷ took (looked_up 7) 4 ∷ took (removed 3) 4 ∷ took (ended_with 7) 4 ∷ [])
    -- "reach 3 points 2"
    ∷ numbers ((run (fresh 8 4) sample).panel.reach ∷ taken_slots (run (fresh 8 4) sample).slots ∷ []) (3 ∷ 2 ∷ [])
    -- the generator: "It begins 16807, 282475249, 1622650073, 984943658, 1144108930, 470211272"
    ∷ numbers (z 1 ∷ z 2 ∷ z 3 ∷ z 4 ∷ z 5 ∷ z 6 ∷ []) (16807 ∷ 282475249 ∷ 1622650073 ∷ 984943658 ∷ 1144108930 ∷ 470211272 ∷ [])
    ∷ []
