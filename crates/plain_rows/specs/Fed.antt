-- Document 01, "The plain list": what the entries, the count and the answer come to when the list is fed.
use Rattle.std.specs.Prelude.{ℕ, ◌≤◌, Bool, true, false, ◌≡◌, Option, Some, None, Result, leb, length}
use Rattle.conditions.specs.Conditions.{both}
use Rattle.refusal.specs.declared.Refusal.{Refusal}
use Rattle.answers.specs.declared.Completion.{Completion}
use Rattle.answers.specs.declared.Ending.{Ending as EndingEnum}
use Rattle.answers.specs.Answers.{Ending, completed, Answer, ended, refused, paper_ending, paper_answer, paper_whole}
use Rattle.plain_list.specs.PlainList.{Rows, Told, tells, Operation, nothing, put, change, removal, feed}
use Rattle.plain_rows.specs.declared.Operation.{Operation as OperationFed}
use Rattle.plain_rows.specs.declared.Operation.TheVariants.{Put, Change, Removal}
use Rattle.plain_rows.specs.Rows.{RowsHeld, rows_of, listed, held, SameFrom}

-- "the arguments of each put, change and removal": the code's enum, or none
abbrev pub operation_of : Option OperationFed → Operation
operation_of None = nothing
operation_of (Some (Put point value)) = put point value
operation_of (Some (Change point keep flip)) = change point keep flip
operation_of (Some (Removal point)) = removal point

-- what feeding the list comes to: the rows after it, and the answer
pub record Feeding : Type 0 where
  pub rows : Rows
  pub answer : Answer

-- the two
abbrev pub feeding : Rows → Answer → Feeding
feeding rows answer = record { rows = rows; answer = answer }

-- the list's answer: it takes no step
abbrev pub list_answer : Ending → Answer
list_answer ending = ended (completed ending 0)

-- what the list became and what it told
abbrev pub answered : Told → Feeding
answered told = feeding told.rows (list_answer told.answer)

-- what the list was told if there is room for it; else refusal 1, "slots lent ≠ m", with the rows as they were
unfoldable pub if_room : Bool → Rows → Told → Feeding
if_room true rows told = answered told
if_room false rows told = feeding rows (refused 1)

-- there is room if there are entries for the rows before and after
unfoldable pub in_room : RowsHeld → Told → Feeding
in_room list told =
    if_room (both (leb list.count (length list.rows)) (leb (length told.rows) (length list.rows))) (listed list) told

-- "It is fed the arguments of each put, change and removal that is started"
unfoldable pub fed_rows : ℕ → ℕ → Operation → RowsHeld → Feeding
fed_rows m k operation list = in_room list (feed m k operation (listed list))

-- the list after the call shows the rows, with the answer, and from the new count on the entries are as before
pub record Feeds (list list' : RowsHeld) (answer : Result Completion Refusal) (after : Feeding) : Type 0 where
  pub shown : feeding (listed list') (paper_whole answer) ≡ after
  pub stay : SameFrom list'.count list.rows list'.rows

-- what an operation comes to where the entries hold the rows before it, and has room for one more or not
pub record Puts (list list' : RowsHeld) (answer : Result EndingEnum Refusal) (told : Told) : Type 0 where
  pub within : list'.count ≤ length list.rows
  pub shown : feeding (rows_of (held list')) (paper_answer (λ (ending : EndingEnum). list_answer (paper_ending ending)) answer) ≡ if_room (leb (length told.rows) (length list.rows)) (rows_of (held list)) told
  pub stay : SameFrom list'.count list.rows list'.rows

-- what an operation comes to that adds no row
pub record Tells (list list' : RowsHeld) (ending : EndingEnum) (told : Told) : Type 0 where
  pub within : list'.count ≤ list.count
  pub shown : tells (rows_of (held list')) (paper_ending ending) ≡ told
  pub stay : SameFrom list'.count list.rows list'.rows
