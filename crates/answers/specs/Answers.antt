-- What calls hand back, in document 01's words, and which of these each call's result is.
use Rattle.std.specs.Prelude.{ℕ, zero, suc, Bool, true, false, Option, Some, None, Result, Ok, Err, ⊤, List, [], ◌∷◌}
use Rattle.refusal.specs.declared.Refusal.{Refusal}
use Rattle.refusal.specs.Refusals.{number_of}
use Rattle.record.specs.declared.Record.{Record}
use Rattle.answers.specs.declared.Ending.{Ending as EndingEnum}
use Rattle.answers.specs.declared.Ending.TheVariants.{LookedUp, Placed, Changed, Removed, NoPerch, Unknown}
use Rattle.answers.specs.declared.Completion.{Completion as CompletionStruct}
use Rattle.answers.specs.declared.StepResult.{StepResult}
use Rattle.answers.specs.declared.StepResult.TheVariants.{Underway, Ended, Walked, WalkedLast}
use Rattle.answers.specs.declared.Entered.{Entered}
use Rattle.answers.specs.declared.Entered.TheVariants.{Started as Entered-as-Started, GivenAgain as Entered-as-GivenAgain}
use Rattle.answers.specs.declared.Served.{Served}
use Rattle.answers.specs.declared.Given.{Given}
use Rattle.answers.specs.declared.Given.TheVariants.{Started as Given-as-Started, GivenAgain as Given-as-GivenAgain, Stepped as Given-as-Stepped, Served as Given-as-Served}

-- what ends a lookup, put, change or removal: "A step that ends an operation hands back its answer"
pub data Ending : Type 0 where
  -- "a lookup the value"
  looked_up : ℕ → Ending
  -- "a put the slot and index"
  placed : ℕ → ℕ → Ending
  -- "a change the new value"
  changed : ℕ → Ending
  -- "a removal the reach after"
  removed : ℕ → Ending
  -- "6 and 7 end their operation"
  ended_with : ℕ → Ending

-- request N2: each finished operation "now also gives the number of steps it took"
pub record Completion : Type 0 where
  pub ending : Ending
  pub steps : ℕ

-- the two together
abbrev pub completed : Ending → ℕ → Completion
completed ending steps = record { ending = ending; steps = steps }

-- an answer, the same type for every call
pub data Answer : Type 0 where
  -- the operation has been started
  started : Answer
  -- "Any other step says “underway”"
  underway : Answer
  -- the operation has ended with this
  ended : Completion → Answer
  -- "each walk step gives the word read"
  walked : ℕ → Answer
  -- "and the m-th also ends the walk"
  walked_last : ℕ → Answer
  -- a turn: "it hands back the party served, with 6 and 7 too, and what its step gave"
  served : ℕ → Answer → Answer
  -- "the stored answer is given again"
  given_again : Completion → Answer
  -- a call without steps: its values
  gives : List ℕ → Answer
  -- refused by that number, and nothing happened
  refused : ℕ → Answer

-- what a put, change or removal comes to in a step: it goes on, or it ends with this
pub data Progress : Type 0 where
  continues : Progress
  finishes : Ending → Progress

-- what the step then answers, the operation's steps counted with it
abbrev pub step_answer : ℕ → Progress → Answer
step_answer steps continues = underway
step_answer steps (finishes ending) = ended (completed ending steps)

-- what ends an operation
abbrev pub paper_ending : EndingEnum → Ending
paper_ending (LookedUp value) = looked_up value
paper_ending (Placed spot) = placed spot.slot spot.index
paper_ending (Changed value) = changed value
paper_ending (Removed reach) = removed reach
paper_ending NoPerch = ended_with 6
paper_ending Unknown = ended_with 7

-- a finished operation
abbrev pub paper_completion : CompletionStruct → Completion
paper_completion completion = completed (paper_ending completion.ending) completion.steps

-- what a put, change or removal comes to in a step: its ending, or none while it goes on
abbrev pub paper_progress : Option EndingEnum → Progress
paper_progress None = continues
paper_progress (Some ending) = finishes (paper_ending ending)

-- the answer of a call: what it gives, or "refused by that number"
abbrev pub paper_answer : {A : Type 0} → (A → Answer) → Result A Refusal → Answer
paper_answer paper (Ok given) = paper given
paper_answer paper (Err r) = refused (number_of r)

-- a step that is carried out
abbrev pub paper_result : StepResult → Answer
paper_result Underway = underway
paper_result (Ended completion) = ended (paper_completion completion)
paper_result (Walked word) = walked word
paper_result (WalkedLast word) = walked_last word

-- a step, a reader's or the writer's
abbrev pub paper_step : Result StepResult Refusal → Answer
paper_step = paper_answer paper_result

-- starting an operation
abbrev pub paper_start : Result ⊤ Refusal → Answer
paper_start = paper_answer (λ (_ : ⊤). started)

-- a station's stored answer: "with the new value or with 7"
unfoldable pub stored_answer : Option ℕ → Ending
stored_answer (Some value) = changed value
stored_answer None = ended_with 7

-- the command entry, where it is not refused
abbrev pub paper_entered : Entered → Answer
paper_entered Entered-as-Started = started
paper_entered (Entered-as-GivenAgain answer steps) = given_again (completed (stored_answer answer) steps)

-- the command entry
abbrev pub paper_entry : Result Entered Refusal → Answer
paper_entry = paper_answer paper_entered

-- a turn that serves a party
abbrev pub paper_served : Served → Answer
paper_served turn = served turn.party (paper_result turn.result)

-- a turn
abbrev pub paper_turn : Result Served Refusal → Answer
paper_turn = paper_answer paper_served

-- any call of a list, where it is not refused
abbrev pub paper_given : Given → Answer
paper_given Given-as-Started = started
paper_given (Given-as-GivenAgain answer steps) = given_again (completed (stored_answer answer) steps)
paper_given (Given-as-Stepped result) = paper_result result
paper_given (Given-as-Served turn) = paper_served turn

-- any call of a list
abbrev pub paper_call : Result Given Refusal → Answer
paper_call = paper_answer paper_given

-- an operation that is carried out whole
abbrev pub paper_whole : Result CompletionStruct Refusal → Answer
paper_whole = paper_answer (λ (completion : CompletionStruct). ended (paper_completion completion))

-- making a fresh record
abbrev pub paper_fresh : Result ⊤ Refusal → Answer
paper_fresh = paper_answer (λ (_ : ⊤). gives [])

-- the disabled total
abbrev pub paper_total : Result ℕ Refusal → Answer
paper_total = paper_answer (λ (count : ℕ). gives (count ∷ []))

-- the one-line display
abbrev pub paper_display : Result ℕ Refusal → Answer
paper_display = paper_answer (λ (point : ℕ). gives (point ∷ []))

-- an operation has been started or goes on, so that a step of it comes next
abbrev pub is_underway : Answer → Bool
is_underway started = true
is_underway underway = true
is_underway (ended completion) = false
is_underway (walked word) = true
is_underway (walked_last word) = false
is_underway (served party answer) = is_underway answer
is_underway (given_again completion) = false
is_underway (gives values) = false
is_underway (refused n) = false

-- "A step that ends an operation hands back its answer"
abbrev pub has_ended : Answer → Bool
has_ended started = false
has_ended underway = false
has_ended (ended completion) = true
has_ended (walked word) = false
has_ended (walked_last word) = true
has_ended (served party answer) = has_ended answer
has_ended (given_again completion) = false
has_ended (gives values) = false
has_ended (refused n) = false

-- the call has started an operation
abbrev pub is_started : Answer → Bool
is_started started = true
is_started underway = false
is_started (ended completion) = false
is_started (walked word) = false
is_started (walked_last word) = false
is_started (served party answer) = is_started answer
is_started (given_again completion) = false
is_started (gives values) = false
is_started (refused n) = false

-- the call was refused, and nothing happened
abbrev pub is_refused : Answer → Bool
is_refused started = false
is_refused underway = false
is_refused (ended completion) = false
is_refused (walked word) = false
is_refused (walked_last word) = false
is_refused (served party answer) = is_refused answer
is_refused (given_again completion) = false
is_refused (gives values) = false
is_refused (refused n) = true

-- what a call leaves: the record, the slots and the answer
pub record Outcome : Type 0 where
  pub panel : Record
  pub slots : List ℕ
  pub answer : Answer

-- the three together
abbrev pub outcome : Record → List ℕ → Answer → Outcome
outcome panel slots answer = record { panel = panel; slots = slots; answer = answer }

-- "All leave slots, buffers and record untouched": a call that is refused with that number comes to what is left, with the refusal as its answer; where the number is 0, it is done
unfoldable pub unless_refused : {A : Type 0} → ℕ → (Answer → A) → A → A
unless_refused zero left done = done
unless_refused (suc n) left done = left (refused (suc n))
