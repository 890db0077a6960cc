-- A refused call leaves record and slots; and the paper's answers tell the cases of the code's answers apart, so that the contracts decide these too.
use Prim.Native.Nat.{ℕ, zero, suc, ◌≤◌}
use mathlib.Core.Path.{◌≡◌, refl, ap, ◌∙◌}
use mathlib.Core.List.{[], ◌∷◌}
use mathlib.Mathlib.Logic.Function.Defs.{LeftInverse-Injective}
use mathlib.Core.Bool.{Bool, cond, false}
use native.Mathlib.Omega.{arith}
use lib.Dec.{eqb}
use lib.ListN.{get_or}
use Rattle.std.specs.Prelude.{Option, Some, None, Result, Ok, Err, ⊤}
use Rattle.refusal.specs.declared.Refusal.{Refusal}
use Rattle.refusal.specs.Refusals.{number_of}
use Rattle.refusal.proofs.Laws.{row_of, row_of_number, number_positive}
use Rattle.answers.specs.declared.Ending.{Ending as EndingEnum}
use Rattle.answers.specs.declared.Ending.TheVariants.{LookedUp, Placed, Changed, Removed, NoPerch, Unknown}
use Rattle.answers.specs.declared.Completion.{Completion as CompletionStruct}
use Rattle.answers.specs.declared.StepResult.{StepResult}
use Rattle.answers.specs.declared.StepResult.TheVariants.{Underway, Ended, Walked, WalkedLast}
use Rattle.answers.specs.declared.Entered.{Entered}
use Rattle.answers.specs.declared.Entered.TheVariants.{Started as Entered-as-Started, GivenAgain as Entered-as-GivenAgain}
use Rattle.answers.specs.declared.Served.{Served}
use Rattle.answers.specs.declared.Given.{Given}
use Rattle.answers.specs.declared.Given.TheVariants.{Started as Given-as-Started, GivenAgain as Given-as-GivenAgain, Stepped as Given-as-Stepped, Served as Given-as-Served}
use Rattle.answers.specs.Answers.{Ending, looked_up, placed, changed, removed, ended_with, Completion, Answer, started, underway, ended, walked, walked_last, served, given_again, gives, refused, Progress, continues, finishes, is_started, is_refused, unless_refused, stored_answer, paper_ending, paper_completion, paper_progress, paper_answer, paper_result, paper_entered, paper_served, paper_given, paper_step, paper_start, paper_entry, paper_turn, paper_call, paper_whole, paper_fresh, paper_total, paper_display}

module _ {A : Type 0} (left : Answer → A) (done : A) where
  by_number : (n : ℕ) → 1 ≤ n → unless_refused n left done ≡ left (refused n)
  unfolding unless_refused
  by_number zero h = absurd (omega arith)
  by_number (suc n) h = refl

  pub refused_call : (r : Refusal) → unless_refused (number_of r) left done ≡ left (refused (number_of r))
  refused_call r = by_number (number_of r) (number_positive r)

  pub allowed_call : unless_refused 0 left done ≡ done
  unfolding unless_refused
  allowed_call = refl

-- what holds of what a refused call leaves, and of the call done where it is not refused, holds of the call
pub unless : {A : Type 0} (P : A → Type 0) (n : ℕ) (left : Answer → A) (done : A) → ((answer : Answer) → P (left answer)) → (n ≡ 0 → P done) → P (unless_refused n left done)
unfolding unless_refused
unless P zero left done a b = b refl
unless P (suc n) left done a b = a _

-- a step that is carried out is no refusal and no start
pub result_not_refused : (result : StepResult) → is_refused (paper_result result) ≡ false
result_not_refused Underway = refl
result_not_refused (Ended completion) = refl
result_not_refused (Walked word) = refl
result_not_refused (WalkedLast word) = refl

pub result_not_started : (result : StepResult) → is_started (paper_result result) ≡ false
result_not_started Underway = refl
result_not_started (Ended completion) = refl
result_not_started (Walked word) = refl
result_not_started (WalkedLast word) = refl

-- the case of an enum from the paper's answer; an answer that the call never gives goes anywhere
as_ending : Ending → EndingEnum
as_ending (looked_up value) = LookedUp value
as_ending (placed slot index) = Placed (record { slot = slot; index = index })
as_ending (changed value) = Changed value
as_ending (removed reach) = Removed reach
as_ending (ended_with n) = cond (eqb n 6) NoPerch Unknown

as_completion : Completion → CompletionStruct
as_completion completion = record { ending = as_ending completion.ending; steps = completion.steps }

as_progress : Progress → Option EndingEnum
as_progress continues = None
as_progress (finishes ending) = Some (as_ending ending)

as_stored : Ending → Option ℕ
as_stored (looked_up value) = None
as_stored (placed slot index) = None
as_stored (changed value) = Some value
as_stored (removed reach) = None
as_stored (ended_with n) = None

as_result : Answer → StepResult
as_result started = Underway
as_result underway = Underway
as_result (ended completion) = Ended (as_completion completion)
as_result (walked word) = Walked word
as_result (walked_last word) = WalkedLast word
as_result (served party answer) = Underway
as_result (given_again completion) = Underway
as_result (gives values) = Underway
as_result (refused n) = Underway

as_given : Answer → Given
as_given started = Given-as-Started
as_given underway = Given-as-Stepped Underway
as_given (ended completion) = Given-as-Stepped (Ended (as_completion completion))
as_given (walked word) = Given-as-Stepped (Walked word)
as_given (walked_last word) = Given-as-Stepped (WalkedLast word)
as_given (served party answer) = Given-as-Served (record { party = party; result = as_result answer })
as_given (given_again completion) = Given-as-GivenAgain (as_stored completion.ending) completion.steps
as_given (gives values) = Given-as-Started
as_given (refused n) = Given-as-Started

-- what the calls of one kind give, from what all calls give
of_served : Given → Served
of_served Given-as-Started = record { party = 0; result = Underway }
of_served (Given-as-GivenAgain answer steps) = record { party = 0; result = Underway }
of_served (Given-as-Stepped result) = record { party = 0; result = Underway }
of_served (Given-as-Served turn) = turn

of_entered : Given → Entered
of_entered Given-as-Started = Entered-as-Started
of_entered (Given-as-GivenAgain answer steps) = Entered-as-GivenAgain answer steps
of_entered (Given-as-Stepped result) = Entered-as-Started
of_entered (Given-as-Served turn) = Entered-as-Started

no_completion : CompletionStruct
no_completion = record { ending = Unknown; steps = 0 }

of_result : StepResult → CompletionStruct
of_result Underway = no_completion
of_result (Ended completion) = completion
of_result (Walked word) = no_completion
of_result (WalkedLast word) = no_completion

-- the number of a refusal, and the first of the values, of the calls without steps
refusal : Answer → Refusal
refusal started = row_of 0
refusal underway = row_of 0
refusal (ended completion) = row_of 0
refusal (walked word) = row_of 0
refusal (walked_last word) = row_of 0
refusal (served party answer) = row_of 0
refusal (given_again completion) = row_of 0
refusal (gives values) = row_of 0
refusal (refused n) = row_of n

value : Answer → ℕ
value started = 0
value underway = 0
value (ended completion) = 0
value (walked word) = 0
value (walked_last word) = 0
value (served party answer) = 0
value (given_again completion) = 0
value (gives some) = get_or some 0 0
value (refused n) = 0

ending_back : (a : EndingEnum) → as_ending (paper_ending a) ≡ a
unfolding as_ending
ending_back (LookedUp value) = refl
ending_back (Placed spot) = refl
ending_back (Changed value) = refl
ending_back (Removed reach) = refl
ending_back NoPerch = refl
ending_back Unknown = refl

completion_back : (a : CompletionStruct) → as_completion (paper_completion a) ≡ a
unfolding as_completion
completion_back a = ap (λ (ending : EndingEnum). record { ending = ending; steps = a.steps }) (ending_back a.ending)

stored_back : (a : Option ℕ) → as_stored (stored_answer a) ≡ a
unfolding as_stored stored_answer
stored_back (Some value) = refl
stored_back None = refl

result_back : (a : StepResult) → as_result (paper_result a) ≡ a
unfolding as_result
result_back Underway = refl
result_back (Ended completion) = ap Ended (completion_back completion)
result_back (Walked word) = refl
result_back (WalkedLast word) = refl

served_back : (a : Served) → as_given (paper_served a) ≡ Given-as-Served a
unfolding as_given
served_back a = ap (λ (result : StepResult). Given-as-Served (record { party = a.party; result = result })) (result_back a.result)

stepped_back : (a : StepResult) → as_given (paper_result a) ≡ Given-as-Stepped a
unfolding as_given
stepped_back Underway = refl
stepped_back (Ended completion) = ap (λ (c : CompletionStruct). Given-as-Stepped (Ended c)) (completion_back completion)
stepped_back (Walked word) = refl
stepped_back (WalkedLast word) = refl

given_back : (a : Given) → as_given (paper_given a) ≡ a
unfolding as_given
given_back Given-as-Started = refl
given_back (Given-as-GivenAgain answer steps) = ap (λ (stored : Option ℕ). Given-as-GivenAgain stored steps) (stored_back answer)
given_back (Given-as-Stepped result) = stepped_back result
given_back (Given-as-Served turn) = served_back turn

given_not_refused : (a : Given) → is_refused (paper_given a) ≡ false
given_not_refused Given-as-Started = refl
given_not_refused (Given-as-GivenAgain answer steps) = refl
given_not_refused (Given-as-Stepped result) = result_not_refused result
given_not_refused (Given-as-Served turn) = result_not_refused turn.result

-- a call's answer tells what it gave, or its refusal, where what it gives can be told from the paper's answer
module _ {A : Type 0} (paper : A → Answer) (case_of : Answer → A) (back : (a : A) → case_of (paper a) ≡ a) (not_refused : (a : A) → is_refused (paper a) ≡ false) where
  as_answer : Answer → Result A Refusal
  as_answer answer = cond (is_refused answer) (Err (refusal answer)) (Ok (case_of answer))

  answer_back : (a : Result A Refusal) → as_answer (paper_answer paper a) ≡ a
  unfolding as_answer refusal
  answer_back (Ok given) = ap (λ (r : Bool). cond r (Err (refusal (paper given))) (Ok (case_of (paper given)))) (not_refused given) ∙ ap Ok (back given)
  answer_back (Err r) = ap Err (row_of_number r)

  pub answer_tells : (a b : Result A Refusal) → paper_answer paper a ≡ paper_answer paper b → a ≡ b
  answer_tells = LeftInverse-Injective as_answer (paper_answer paper) answer_back

pub ending_tells : (a b : EndingEnum) → paper_ending a ≡ paper_ending b → a ≡ b
ending_tells = LeftInverse-Injective as_ending paper_ending ending_back

pub completion_tells : (a b : CompletionStruct) → paper_completion a ≡ paper_completion b → a ≡ b
completion_tells = LeftInverse-Injective as_completion paper_completion completion_back

pub progress_tells : (a b : Option EndingEnum) → paper_progress a ≡ paper_progress b → a ≡ b
unfolding as_progress
progress_tells = LeftInverse-Injective as_progress paper_progress back
  where
    back : (a : Option EndingEnum) → as_progress (paper_progress a) ≡ a
    back None = refl
    back (Some ending) = ap Some (ending_back ending)

pub call_tells : (a b : Result Given Refusal) → paper_call a ≡ paper_call b → a ≡ b
call_tells = answer_tells paper_given as_given given_back given_not_refused

pub step_tells : (a b : Result StepResult Refusal) → paper_step a ≡ paper_step b → a ≡ b
step_tells = answer_tells paper_result as_result result_back result_not_refused

pub turn_tells : (a b : Result Served Refusal) → paper_turn a ≡ paper_turn b → a ≡ b
unfolding of_served
turn_tells = answer_tells paper_served (λ (answer : Answer). of_served (as_given answer)) (λ (a : Served). ap of_served (served_back a)) (λ (a : Served). result_not_refused a.result)

pub entry_tells : (a b : Result Entered Refusal) → paper_entry a ≡ paper_entry b → a ≡ b
unfolding as_given of_entered
entry_tells = answer_tells paper_entered (λ (answer : Answer). of_entered (as_given answer)) back not_refused
  where
    back : (a : Entered) → of_entered (as_given (paper_entered a)) ≡ a
    back Entered-as-Started = refl
    back (Entered-as-GivenAgain answer steps) = ap (λ (stored : Option ℕ). Entered-as-GivenAgain stored steps) (stored_back answer)

    not_refused : (a : Entered) → is_refused (paper_entered a) ≡ false
    not_refused Entered-as-Started = refl
    not_refused (Entered-as-GivenAgain answer steps) = refl

pub start_tells : (a b : Result ⊤ Refusal) → paper_start a ≡ paper_start b → a ≡ b
start_tells = answer_tells (λ (_ : ⊤). started) (λ (_ : Answer). _) (λ (_ : ⊤). refl) (λ (_ : ⊤). refl)

pub whole_tells : (a b : Result CompletionStruct Refusal) → paper_whole a ≡ paper_whole b → a ≡ b
unfolding as_result of_result
whole_tells = answer_tells (λ (completion : CompletionStruct). ended (paper_completion completion)) (λ (answer : Answer). of_result (as_result answer)) completion_back (λ (_ : CompletionStruct). refl)

pub fresh_tells : (a b : Result ⊤ Refusal) → paper_fresh a ≡ paper_fresh b → a ≡ b
fresh_tells = answer_tells (λ (_ : ⊤). gives []) (λ (_ : Answer). _) (λ (_ : ⊤). refl) (λ (_ : ⊤). refl)

pub total_tells : (a b : Result ℕ Refusal) → paper_total a ≡ paper_total b → a ≡ b
unfolding value
total_tells = answer_tells (λ (count : ℕ). gives (count ∷ [])) value (λ (_ : ℕ). refl) (λ (_ : ℕ). refl)

pub display_tells : (a b : Result ℕ Refusal) → paper_display a ≡ paper_display b → a ≡ b
display_tells = total_tells
