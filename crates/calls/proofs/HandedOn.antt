-- What an outcome of any call comes to, by the outcome of the call's kind.
use Prim.Native.Nat.{ℕ}
use mathlib.Core.List.{List}
use mathlib.Core.Path.{◌≡◌, ◌∙◌}
use Rattle.record.specs.declared.Record.{Record}
use Rattle.answers.specs.Answers.{Answer, Outcome, outcome}

-- handed on as it is, it comes to what that one comes to
pub handed_on :
    {panel left : Record} {answer before : Answer} {slots : List ℕ} {due : Outcome}
    → ((lent : List ℕ) → outcome panel lent answer ≡ outcome left lent before)
    → outcome left slots before ≡ due
    → outcome panel slots answer ≡ due
handed_on same comes = same _ ∙ comes
