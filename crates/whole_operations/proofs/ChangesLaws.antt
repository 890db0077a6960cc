-- Changes that change nothing leave the record as it is: there is no count, and the reach is the record's. And the answer and the numbers handed back
-- tell what a put or removal hands back, so that its contract decides all of it.
use Rattle.std.specs.Prelude.{Option, Some, None, is_some, Result, Ok, Err}
use Prim.Native.Nat.{ℕ}
use mathlib.Core.Bool.{Bool, true, false, not, false≢true}
use mathlib.Core.Path.{◌≡◌, refl, sym, ap, ◌∙◌}
use native.Mathlib.Omega.{arith}
use borrow.Author.Tests.{eqb-true}
use lib.Dec.{eqb}
use Rattle.conditions.specs.Conditions.{either}
use Rattle.refusal.specs.declared.Refusal.{Refusal}
use Rattle.refusal.specs.Refusals.{number_of}
use Rattle.refusal.proofs.Laws.{number_tells}
use Rattle.record.specs.declared.Record.{Record}
use Rattle.record.specs.Parts.{with_reach}
use Rattle.answers.specs.Answers.{paper_completion}
use Rattle.answers.proofs.AnswerLaws.{completion_tells}
use Rattle.whole_operations.specs.declared.changes.Changes.{Changes}
use Rattle.whole_operations.specs.declared.changes.Finished.{Finished}
use Rattle.whole_operations.specs.declared.changes.IndexCount.{IndexCount}
use Rattle.whole_operations.specs.Whole.{with_recount, leaves, changes_any, paper_written, changes_in}

either_none : (a b : Bool) → either a (not b) ≡ false → (a ≡ false) × (b ≡ true)
unfolding either
either_none true b e = absurd (false≢true (sym e))
either_none false true e = (refl, refl)
either_none false false e = absurd (false≢true (sym e))

none_left : (panel : Record) (count : Option IndexCount) → is_some count ≡ false → with_recount panel count ≡ panel
unfolding with_recount
none_left panel None e = refl
none_left panel (Some recount) e = absurd (false≢true (sym e))

pub no_changes : (panel : Record) (changes : Changes) → changes_any panel.reach changes ≡ false → leaves panel changes ≡ panel
unfolding leaves changes_any with_reach
no_changes panel changes e =
    let none = either_none (is_some changes.count) (eqb changes.reach panel.reach) e in
    none_left (with_reach panel changes.reach) changes.count none.0 ∙ ap (with_reach panel) (eqb-true changes.reach panel.reach none.1)

pub written_tells : (a b : Result Finished Refusal) → paper_written a ≡ paper_written b → changes_in a ≡ changes_in b → a ≡ b
written_tells (Err r) (Err s) e f = let same : number_of r ≡ number_of s = cc in ap Err (number_tells r s same)
written_tells (Err r) (Ok b) e f = let apart : ◌≡◌ {A = ℕ} 0 1 = cc in absurd (omega arith)
written_tells (Ok a) (Err s) e f = let apart : ◌≡◌ {A = ℕ} 0 1 = cc in absurd (omega arith)
written_tells (Ok a) (Ok b) e f =
    let same : paper_completion a.completion ≡ paper_completion b.completion = cc in
    (λ j. Ok (record { changes = f j; completion = completion_tells a.completion b.completion same j }))
