-- The changes that the loops of puts and removals make are those between the record before and the record with them made: the index is the one whose count
-- is another, if there is one.
use Rattle.std.specs.Prelude.{Option, Some, None}
use Prim.Native.Nat.{ℕ, zero, suc, ◌≤◌}
use mathlib.Core.Bool.{Bool, true, false, false≢true}
use mathlib.Core.List.{List}
use mathlib.Core.Logic.{◌≢◌}
use mathlib.Core.Path.{◌≡◌, refl, sym, ap, ◌∙◌}
use native.Mathlib.Omega.{arith}
use borrow.Author.Tests.{eqb-true, eqb-false, eq-eqb, ne_eqb, leb-true, leb-false}
use lib.Dec.{eqb, leb}
use lib.ListN.{length}
use lib.Seq.{set-get_or}
use Rattle.conditions.specs.Conditions.{within}
use Rattle.conditions.proofs.ConditionLaws.{within_low, within_high, is_within}
use Rattle.record.specs.declared.Record.{Record}
use Rattle.record.specs.Parts.{numbered, with_numbered, count_of, with_reach, with_counts, with_count}
use Rattle.record.proofs.Numbered.{replaced_past, replaced_same, replaced_other}
use Rattle.answers.specs.declared.Completion.{Completion}
use Rattle.answers.specs.Answers.{ended, paper_completion, Outcome, outcome}
use Rattle.whole_operations.specs.declared.changes.Changes.{Changes}
use Rattle.whole_operations.specs.declared.changes.IndexCount.{IndexCount}
use Rattle.whole_operations.specs.Whole.{recounted_up_to, recounted, changes_between, changes_of, with_recount, leaves}

module _ (before after : Record) where
  none_recounted : ((i : ℕ) → count_of before i ≡ count_of after i) → (n : ℕ) → recounted_up_to before after n ≡ None
  unfolding recounted_up_to
  none_recounted same zero = refl
  none_recounted same (suc i) = rw (eq-eqb _ _ (same (suc i))) (none_recounted same i)

  module _ (index : ℕ) (low : 1 ≤ index) (other : count_of before index ≢ count_of after index) (same : (i : ℕ) → i ≢ index → count_of before i ≡ count_of after i) where
    abbrev recount : ℕ → Option IndexCount
    recount i = Some (record { index = i; count = count_of after i })

    one_recounted : (n : ℕ) → index ≤ n → recounted_up_to before after n ≡ recount index
    unfolding recounted_up_to
    one_recounted zero h = absurd (omega arith)
    one_recounted (suc i) h = go (eqb (suc i) index) refl (λ (l : index ≤ i). one_recounted i l)
      where
        go : (b : Bool) → eqb (suc i) index ≡ b → (index ≤ i → recounted_up_to before after i ≡ recount index) → recounted_up_to before after (suc i) ≡ recount index
        go true e below =
            let here = eqb-true (suc i) index e in
            rw (ne_eqb (count_of before (suc i)) (count_of after (suc i)) (λ f. other (ap (count_of before) (sym here) ∙ f ∙ ap (count_of after) here))) (ap recount here)
        go false e below =
            let above = eqb-false (suc i) index e in rw (eq-eqb _ _ (same (suc i) above)) (below (omega arith))

-- no count is replaced by another: of no index, past the last one, or by itself
outside : (counts : List ℕ) (index count : ℕ) → length counts ≡ 64 → within 1 index 64 ≡ false → with_numbered counts index count ≡ counts
unfolding with_numbered
outside counts zero count all e = refl
outside counts (suc i) count all e = go (leb (suc i) 64) refl
  where
    go : (b : Bool) → leb (suc i) 64 ≡ b → with_numbered counts (suc i) count ≡ counts
    go true f = absurd (false≢true (sym e ∙ is_within 1 (suc i) 64 (omega arith) (leb-true (suc i) 64 f)))
    go false f = replaced_past counts (suc i) count (omega (arith, leb-false (suc i) 64 f))

itself : (counts : List ℕ) (index count : ℕ) → numbered counts index 0 ≡ count → with_numbered counts index count ≡ counts
unfolding numbered with_numbered
itself counts zero count e = refl
itself counts (suc i) count e = sym (ap (with_numbered counts (suc i)) e) ∙ set-get_or counts i 0

-- an operation that leaves these changes hands back those that are changes
pub record Made (panel : Record) (left made : Changes) : Type 0 where
  pub leaves_same : leaves panel made ≡ leaves panel left
  pub between : made ≡ changes_between panel (leaves panel left)

module _ (panel : Record) (reach : ℕ) where
  abbrev plain : Changes
  plain = record { reach = reach; count = None }

  pub none_counted : Made panel plain plain
  unfolding leaves with_recount changes_between recounted with_reach count_of
  none_counted =
      let after = with_reach panel reach in
      record {
        leaves_same = refl;
        between = ap (λ (n : Option IndexCount). record { reach = reach; count = n }) (sym (none_recounted panel after (λ i. refl) 64));
      }

  module _ (index count : ℕ) (all : length panel.counts ≡ 64) where
    abbrev counted : Changes
    counted = record { reach = reach; count = Some (record { index = index; count = count }) }

    uncounted : with_numbered panel.counts index count ≡ panel.counts → Made panel counted plain
    unfolding leaves with_recount with_reach with_count with_counts
    uncounted same =
        let kept = ap (with_counts (with_reach panel reach)) (sym same) in
        record { leaves_same = kept; between = none_counted.between ∙ ap (changes_between panel) kept }

    pub counts_one : within 1 index 64 ≡ true → count_of panel index ≢ count → Made panel counted counted
    unfolding leaves with_recount changes_between recounted with_reach with_count with_counts count_of
    counts_one inside other =
        let after = leaves panel counted in
        let low = within_low 1 index 64 inside in
        let high = within_high 1 index 64 inside in
        let now = replaced_same panel.counts index count 0 low (omega arith) in
        let found = one_recounted panel after index low (λ e. other (e ∙ now)) (λ i h. sym (replaced_other panel.counts index count 0 i h)) 64 high in
        record {
          leaves_same = refl;
          between =
              ap (λ (n : ℕ). record { reach = reach; count = Some (record { index = index; count = n }) }) (sym now)
              ∙ ap (λ (n : Option IndexCount). record { reach = reach; count = n }) (sym found);
        }

    pub past_the_counts : within 1 index 64 ≡ false → Made panel counted plain
    past_the_counts e = uncounted (outside panel.counts index count all e)

    pub counts_the_same : count_of panel index ≡ count → Made panel counted plain
    unfolding count_of
    counts_the_same e = uncounted (itself panel.counts index count e)

-- they leave the writer's work
pub leaves_writer : (panel : Record) (changes : Changes) → (leaves panel changes).writer.work ≡ panel.writer.work
unfolding leaves with_recount with_reach with_count with_counts
leaves_writer panel changes = go changes.count
  where
    go : (count : Option IndexCount) → (with_recount (with_reach panel changes.reach) count).writer.work ≡ panel.writer.work
    go None = refl
    go (Some recount) = refl

-- ---- what an operation hands back that has ended
pub hands_back : (panel : Record) (left made : Changes) (stored : List ℕ) (completion : Completion) (whole : Outcome) → (made ≡ changes_between panel (leaves panel left)) × (leaves panel made ≡ leaves panel left) → outcome (leaves panel left) stored (ended (paper_completion completion)) ≡ whole → (outcome (leaves panel made) stored (ended (paper_completion completion)) ≡ whole) × (made ≡ changes_of panel whole)
unfolding changes_of
hands_back panel left made stored completion whole since same =
    (ap (λ (r : Record). outcome r stored (ended (paper_completion completion))) since.1 ∙ same, since.0 ∙ ap (changes_of panel) same)

-- and of one that changes nothing
pub hands_back_plain : (panel : Record) (stored : List ℕ) (completion : Completion) (whole : Outcome) → outcome panel stored (ended (paper_completion completion)) ≡ whole → (outcome (leaves panel (record { reach = panel.reach; count = None })) stored (ended (paper_completion completion)) ≡ whole) × (record { reach = panel.reach; count = None } ≡ changes_of panel whole)
unfolding leaves with_recount with_reach
hands_back_plain panel stored completion whole same =
    let plainly = none_counted panel panel.reach in
    hands_back panel (plain panel panel.reach) (plain panel panel.reach) stored completion whole (plainly.between, plainly.leaves_same) same
