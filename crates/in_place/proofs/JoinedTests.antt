-- A loop that joins the test of one element after another to what holds so far: in the end it is the test of all.
use Rattle.std.proofs.Common.{◌≡◌, ℕ, ◌+◌, ◌<◌, ◌≤◌, Bool, true, false, List, length, get_or, drop, drop_of_length-le, refl, ap, sym, ◌∙◌, arith}
use Rattle.std.proofs.lemmas.List.{drop_more}
use Rattle.conditions.specs.Conditions.{both}
use Rattle.conditions.proofs.ConditionLaws.{both_with}
use Rattle.std.specs.List.{list_all}

both_both : (a b c : Bool) → both (both a b) c ≡ both a (both b c)
unfolding both
both_both true b c = refl
both_both false b c = refl

pub true_both : (a : Bool) → both true a ≡ a
unfolding both
true_both a = refl

module _ {A : Type 0} (test : A → Bool) (list : List A) where
  with_head : (i : ℕ) (none : A) → i < length list → both (test (get_or list i none)) (list_all test (drop (i + 1) list)) ≡ list_all test (drop i list)
  unfolding both
  with_head i none h = sym (ap (list_all test) (drop_more list i none h))

  -- with one element more
  joined_next : (fit : Bool) (i : ℕ) (none : A) → i < length list → both (both fit (test (get_or list i none))) (list_all test (drop (i + 1) list)) ≡ both fit (list_all test (drop i list))
  joined_next fit i none h = both_both fit (test (get_or list i none)) (list_all test (drop (i + 1) list)) ∙ ap (both fit) (with_head i none h)

  -- with two
  pub joined_twice :
      (fit one two : Bool) (i : ℕ) (none : A)
      → i + 1 < length list
      → one ≡ both fit (test (get_or list i none))
      → two ≡ both one (test (get_or list (i + 1) none))
      → both two (list_all test (drop (i + 1 + 1) list)) ≡ both fit (list_all test (drop i list))
  joined_twice fit one two i none h first second =
      ap (λ (b : Bool). both b (list_all test (drop (i + 1 + 1) list))) second
      ∙ joined_next one (i + 1) none h
      ∙ ap (λ (b : Bool). both b (list_all test (drop (i + 1) list))) first
      ∙ joined_next fit i none (omega arith)

  pub joined_done : (fit : Bool) (i : ℕ) → length list ≤ i → both fit (list_all test (drop i list)) ≡ fit
  joined_done fit i h = both_with fit (list_all test (drop i list)) (rw (drop_of_length-le list h))
