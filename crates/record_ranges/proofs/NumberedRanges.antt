-- What a test of all elements, or of the first k, says of an element counted from 1, and of the list with one replaced.
use Prim.Native.Nat.{ℕ, zero, suc, ◌≤◌}
use mathlib.Core.Path.{◌≡◌, refl, ap, sym, ◌∙◌}
use mathlib.Core.Bool.{Bool, true}
use mathlib.Core.List.{List, [], ◌∷◌}
use native.Mathlib.Omega.{arith}
use lib.ListN.{set, take}
use lib.Seq.{get_or-take}
use Rattle.record.specs.Parts.{numbered, with_numbered}
use Rattle.std.specs.List.{list_all}
use Rattle.record_ranges.proofs.All.{all_at, all_set}

take_set : {A : Type 0} (k : ℕ) (list : List A) (i : ℕ) (x : A) → take k (set list i x) ≡ set (take k list) i x
take_set zero list i x = refl
take_set (suc k) [] i x = refl
take_set (suc k) (y ∷ list) zero x = refl
take_set (suc k) (y ∷ list) (suc i) x = ap (λ (rest : List _). y ∷ rest) (take_set k list i x)

module _ {A : Type 0} (test : A → Bool) where
  pub all_replaced : (list : List A) (n : ℕ) (x : A) → list_all test list ≡ true → test x ≡ true → list_all test (with_numbered list n x) ≡ true
  unfolding with_numbered
  all_replaced list zero x h e = h
  all_replaced list (suc i) x h e = all_set test list i x h e

  pub all_first_replaced : (k : ℕ) (list : List A) (n : ℕ) (x : A) → list_all test (take k list) ≡ true → test x ≡ true → list_all test (take k (with_numbered list n x)) ≡ true
  unfolding with_numbered
  all_first_replaced k list zero x h e = h
  all_first_replaced k list (suc i) x h e = ap (list_all test) (take_set k list i x) ∙ all_set test (take k list) i x h e

  pub all_first_at : (k : ℕ) (list : List A) (n : ℕ) (none : A) → list_all test (take k list) ≡ true → test none ≡ true → n ≤ k → test (numbered list n none) ≡ true
  unfolding numbered
  all_first_at k list zero none h e below = e
  all_first_at k list (suc i) none h e below = sym (ap test (get_or-take k list i none (omega arith))) ∙ all_at test (take k list) i none h e
