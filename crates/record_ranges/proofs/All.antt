-- Laws of a test of all elements: for one element, for an element replaced, for the first elements, and for one repeated.
use Prim.Native.Nat.{ℕ, zero, suc}
use mathlib.Core.Path.{◌≡◌, refl, ap, sym, ◌∙◌}
use mathlib.Core.Bool.{Bool, true, and-eq-true_iff}
use mathlib.Core.List.{List, [], ◌∷◌}
use lib.ListN.{get_or, take, drop, set, replicate, take-append-drop}
use Rattle.std.specs.List.{list_all}
use Rattle.std.proofs.lemmas.List.Folds.{list_all-append}
use Rattle.std.proofs.lemmas.List.Recursion.{and_set}

module _ {A : Type 0} (test : A → Bool) where
  -- an element, or what stands for one past the end
  pub all_at : (l : List A) (i : ℕ) (d : A) → list_all test l ≡ true → test d ≡ true → test (get_or l i d) ≡ true
  all_at [] i d h e = e
  all_at (x ∷ l) zero d h e = ((and-eq-true_iff (test x) (list_all test l)).0 h).0
  all_at (x ∷ l) (suc i) d h e = all_at l i d ((and-eq-true_iff (test x) (list_all test l)).0 h).1 e

  pub all_set : (l : List A) (i : ℕ) (x : A) → list_all test l ≡ true → test x ≡ true → list_all test (set l i x) ≡ true
  all_set l i x h e = and_set (list_all test) test refl (λ y ys. refl) l i x e h

  pub all_take : (k : ℕ) (l : List A) → list_all test l ≡ true → list_all test (take k l) ≡ true
  all_take k l h =
      ((and-eq-true_iff (list_all test (take k l)) (list_all test (drop k l))).0
      (sym (list_all-append test (take k l) (drop k l)) ∙ ap (list_all test) (take-append-drop k l) ∙ h)).0

  pub all_replicate : (n : ℕ) (x : A) → test x ≡ true → list_all test (replicate n x) ≡ true
  all_replicate zero x e = refl
  all_replicate (suc n) x e = (and-eq-true_iff (test x) (list_all test (replicate n x))).1 (e, all_replicate n x e)
