-- Laws of the counts: which index a search from above for the largest counted one ends at; that it is not above k, not below a counted index, and counted itself.
use Prim.Native.Nat.{ℕ, zero, suc, ◌-◌, ◌≤◌}
use mathlib.Core.Path.{◌≡◌, refl, ap, ◌∙◌}
use mathlib.Core.Bool.{Bool, true, false, cond}
use mathlib.Core.List.{List}
use mathlib.Core.Logic.{◌⊎◌, inl, inr, ◌≢◌}
use lib.Dec.{eqb}
use native.Mathlib.Omega.{arith}
use borrow.Author.Tests.{eqb-true, eqb-false, eq-eqb, ne_eqb}
use Rattle.record.specs.Parts.{count_in}
use Rattle.effects.specs.Counts.{largest_up_to, largest_counted}

module _ (counts : List ℕ) where
  pub largest_here : (i : ℕ) → 1 ≤ i → count_in counts i ≢ 0 → largest_up_to counts i ≡ i
  unfolding largest_up_to
  largest_here zero h e = absurd (omega arith)
  largest_here (suc i) h e = rw (ne_eqb _ _ e)

  pub largest_below : (i : ℕ) → 1 ≤ i → count_in counts i ≡ 0 → largest_up_to counts i ≡ largest_up_to counts (i - 1)
  unfolding largest_up_to
  largest_below zero h e = absurd (omega arith)
  largest_below (suc i) h e = let same : i ≡ suc i - 1 = omega arith in rw (eq-eqb _ _ e) (ap (largest_up_to counts) same)

  up_to_high : (n : ℕ) → largest_up_to counts n ≤ n
  unfolding largest_up_to
  up_to_high zero = omega arith
  up_to_high (suc i) = go (eqb (count_in counts (suc i)) 0) (up_to_high i)
    where
      go : (b : Bool) → largest_up_to counts i ≤ i → cond b (largest_up_to counts i) (suc i) ≤ suc i
      go true below = omega arith
      go false below = omega arith

  pub largest_high : (k : ℕ) → largest_counted k counts ≤ k
  unfolding largest_counted
  largest_high k = up_to_high k

  up_to_covers : (n j : ℕ) → 1 ≤ j → j ≤ n → count_in counts j ≢ 0 → j ≤ largest_up_to counts n
  unfolding largest_up_to
  up_to_covers zero j low high h = absurd (omega arith)
  up_to_covers (suc i) j low high h = go (eqb (count_in counts (suc i)) 0) refl (λ (l : j ≤ i). up_to_covers i j low l h)
    where
      go : (b : Bool) → eqb (count_in counts (suc i)) 0 ≡ b → (j ≤ i → j ≤ largest_up_to counts i) → j ≤ cond b (largest_up_to counts i) (suc i)
      go true e ih =
          let other : j ≢ suc i = λ same. h (ap (count_in counts) same ∙ eqb-true (count_in counts (suc i)) 0 e) in ih (omega arith)
      go false e ih = high

  pub largest_covers : (k j : ℕ) → 1 ≤ j → j ≤ k → count_in counts j ≢ 0 → j ≤ largest_counted k counts
  unfolding largest_counted
  largest_covers k j low high h = up_to_covers k j low high h

  up_to_counted : (n : ℕ) → (largest_up_to counts n ≡ 0) ⊎ ((1 ≤ largest_up_to counts n) × (count_in counts (largest_up_to counts n) ≢ 0))
  unfolding largest_up_to
  up_to_counted zero = inl refl
  up_to_counted (suc i) = go (eqb (count_in counts (suc i)) 0) refl (up_to_counted i)
    where
      go : (b : Bool) → eqb (count_in counts (suc i)) 0 ≡ b → (largest_up_to counts i ≡ 0) ⊎ ((1 ≤ largest_up_to counts i) × (count_in counts (largest_up_to counts i) ≢ 0)) → (cond b (largest_up_to counts i) (suc i) ≡ 0) ⊎ ((1 ≤ cond b (largest_up_to counts i) (suc i)) × (count_in counts (cond b (largest_up_to counts i) (suc i)) ≢ 0))
      go true e ih = ih
      go false e ih = inr (omega arith, eqb-false (count_in counts (suc i)) 0 e)

  pub largest_counted_lem : (k : ℕ) → (largest_counted k counts ≡ 0) ⊎ ((1 ≤ largest_counted k counts) × (count_in counts (largest_counted k counts) ≢ 0))
  unfolding largest_counted
  largest_counted_lem k = up_to_counted k
