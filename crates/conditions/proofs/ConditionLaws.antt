-- What joined conditions, choices and ranges say.
use Prim.Native.Nat.{ℕ, ◌≤◌}
use mathlib.Core.Path.{◌≡◌, refl}
use mathlib.Core.Bool.{Bool, true, false, cond, false≢true}
use borrow.Author.Tests.{leb-true, le-leb}
use lib.Dec.{leb}
use Rattle.conditions.specs.Conditions.{both, within}

pub both_left : (a b : Bool) → both a b ≡ true → a ≡ true
unfolding both
both_left true b e = refl
both_left false b e = e

pub both_right : (a b : Bool) → both a b ≡ true → b ≡ true
unfolding both
both_right true b e = e
both_right false b e = absurd (false≢true e)

pub both_true : (a b : Bool) → a ≡ true → b ≡ true → both a b ≡ true
unfolding both
both_true a b p q = rw (p, q)

-- joined to one that holds, a condition is as before
pub both_with : (a b : Bool) → b ≡ true → both a b ≡ a
unfolding both
both_with true b e = e
both_with false b e = refl

pub within_low : (low x high : ℕ) → within low x high ≡ true → low ≤ x
unfolding within
within_low low x high e = leb-true low x (both_left (leb low x) (leb x high) e)

pub within_high : (low x high : ℕ) → within low x high ≡ true → x ≤ high
unfolding within
within_high low x high e = leb-true x high (both_right (leb low x) (leb x high) e)

pub is_within : (low x high : ℕ) → low ≤ x → x ≤ high → within low x high ≡ true
unfolding within
is_within low x high p q = both_true (leb low x) (leb x high) (le-leb low x p) (le-leb x high q)

-- what holds of each of two values where it is the one chosen
pub cond_holds : {A : Type 0} (P : A → Type 0) (test : Bool) (x y : A) → (test ≡ true → P x) → (test ≡ false → P y) → P (cond test x y)
cond_holds P true x y first second = first refl
cond_holds P false x y first second = second refl
