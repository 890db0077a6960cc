-- Laws of the refusals: no number is 0, so that 0 can mean "not refused"; a number tells its row;
-- and what follows where a chain of tests refuses or does not.
use Prim.Native.Nat.{ℕ, zero, suc, ◌-◌, ◌≤◌}
use mathlib.Core.Path.{◌≡◌, refl}
use mathlib.Core.Bool.{Bool, true, false}
use mathlib.Core.List.{List, [], ◌∷◌}
use mathlib.Mathlib.Logic.Function.Defs.{LeftInverse-Injective}
use native.Mathlib.Omega.{arith}
use lib.ListN.{get_or}
use Rattle.refusal.specs.declared.Refusal.{Refusal}
use Rattle.refusal.specs.declared.Refusal.TheVariants.{Misfit, Address, Reader, Engaged, Idle, NoPerch, Unknown, Length, Map, Station, Turn, Altered, Code, Short}
use Rattle.refusal.specs.Judging.{refuse_if, or_else}
use Rattle.refusal.specs.Refusals.{number_of}

-- the row of a number
pub row_of : ℕ → Refusal
row_of n = get_or (Misfit ∷ Address ∷ Reader ∷ Engaged ∷ Idle ∷ NoPerch ∷ Unknown ∷ Length ∷ Map ∷ Station ∷ Turn ∷ Altered ∷ Code ∷ Short ∷ []) (n - 1) Misfit

pub row_of_number : (r : Refusal) → row_of (number_of r) ≡ r
unfolding row_of
row_of_number Misfit = refl
row_of_number Address = refl
row_of_number Reader = refl
row_of_number Engaged = refl
row_of_number Idle = refl
row_of_number NoPerch = refl
row_of_number Unknown = refl
row_of_number Length = refl
row_of_number Map = refl
row_of_number Station = refl
row_of_number Turn = refl
row_of_number Altered = refl
row_of_number Code = refl
row_of_number Short = refl

pub number_tells : (r s : Refusal) → number_of r ≡ number_of s → r ≡ s
number_tells = LeftInverse-Injective row_of number_of row_of_number

pub number_positive : (r : Refusal) → 1 ≤ number_of r
number_positive Misfit = omega arith
number_positive Address = omega arith
number_positive Reader = omega arith
number_positive Engaged = omega arith
number_positive Idle = omega arith
number_positive NoPerch = omega arith
number_positive Unknown = omega arith
number_positive Length = omega arith
number_positive Map = omega arith
number_positive Station = omega arith
number_positive Turn = omega arith
number_positive Altered = omega arith
number_positive Code = omega arith
number_positive Short = omega arith

-- where a chain refuses nothing, its first test failed, and so does the rest of it
pub not_refused : (t : Bool) (n later : ℕ) → 1 ≤ n → refuse_if t n later ≡ 0 → (t ≡ false) × (later ≡ 0)
unfolding refuse_if
not_refused true n later h e = absurd (omega arith)
not_refused false n later h e = (refl, e)

pub else_refused : (n later : ℕ) → 1 ≤ n → or_else n later ≡ n
unfolding or_else
else_refused zero later h = absurd (omega arith)
else_refused (suc n) later h = refl

pub neither_refused : (n later : ℕ) → or_else n later ≡ 0 → (n ≡ 0) × (later ≡ 0)
unfolding or_else
neither_refused zero later e = (refl, e)
neither_refused (suc n) later e = absurd (omega arith)
