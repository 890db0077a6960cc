-- What follows where the tests of a refusal chain found nothing: each test failed, and so each field that the map has is in its range.
use Prim.Native.Nat.{ℕ, ◌≤◌}
use mathlib.Core.Path.{◌≡◌, refl}
use mathlib.Mathlib.Data.Bool.Basic.{or-eq-false-eq-eq-false-and-eq-false}
use mathlib.Core.Bool.{false≢true, Bool, true, false, cond}
use native.Mathlib.Omega.{arith}
use borrow.Author.Tests.{ltb-false}
use lib.Dec.{ltb}
use Rattle.conditions.specs.Conditions.{both, outside}
use Rattle.refusal.specs.Judging.{refuse_if}
use Rattle.refusal.specs.declared.Refusal.{Refusal}
use Rattle.refusal.specs.Refusals.{number_of}
use Rattle.refusal.proofs.Laws.{number_positive, not_refused}
use Rattle.frame.specs.declared.Fields.{Fields}
use Rattle.frame.specs.FieldMap.{has_bit}
use Rattle.frame.specs.Frames.{kept, judged}

-- a chain whose first test refuses
pub first_refuses : (r : Refusal) (t : Bool) (n later : ℕ) → number_of r ≡ refuse_if t n 0 → number_of r ≡ refuse_if t n later
unfolding refuse_if
first_refuses r true n later e = e
first_refuses r false n later e = absurd (omega (arith, number_positive r, e))

-- one whose first test does not
pub first_passes : (t : Bool) (n later : ℕ) → 1 ≤ n → 0 ≡ refuse_if t n 0 → refuse_if t n later ≡ later
unfolding refuse_if
first_passes true n later h e = absurd (omega arith)
first_passes false n later h e = refl

is_in_range : (has : Bool) (low x high : ℕ) → both has (outside low x high) ≡ false → has ≡ true → x ≤ high
unfolding both outside
is_in_range true low x high e t = ltb-false high x ((or-eq-false-eq-eq-false-and-eq-false (ltb x low) (ltb high x)).0 e).1
is_in_range false low x high e t = absurd (false≢true t)

-- the upper ends of the ranges of the fields that a frame has
pub record InRange (has : ℕ → Bool) (f : Fields) : Type 0 where
  pub station : has 0 ≡ true → f.station ≤ 32
  pub number : has 1 ≡ true → f.number ≤ 16777215
  pub point : has 2 ≡ true → f.point ≤ 2147483646
  pub action : has 3 ≡ true → f.action ≤ 2
  pub refusal : has 5 ≡ true → f.refusal ≤ 14

pub judged_sound : (has : ℕ → Bool) (f : Fields) → judged has f ≡ 0 → InRange has f
unfolding judged
judged_sound has f e =
    let a = not_refused (both (has 0) (outside 1 f.station 32)) 10 _ (omega arith) e in
    let b = not_refused (both (has 1) (outside 1 f.number 16777215)) 11 _ (omega arith) a.1 in
    let c = not_refused (both (has 2) (outside 1 f.point 2147483646)) 2 _ (omega arith) b.1 in
    let d = not_refused (both (has 3) (outside 0 f.action 2)) 13 _ (omega arith) c.1 in
    let g = not_refused (both (has 5) (outside 1 f.refusal 14)) 13 _ (omega arith) d.1 in
    record {
      station = is_in_range (has 0) 1 f.station 32 a.0;
      number = is_in_range (has 1) 1 f.number 16777215 b.0;
      point = is_in_range (has 2) 1 f.point 2147483646 c.0;
      action = is_in_range (has 3) 0 f.action 2 d.0;
      refusal = is_in_range (has 5) 1 f.refusal 14 g.0;
    }

same_test : (has : Bool) (low x high : ℕ) → both has (outside low (cond has x 0) high) ≡ both has (outside low x high)
unfolding both
same_test true low x high = refl
same_test false low x high = refl

-- a field that the map lacks is not judged
pub judged_kept : (map : ℕ) (f : Fields) → judged (has_bit map) (kept map f) ≡ judged (has_bit map) f
unfolding judged
judged_kept map f = λ j.
    refuse_if (same_test (has_bit map 0) 1 f.station 32 j) 10
    (refuse_if (same_test (has_bit map 1) 1 f.number 16777215 j) 11
    (refuse_if (same_test (has_bit map 2) 1 f.point 2147483646 j) 2
    (refuse_if (same_test (has_bit map 3) 0 f.action 2 j) 13 (refuse_if (same_test (has_bit map 5) 1 f.refusal 14 j) 13 0))))
