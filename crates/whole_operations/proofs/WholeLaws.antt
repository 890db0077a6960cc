-- Laws of whole operations: a step while the operation is underway, none once it has ended or the budget is used up;
-- a loop that takes these steps; and when a budget suffices.
use Prim.Native.Nat.{ℕ, zero, suc, ◌+◌, ◌-◌, ◌≤◌, ◌<◌}
use mathlib.Core.Path.{◌≡◌, refl, ap, ◌∙◌, sym, transport}
use mathlib.Core.Bool.{Bool, true, false, cond, false≢true}
use native.Mathlib.Omega.{arith}
use Rattle.answers.specs.Answers.{is_underway, Outcome}
use Rattle.whole_operations.specs.Whole.{until_ended}

module _ (step : Outcome → Outcome) where
  pub one_step : (n : ℕ) (now : Outcome) → 1 ≤ n → is_underway now.answer ≡ true → until_ended step n now ≡ until_ended step (n - 1) (step now)
  unfolding until_ended
  one_step zero now h e = absurd (omega arith)
  one_step (suc n) now h e = let same : n ≡ suc n - 1 = omega arith in rw e (ap (λ (left : ℕ). until_ended step left (step now)) same)

  pub has_ended : (n : ℕ) (now : Outcome) → is_underway now.answer ≡ false → until_ended step n now ≡ now
  unfolding until_ended
  has_ended zero now e = refl
  has_ended (suc n) now e = rw e

  pub used_up : (n : ℕ) (now : Outcome) → n ≡ 0 → until_ended step n now ≡ now
  unfolding until_ended
  used_up zero now e = refl
  used_up (suc n) now e = absurd (omega arith)

  -- an operation that is underway and ends takes a step
  pub some_budget : (n : ℕ) (now : Outcome) → is_underway now.answer ≡ true → is_underway (until_ended step n now).answer ≡ false → 1 ≤ n
  unfolding until_ended
  some_budget zero now e ends = absurd (false≢true (sym ends ∙ e))
  some_budget (suc n) now e ends = omega arith

  -- a step more in the budget changes nothing where the operation has ended before
  pub one_more : (n : ℕ) (now : Outcome) → is_underway (until_ended step n now).answer ≡ false → until_ended step (suc n) now ≡ until_ended step n now
  unfolding until_ended
  one_more zero now e = rw e
  one_more (suc n) now e = go (is_underway now.answer) e (one_more n (step now))
    where
      go : (b : Bool) → is_underway (cond b (until_ended step n (step now)) now).answer ≡ false → (is_underway (until_ended step n (step now)).answer ≡ false → until_ended step (suc n) (step now) ≡ until_ended step n (step now)) → cond b (until_ended step (suc n) (step now)) now ≡ cond b (until_ended step n (step now)) now
      go true ends more = more ends
      go false ends more = refl

  -- only the step counts, not what the call before it answered
  pub same_step : (n : ℕ) (a b : Outcome) → 1 ≤ n → is_underway a.answer ≡ true → is_underway b.answer ≡ true → step a ≡ step b → until_ended step n a ≡ until_ended step n b
  same_step n a b h e f same = one_step n a h e ∙ ap (until_ended step (n - 1)) same ∙ sym (one_step n b h f)

  -- a loop of at most as many steps as the budget, on its way from the start, with so many steps made: P holds, and what is left to do comes to the same as the whole
  pub record OnTheWay (P : Outcome → Type 0) (start : Outcome) (budget made : ℕ) (now : Outcome) : Type 0 where
    pub holds : P now
    pub same : until_ended step (budget - made) now ≡ until_ended step budget start

  pub sets_out : (P : Outcome → Type 0) (start : Outcome) (budget : ℕ) → P start → OnTheWay P start budget 0 start
  sets_out P start budget p = record { holds = p; same = ap (λ (n : ℕ). until_ended step n start) (omega arith) }

  module _ (P : Outcome → Type 0) (keeps : (now : Outcome) → P now → is_underway now.answer ≡ true → P (step now)) (start : Outcome) (budget made : ℕ) (now : Outcome) (way : OnTheWay P start budget made now) (underway : is_underway now.answer ≡ true) where
    -- the budget is not used up before the operation has ended
    pub some_left : is_underway (until_ended step budget start).answer ≡ false → budget ≤ made → ⊥
    some_left ends used =
        let all = used_up (budget - made) now (omega arith) in
        false≢true (sym ends ∙ ap (λ (after : Outcome). is_underway after.answer) (sym way.same ∙ all) ∙ underway)

    module _ (more : made < budget) (after : Outcome) (takes : step now ≡ after) where
      on_from : until_ended step (budget - (made + 1)) after ≡ until_ended step budget start
      on_from =
          let fewer : budget - (made + 1) ≡ budget - made - 1 = omega arith in
          ap (λ (n : ℕ). until_ended step n after) fewer ∙ sym (ap (until_ended step (budget - made - 1)) takes) ∙ sym (one_step (budget - made) now (omega arith) underway) ∙ way.same

      pub steps_on : OnTheWay P start budget (made + 1) after
      steps_on = record { holds = transport (λ j. P (takes j)) (keeps now way.holds underway); same = on_from }

      pub arrives : is_underway after.answer ≡ false → after ≡ until_ended step budget start
      arrives ended = sym (has_ended (budget - (made + 1)) after ended) ∙ on_from

  -- a budget suffices that is not below the steps left: P holds of every outcome on the way, and each step takes one of the steps that are left
  module _ (P : Outcome → Type 0) (left : Outcome → ℕ) (takes_one : (now : Outcome) → P now → is_underway now.answer ≡ true → P (step now) × (left (step now) + 1 ≤ left now)) where
    pub budget_suffices : (n : ℕ) (now : Outcome) → P now → left now ≤ n → is_underway (until_ended step n now).answer ≡ false
    unfolding until_ended
    budget_suffices zero now p h = go (is_underway now.answer) refl
      where
        go : (b : Bool) → is_underway now.answer ≡ b → is_underway now.answer ≡ false
        go true e = absurd (omega (arith, (takes_one now p e).1))
        go false e = e
    budget_suffices (suc n) now p h = go (is_underway now.answer) refl (λ q. budget_suffices n (step now) q)
      where
        go : (b : Bool) → is_underway now.answer ≡ b → (P (step now) → left (step now) ≤ n → is_underway (until_ended step n (step now)).answer ≡ false) → is_underway (cond b (until_ended step n (step now)) now).answer ≡ false
        go true e more = let one = takes_one now p e in more one.0 (omega (arith, one.1))
        go false e more = e
