-- Laws of elements counted from 1: the number n stands at n − 1; with 0, or past the end, none is read and none replaced.
use Prim.Native.Nat.{ℕ, zero, suc, ◌-◌, ◌≤◌, ◌<◌}
use mathlib.Core.Path.{◌≡◌, refl, ap, sym, ◌∙◌}
use mathlib.Core.Bool.{Bool, true, false, cond}
use mathlib.Core.List.{List}
use mathlib.Core.Logic.{◌≢◌}
use native.Mathlib.Omega.{arith}
use borrow.Author.Tests.{ltb-true, ltb-false}
use lib.Dec.{ltb}
use lib.ListN.{length, length-set, get_or, set, get_or-eq_default}
use lib.Seq.{set_out, get_or-set_same, get_or-set_other}
use Rattle.record.specs.Parts.{numbered, with_numbered, numbered_place}

module _ {A : Type 0} (list : List A) where
  pub numbered_at : (n : ℕ) (none : A) → 1 ≤ n → numbered list n none ≡ get_or list (n - 1) none
  unfolding numbered
  numbered_at zero none h = absurd (omega arith)
  numbered_at (suc i) none h = ap (λ (j : ℕ). get_or list j none) (omega arith)

  pub numbered_zero : (n : ℕ) (none : A) → n ≡ 0 → numbered list n none ≡ none
  unfolding numbered
  numbered_zero zero none h = refl
  numbered_zero (suc i) none h = absurd (omega arith)

  pub numbered_past : (n : ℕ) (none : A) → length list < n → numbered list n none ≡ none
  unfolding numbered
  numbered_past zero none h = refl
  numbered_past (suc i) none h = get_or-eq_default list none (omega arith)

  pub replaced_at : (n : ℕ) (new : A) → 1 ≤ n → with_numbered list n new ≡ set list (n - 1) new
  unfolding with_numbered
  replaced_at zero new h = absurd (omega arith)
  replaced_at (suc i) new h = ap (λ (j : ℕ). set list j new) (omega arith)

  pub replaced_zero : (n : ℕ) (new : A) → n ≡ 0 → with_numbered list n new ≡ list
  unfolding with_numbered
  replaced_zero zero new h = refl
  replaced_zero (suc i) new h = absurd (omega arith)

  pub replaced_past : (n : ℕ) (new : A) → length list < n → with_numbered list n new ≡ list
  unfolding with_numbered
  replaced_past zero new h = refl
  replaced_past (suc i) new h = set_out list i new (omega arith)

-- what `numbered` and `with_numbered` are at each number
pub ruleset numbered_laws = (numbered_at, numbered_zero, numbered_past)

pub ruleset replaced_laws = (replaced_at, replaced_zero, replaced_past)

-- an element that was replaced, the others, and how many there are
module _ {A : Type 0} (list : List A) (n : ℕ) (new : A) where
  pub replaced_length : length (with_numbered list n new) ≡ length list
  unfolding with_numbered
  replaced_length = go n
    where
      go : (i : ℕ) → length (with_numbered list i new) ≡ length list
      go zero = refl
      go (suc i) = length-set list i new

  pub replaced_same : (none : A) → 1 ≤ n → n ≤ length list → numbered (with_numbered list n new) n none ≡ new
  unfolding numbered with_numbered
  replaced_same none low high = go n low high
    where
      go : (i : ℕ) → 1 ≤ i → i ≤ length list → numbered (with_numbered list i new) i none ≡ new
      go zero a b = absurd (omega arith)
      go (suc i) a b = get_or-set_same list i new none (omega arith)

  pub replaced_other : (none : A) (other : ℕ) → other ≢ n → numbered (with_numbered list n new) other none ≡ numbered list other none
  unfolding numbered with_numbered
  replaced_other none other h = go n other h
    where
      go : (i j : ℕ) → j ≢ i → numbered (with_numbered list i new) j none ≡ numbered list j none
      go zero j h = refl
      go (suc i) zero h = refl
      go (suc i) (suc j) h = get_or-set_other list i j new none (λ e. h (ap suc e))

-- the place of a number
pub place_at : (last n : ℕ) → 1 ≤ n → n ≤ last → numbered_place last n ≡ n - 1
unfolding numbered_place
place_at last zero low high = absurd (omega arith)
place_at last (suc i) low high = go (ltb i last) refl
  where
    go : (b : Bool) → ltb i last ≡ b → cond b i 0 ≡ suc i - 1
    go true e = omega arith
    go false e = absurd (omega (arith, ltb-false i last e))

pub place_zero : (last n : ℕ) → n ≡ 0 → numbered_place last n ≡ 0
unfolding numbered_place
place_zero last zero h = refl
place_zero last (suc i) h = absurd (omega arith)

pub place_past : (last n : ℕ) → last < n → numbered_place last n ≡ 0
unfolding numbered_place
place_past last zero h = refl
place_past last (suc i) h = go (ltb i last) refl
  where
    go : (b : Bool) → ltb i last ≡ b → cond {A = ℕ} b i 0 ≡ 0
    go true e = absurd (omega (arith, ltb-true i last e))
    go false e = refl

pub ruleset place_laws = (place_at, place_zero, place_past)

-- it is a place of a list of that length
pub place_below : (last n : ℕ) → 1 ≤ last → numbered_place last n < last
unfolding numbered_place
place_below last zero some = some
place_below last (suc i) some = go (ltb i last) refl
  where
    go : (b : Bool) → ltb i last ≡ b → cond b i 0 < last
    go true e = ltb-true i last e
    go false e = some

-- the element of a number that there is, read and replaced at its place
module _ {A : Type 0} (list : List A) (last n : ℕ) (low : 1 ≤ n) (high : n ≤ last) where
  pub numbered_in_place : (none : A) → numbered list n none ≡ get_or list (numbered_place last n) none
  numbered_in_place none = numbered_at list n none low ∙ ap (λ (i : ℕ). get_or list i none) (sym (place_at last n low high))

  pub replaced_in_place : (new : A) → with_numbered list n new ≡ set list (numbered_place last n) new
  replaced_in_place new = replaced_at list n new low ∙ ap (λ (i : ℕ). set list i new) (sym (place_at last n low high))
