-- Laws of the plain list alone: a point's row after each of the list's operations; each point has one row; which places are taken.
use Prim.Native.Nat.{ℕ, suc}
use mathlib.Core.Bool.{Bool, true, false, cond}
use mathlib.Core.Path.{◌≡◌, refl, sym, ap, ◌∙◌}
use mathlib.Core.Logic.{◌≢◌}
use mathlib.Core.List.{[], ◌∷◌}
use native.Mathlib.Omega.{arith}
use native.Mathlib.Decide.{ℕ_discrete}
use lib.Dec.{eqb}
use lib.ListN.{length}
use borrow.Author.Tests.{eqb-true, eq-eqb, ne_eqb}
use Rattle.conditions.specs.Conditions.{either}
use Rattle.plain_list.specs.PlainList.{Row, Rows, absent, present, entry_of, with_value, without, is_place}

-- an entry is one thing only
pub present≢absent : {A : Type 0} {value place : ℕ} → present value place ≡ absent → A
present≢absent e = let z : ◌≡◌ {A = ℕ} 0 1 = cc in absurd (omega arith)

pub entry_same : (r : Row) (rows : Rows) → entry_of r.point (r ∷ rows) ≡ present r.value r.place
unfolding entry_of
entry_same r rows = rw (eq-eqb r.point r.point refl)

pub entry_other : (q : ℕ) (r : Row) (rows : Rows) → r.point ≢ q → entry_of q (r ∷ rows) ≡ entry_of q rows
unfolding entry_of
entry_other q r rows h = rw (ne_eqb r.point q h)

-- a row behind the first is found too, where the first is another point's
pub entry_behind : (q value place : ℕ) (r : Row) (rows : Rows) → entry_of r.point rows ≡ absent → entry_of q rows ≡ present value place → entry_of q (r ∷ rows) ≡ present value place
entry_behind q value place r rows none e =
    entry_other q r rows (λ same. present≢absent (sym e ∙ (ap (λ (x : ℕ). entry_of x rows) (sym same) ∙ none))) ∙ e

module _ (q new : ℕ) where
  pub value_same : (rows : Rows) (old place : ℕ) → entry_of q rows ≡ present old place → entry_of q (with_value q new rows) ≡ present new place
  unfolding entry_of with_value
  value_same [] old place e = present≢absent (sym e)
  value_same (r ∷ rows) old place e = go (eqb r.point q) (value_same rows old place) e
    where
      go : (b : Bool) → (entry_of q rows ≡ present old place → entry_of q (with_value q new rows) ≡ present new place) → cond b (present r.value r.place) (entry_of q rows) ≡ present old place → cond b (present (cond b new r.value) r.place) (entry_of q (with_value q new rows)) ≡ present new place
      go true ih e = cc
      go false ih e = ih e

  pub value_other : (other : ℕ) (rows : Rows) → other ≢ q → entry_of other (with_value q new rows) ≡ entry_of other rows
  unfolding entry_of with_value
  value_other other [] h = refl
  value_other other (r ∷ rows) h = go (eqb r.point other) refl (eqb r.point q) refl (value_other other rows h)
    where
      go : (b : Bool) → eqb r.point other ≡ b → (s : Bool) → eqb r.point q ≡ s → entry_of other (with_value q new rows) ≡ entry_of other rows → cond b (present (cond s new r.value) r.place) (entry_of other (with_value q new rows)) ≡ cond b (present r.value r.place) (entry_of other rows)
      go true e true f ih = let a = eqb-true r.point other e in let b = eqb-true r.point q f in absurd (h (cc))
      go true e false f ih = refl
      go false e s f ih = ih

  pub value_absent : (other : ℕ) (rows : Rows) → entry_of other rows ≡ absent → entry_of other (with_value q new rows) ≡ absent
  unfolding entry_of with_value
  value_absent other [] e = refl
  value_absent other (r ∷ rows) e = go (eqb r.point other) (value_absent other rows) e
    where
      go : (b : Bool) → (entry_of other rows ≡ absent → entry_of other (with_value q new rows) ≡ absent) → cond b (present r.value r.place) (entry_of other rows) ≡ absent → cond b (present (cond (eqb r.point q) new r.value) r.place) (entry_of other (with_value q new rows)) ≡ absent
      go true ih e = present≢absent e
      go false ih e = ih e

  pub value_length : (rows : Rows) → length (with_value q new rows) ≡ length rows
  unfolding with_value
  value_length [] = refl
  value_length (r ∷ rows) = ap suc (value_length rows)

module _ (q : ℕ) where
  pub gone : (rows : Rows) → entry_of q (without q rows) ≡ absent
  unfolding entry_of without
  gone [] = refl
  gone (r ∷ rows) = go (eqb r.point q) refl (gone rows)
    where
      go : (b : Bool) → eqb r.point q ≡ b → entry_of q (without q rows) ≡ absent → entry_of q (cond b (without q rows) (r ∷ without q rows)) ≡ absent
      go true e ih = ih
      go false e ih = rw (e, entry_of) ih

  pub left : (other : ℕ) (rows : Rows) → other ≢ q → entry_of other (without q rows) ≡ entry_of other rows
  unfolding entry_of without
  left other [] h = refl
  left other (r ∷ rows) h = go (eqb r.point q) refl (left other rows h)
    where
      go : (b : Bool) → eqb r.point q ≡ b → entry_of other (without q rows) ≡ entry_of other rows → entry_of other (cond b (without q rows) (r ∷ without q rows)) ≡ cond (eqb r.point other) (present r.value r.place) (entry_of other rows)
      go true e ih = let a = eqb-true r.point q e in ih ∙ sym (entry_other other r rows (λ b. h (cc)))
      go false e ih = ap (cond (eqb r.point other) (present r.value r.place)) ih

  pub left_absent : (other : ℕ) (rows : Rows) → entry_of other rows ≡ absent → entry_of other (without q rows) ≡ absent
  left_absent other rows e = go (ℕ_discrete other q)
    where
      go : Dec (other ≡ q) → entry_of other (without q rows) ≡ absent
      go (yes a) = rw a (gone rows)
      go (no a) = left other rows a ∙ e

  pub without_absent : (rows : Rows) → entry_of q rows ≡ absent → without q rows ≡ rows
  unfolding entry_of without
  without_absent [] e = refl
  without_absent (r ∷ rows) e = go (eqb r.point q) (without_absent rows) e
    where
      go : (b : Bool) → (entry_of q rows ≡ absent → without q rows ≡ rows) → cond b (present r.value r.place) (entry_of q rows) ≡ absent → cond b (without q rows) (r ∷ without q rows) ≡ r ∷ rows
      go true ih e = present≢absent e
      go false ih e = let a = ih e in cc

-- each point has one row
abbrev pub Distinct : Rows → Type 0
Distinct [] = Unit {0}
Distinct (r ∷ rows) = (entry_of r.point rows ≡ absent) × Distinct rows

pub distinct_value : (q new : ℕ) (rows : Rows) → Distinct rows → Distinct (with_value q new rows)
unfolding with_value
distinct_value q new [] d = tt
distinct_value q new (r ∷ rows) d = (value_absent q new r.point rows d.0, distinct_value q new rows d.1)

pub distinct_without : (q : ℕ) (rows : Rows) → Distinct rows → Distinct (without q rows)
unfolding without
distinct_without q [] d = tt
distinct_without q (r ∷ rows) d = go (eqb r.point q) (distinct_without q rows d.1)
  where
    go : (b : Bool) → Distinct (without q rows) → Distinct (cond b (without q rows) (r ∷ without q rows))
    go true ih = ih
    go false ih = (left_absent q r.point rows d.0, ih)

pub without_length : (q value place : ℕ) (rows : Rows) → Distinct rows → entry_of q rows ≡ present value place → suc (length (without q rows)) ≡ length rows
unfolding entry_of without
without_length q value place [] d e = present≢absent (sym e)
without_length q value place (r ∷ rows) d e = go (eqb r.point q) refl (without_length q value place rows d.1) e
  where
    go : (b : Bool) → eqb r.point q ≡ b → (entry_of q rows ≡ present value place → suc (length (without q rows)) ≡ length rows) → cond b (present r.value r.place) (entry_of q rows) ≡ present value place → suc (length (cond b (without q rows) (r ∷ without q rows))) ≡ suc (length rows)
    go true f ih e =
        ap (λ (l : Rows). suc (length l)) (without_absent q rows (ap (λ (x : ℕ). entry_of x rows) (sym (eqb-true r.point q f)) ∙ d.0))
    go false f ih e = ap suc (ih e)

-- a point that stays on the list keeps its place: all that readers need to know of what the writer does
abbrev pub Steady : Rows → Rows → Type 0
Steady rows after = (q value place value' place' : ℕ) → entry_of q rows ≡ present value place → entry_of q after ≡ present value' place' → place ≡ place'

pub steady_same : (rows : Rows) → Steady rows rows
steady_same rows q value place value' place' e e' = cc

pub steady_value : (p new : ℕ) (rows : Rows) → Steady rows (with_value p new rows)
steady_value p new rows q value place value' place' e e' = go (ℕ_discrete q p)
  where
    go : Dec (q ≡ p) → place ≡ place'
    go (yes a) = let f = value_same q new rows value place e in cc
    go (no a) = let f = value_other p new q rows a in cc

pub steady_without : (p : ℕ) (rows : Rows) → Steady rows (without p rows)
steady_without p rows q value place value' place' e e' = go (ℕ_discrete q p)
  where
    go : Dec (q ≡ p) → place ≡ place'
    go (yes a) = let f = gone q rows in cc
    go (no a) = let f = left p q rows a in cc

pub steady_added : (r : Row) (rows : Rows) → entry_of r.point rows ≡ absent → Steady rows (r ∷ rows)
steady_added r rows none q value place value' place' e e' = go (ℕ_discrete r.point q)
  where
    go : Dec (r.point ≡ q) → place ≡ place'
    go (yes a) = cc
    go (no a) = let f = entry_other q r rows a in cc

-- a point whose row is at a place
pub record At (rows : Rows) (place : ℕ) : Type 0 where
  pub point : ℕ
  pub value : ℕ
  pub found : entry_of point rows ≡ present value place

pub at_behind : (r : Row) (rows : Rows) (place : ℕ) → entry_of r.point rows ≡ absent → At rows place → At (r ∷ rows) place
at_behind r rows place none a =
    record { point = a.point; value = a.value; found = entry_behind a.point a.value place r rows none a.found }

pub at_value : (q new : ℕ) (rows : Rows) (place : ℕ) → At rows place → At (with_value q new rows) place
at_value q new rows place a = go (ℕ_discrete a.point q)
  where
    go : Dec (a.point ≡ q) → At (with_value q new rows) place
    go (yes e) = record { point = q; value = new; found = value_same q new rows a.value place (rw e at a.found) }
    go (no e) = record { point = a.point; value = a.value; found = value_other q new a.point rows e ∙ a.found }

either_right : (a : Bool) → either a true ≡ true
unfolding either
either_right true = refl
either_right false = refl

pub found_place : (q value place : ℕ) (rows : Rows) → entry_of q rows ≡ present value place → is_place place rows ≡ true
unfolding entry_of is_place either
found_place q value place [] e = present≢absent (sym e)
found_place q value place (r ∷ rows) e = go (eqb r.point q) (found_place q value place rows) e
  where
    go : (b : Bool) → (entry_of q rows ≡ present value place → is_place place rows ≡ true) → cond b (present r.value r.place) (entry_of q rows) ≡ present value place → either (eqb r.place place) (is_place place rows) ≡ true
    go true ih e = let same : r.place ≡ place = cc in rw (eq-eqb r.place place same)
    go false ih e = rw (ih e) (either_right (eqb r.place place))

pub place_found : (place : ℕ) (rows : Rows) → Distinct rows → is_place place rows ≡ true → At rows place
unfolding is_place either
place_found place [] d e = let z : ◌≡◌ {A = ℕ} 0 1 = cc in absurd (omega arith)
place_found place (r ∷ rows) d e = go (eqb r.place place) refl (place_found place rows d.1) e
  where
    go : (b : Bool) → eqb r.place place ≡ b → (is_place place rows ≡ true → At rows place) → either b (is_place place rows) ≡ true → At (r ∷ rows) place
    go true f ih e =
        record { point = r.point; value = r.value; found = entry_same r rows ∙ ap (present r.value) (eqb-true r.place place f) }
    go false f ih e = at_behind r rows place d.0 (ih e)
