-- What a search knows between two of its steps, where the table agrees with a plain list: the point's row is at an index yet to be read, or a fact F that stands for
-- "not found" (of a reader: the point was absent at one of the lookup's moments; of the writer: it is absent). A step keeps it, and so does every call of the others.
use Rattle.std.specs.Prelude.{Option, Some, None}
use Prim.Native.Nat.{ℕ, ◌+◌, ◌≤◌, ◌<◌}
use mathlib.Core.Bool.{true}
use mathlib.Core.Path.{◌≡◌, refl, sym, ap, subst, ◌∙◌}
use mathlib.Core.Logic.{◌⊎◌, inl, inr, ◌≢◌}
use mathlib.Core.List.{List}
use native.Mathlib.Omega.{arith}
use borrow.Author.Tests.{eqb-true, eqb-false, ltb-false}
use lib.ListN.{get_or}
use Rattle.conditions.proofs.ConditionLaws.{cond_holds}
use Rattle.hash.specs.Position.{position_of}
use Rattle.hash.proofs.Laws.{position_below}
use Rattle.slot_words.specs.Word.{point_of, value_of}
use Rattle.record.specs.declared.Probe.{Probe}
use Rattle.record.specs.declared.Place.{Place}
use Rattle.record.specs.declared.Search.{Search}
use Rattle.record.specs.declared.Search.TheVariants.{Unread, Probing}
use Rattle.work_ranges.specs.WorkRanges.{search_in_range}
use Rattle.plain_list.specs.PlainList.{Rows, Entry, absent, present, entry_of}
use Rattle.plain_list.proofs.RowLaws.{Steady}
use Rattle.plain_list.proofs.IndexLaws.{Lowest}
use Rattle.plain_list.proofs.Agreement.{Agrees, shown_row, row_shown}
use Rattle.search.specs.declared.Searched.{Searched}
use Rattle.search.specs.declared.Searched.TheVariants.{Going, Answered}
use Rattle.search.specs.Access.{word_read}
use Rattle.search.specs.Search.{search_access, first_probe, next_probe, holds_point, probe_advance, search_advance}
use Rattle.search.proofs.SearchLaws.{next_low}

-- the point's row is at an index between these two
pub record Ahead (m k q : ℕ) (rows : Rows) (from to : ℕ) : Type 0 where
  pub value : ℕ
  pub place : ℕ
  pub index : ℕ
  pub found : entry_of q rows ≡ present value place
  pub lowest : Lowest m k q place index
  pub low : from ≤ index
  pub high : index ≤ to

-- what a search knows
abbrev pub Trail : Type 0 → ℕ → ℕ → ℕ → Rows → Search → Type 0
Trail F m k q rows Unread = Unit {0}
Trail F m k q rows (Probing probe) = F ⊎ Ahead m k q rows probe.next probe.reach

-- what it knows of a place that it found: the point's row is there, at its lowest index if it was never missed
pub record FoundAt (F : Type 0) (m k q : ℕ) (rows : Rows) (place : Place) : Type 0 where
  pub found : entry_of q rows ≡ present place.value (position_of m q place.index)
  pub lowest : F ⊎ Lowest m k q (position_of m q place.index) place.index

-- what it knows at its end
abbrev pub Ended : Type 0 → ℕ → ℕ → ℕ → Rows → Option Place → Type 0
Ended F m k q rows (Some place) = FoundAt F m k q rows place
Ended F m k q rows None = F

-- what it knows after a step
abbrev pub Knows : Type 0 → ℕ → ℕ → ℕ → Rows → Searched → Type 0
Knows F m k q rows (Going search) = Trail F m k q rows search
Knows F m k q rows (Answered answer) = Ended F m k q rows answer

module _ (F : Type 0) (m k reach : ℕ) (counts slots : List ℕ) (rows : Rows) (agrees : Agrees m k reach counts slots rows) (q : ℕ) (low : 1 ≤ q) (missed : entry_of q rows ≡ absent → F) where
  -- the reach covers every row
  first_ahead : (entry : Entry) → entry_of q rows ≡ entry → F ⊎ Ahead m k q rows 1 reach
  first_ahead absent e = inl (missed e)
  first_ahead (present value place) e =
      let h = agrees.held q value place e in
      inr
      (record {
        value = value;
        place = place;
        index = h.index;
        found = e;
        lowest = h.lowest;
        low = h.lowest.low;
        high = h.reached;
      })

  -- no index is left to read
  none_ahead : (from to : ℕ) → to < from → F ⊎ Ahead m k q rows from to → F
  none_ahead from to h (inl f) = f
  none_ahead from to h (inr a) = absurd (omega (arith, a.low, a.high))

  first_knows : Knows F m k q rows (first_probe reach)
  unfolding first_probe
  first_knows =
      cond_holds (Knows F m k q rows) _ _ _
      (λ none. let z = eqb-true reach 0 none in none_ahead 1 reach (omega arith) (first_ahead (entry_of q rows) refl))
      (λ some. first_ahead (entry_of q rows) refl)

  abbrev word_of_lem : Probe → ℕ
  word_of_lem probe = get_or slots (position_of m q probe.next) 0

  -- the slot read shows the point: it is the point's row, and at its lowest index if the row was ahead
  hit_lowest : (probe : Probe) (value : ℕ) → 1 ≤ probe.next → entry_of q rows ≡ present value (position_of m q probe.next) → F ⊎ Ahead m k q rows probe.next probe.reach → F ⊎ Lowest m k q (position_of m q probe.next) probe.next
  hit_lowest probe value from e (inl f) = inl f
  hit_lowest probe value from e (inr a) =
      let f = a.found in
      let same : a.place ≡ position_of m q probe.next = cc in
      let no_less : ¬ (probe.next < a.index) = λ y. a.lowest.first probe.next from y (sym same) in
      let here : a.index ≡ probe.next = omega (arith, a.low) in
      inr
      (subst (λ (y : ℕ). Lowest m k q (position_of m q probe.next) y) here
      (subst (λ (y : ℕ). Lowest m k q y a.index) same a.lowest))

  -- the slot read does not show the point: its row is not there
  passed : (probe : Probe) → (point_of (word_of_lem probe) ≡ q → ⊥) → F ⊎ Ahead m k q rows probe.next probe.reach → F ⊎ Ahead m k q rows (probe.next + 1) probe.reach
  passed probe other (inl f) = inl f
  passed probe other (inr a) =
      let shown = row_shown m k reach counts slots rows agrees q a.value a.place a.found in
      let apart : a.index ≢ probe.next = λ y. other (subst (λ (u : ℕ). point_of (get_or slots u 0) ≡ q) (sym a.lowest.at ∙ ap (position_of m q) y) shown) in
      inr
      (record {
        value = a.value;
        place = a.place;
        index = a.index;
        found = a.found;
        lowest = a.lowest;
        low = omega (arith, a.low);
        high = a.high;
      })

  next_knows : (probe : Probe) → F ⊎ Ahead m k q rows (probe.next + 1) probe.reach → Knows F m k q rows (next_probe probe)
  unfolding next_probe
  next_knows probe ahead =
      cond_holds (Knows F m k q rows) _ _ _ (λ more. ahead)
      (λ last. let past = ltb-false probe.next probe.reach last in none_ahead (probe.next + 1) probe.reach (omega arith) ahead)

  -- a position that shows the point ends the search there; any other leads to the next, an empty one too: "removals leave holes"
  probe_knows : (probe : Probe) → 1 ≤ probe.next → F ⊎ Ahead m k q rows probe.next probe.reach → Knows F m k q rows (probe_advance q probe (word_of_lem probe))
  unfolding probe_advance holds_point
  probe_knows probe from ahead =
      cond_holds (Knows F m k q rows) (holds_point q (word_of_lem probe)) _ _
      (λ hit.
      let inside = position_below m q probe.next agrees.some_slot in
      let here = shown_row m k reach counts slots rows agrees q (position_of m q probe.next) low inside (eqb-true (point_of (word_of_lem probe)) q hit) in
      record { found = here; lowest = hit_lowest probe (value_of (word_of_lem probe)) from here ahead })
      (λ other. next_knows probe (passed probe (eqb-false (point_of (word_of_lem probe)) q other) ahead))

  -- a search's own step
  pub search_knows : (search : Search) → search_in_range k search ≡ true → Trail F m k q rows search → Knows F m k q rows (search_advance reach q search (word_read slots (search_access m q search)))
  unfolding search_advance search_access word_read
  search_knows Unread fits t = first_knows
  search_knows (Probing probe) fits t = probe_knows probe (next_low k probe fits) t

-- a call of the others: a point that stays keeps its place, and one that goes is absent after the call
module _ (F F' : Type 0) (m k q : ℕ) (rows after : Rows) (steady : Steady rows after) (still : F → F') (missed : entry_of q after ≡ absent → F') where
  ahead_after : (from to : ℕ) → Ahead m k q rows from to → (entry : Entry) → entry_of q after ≡ entry → F' ⊎ Ahead m k q after from to
  ahead_after from to a absent e = inl (missed e)
  ahead_after from to a (present value place) e =
      inr
      (record {
        value = value;
        place = place;
        index = a.index;
        found = e;
        lowest = subst (λ (y : ℕ). Lowest m k q y a.index) (steady q a.value a.place value place a.found e) a.lowest;
        low = a.low;
        high = a.high;
      })

  pub trail_after : (search : Search) → Trail F m k q rows search → Trail F' m k q after search
  trail_after Unread t = tt
  trail_after (Probing probe) (inl f) = inl (still f)
  trail_after (Probing probe) (inr a) = ahead_after probe.next probe.reach a (entry_of q after) refl
