-- Laws of a search: each step goes on in range, finds a place in range or ends, and takes one of the steps that are left;
-- a step reads one of the slots lent.
use Rattle.std.specs.Prelude.{Option, Some, None}
use Rattle.record.specs.declared.Place.{Place}
use Prim.Native.Nat.{ℕ, ◌+◌, ◌-◌, ◌≤◌, ◌<◌}
use mathlib.Core.Path.{◌≡◌, refl}
use mathlib.Core.Bool.{Bool, true}
use native.Mathlib.Omega.{arith}
use borrow.Author.Tests.{ltb-true, leb-true, le-leb, eqb-false}
use lib.Dec.{leb}
use Rattle.conditions.specs.Conditions.{within}
use Rattle.conditions.proofs.ConditionLaws.{both_left, both_right, both_true, within_low, within_high, is_within, cond_holds}
use Rattle.hash.proofs.Laws.{position_below}
use Rattle.record.specs.declared.Probe.{Probe}
use Rattle.record.specs.declared.Search.{Search}
use Rattle.record.specs.declared.Search.TheVariants.{Unread, Probing}
use Rattle.work_ranges.specs.WorkRanges.{search_in_range}
use Rattle.search.specs.declared.access.ReadAccess.{ReadAccess}
use Rattle.search.specs.declared.access.ReadAccess.TheVariants.{Nothing, Reach, Slot}
use Rattle.search.specs.declared.Searched.{Searched}
use Rattle.search.specs.declared.Searched.TheVariants.{Going, Answered}
use Rattle.search.specs.Search.{search_access, first_probe, next_probe, holds_point, probe_advance, search_advance}

-- the steps that are left of a search, at most
unfoldable pub search_left : ℕ → Search → ℕ
search_left k Unread = k + 1
search_left k (Probing probe) = probe.reach - probe.next + 1

-- a search that goes on has one left
pub some_left : (k : ℕ) (search : Search) → 1 ≤ search_left k search
unfolding search_left
some_left k Unread = omega arith
some_left k (Probing probe) = omega arith

-- the steps that are left of a search as it stands after a step
unfoldable pub searched_left : ℕ → Searched → ℕ
searched_left k (Going search) = search_left k search
searched_left k (Answered answer) = 0

-- a place that was found is in range
unfoldable pub answer_in_range : ℕ → Option Place → Bool
answer_in_range k (Some place) = within 1 place.index k
answer_in_range k None = true

-- what a search goes on with, or the place that it found, is in range
unfoldable pub searched_in_range : ℕ → Searched → Bool
searched_in_range k (Going search) = search_in_range k search
searched_in_range k (Answered answer) = answer_in_range k answer

module _ (k : ℕ) (probe : Probe) (h : search_in_range k (Probing probe) ≡ true) where
  pub next_low : 1 ≤ probe.next
  unfolding search_in_range
  next_low = within_low 1 probe.next probe.reach (both_right (leb probe.reach k) (within 1 probe.next probe.reach) h)

  pub next_high : probe.next ≤ probe.reach
  unfolding search_in_range
  next_high = within_high 1 probe.next probe.reach (both_right (leb probe.reach k) (within 1 probe.next probe.reach) h)

  pub reach_high : probe.reach ≤ k
  unfolding search_in_range
  reach_high = leb-true probe.reach k (both_left (leb probe.reach k) (within 1 probe.next probe.reach) h)

probing : (k reach next : ℕ) → reach ≤ k → 1 ≤ next → next ≤ reach → search_in_range k (Probing (record { reach = reach; next = next })) ≡ true
unfolding search_in_range
probing k reach next a b c = both_true (leb reach k) (within 1 next reach) (le-leb reach k a) (is_within 1 next reach b c)

-- after a step: in range, and a step less to go
pub record OneStep (k left : ℕ) (after : Searched) : Type 0 where
  pub fits : searched_in_range k after ≡ true
  pub less : searched_left k after + 1 ≤ left

pub first_step : (k reach : ℕ) → reach ≤ k → OneStep k (reach + 1) (first_probe reach)
unfolding first_probe searched_in_range answer_in_range searched_left search_left
first_step k reach h =
    cond_holds (OneStep k (reach + 1)) _ _ _ (λ none. record { fits = refl; less = omega arith })
    (λ some. let low = eqb-false reach 0 some in record { fits = probing k reach 1 h (omega arith) (omega arith); less = omega arith })

next_step : (k : ℕ) (probe : Probe) → search_in_range k (Probing probe) ≡ true → OneStep k (probe.reach - probe.next + 1) (next_probe probe)
unfolding next_probe searched_in_range answer_in_range searched_left search_left
next_step k probe h =
    cond_holds (OneStep k (probe.reach - probe.next + 1)) _ _ _
    (λ more.
    let below = ltb-true probe.next probe.reach more in
    record { fits = probing k probe.reach (probe.next + 1) (reach_high k probe h) (omega arith) (omega arith); less = omega arith })
    (λ last. record { fits = refl; less = omega arith })

pub probe_step : (k point : ℕ) (probe : Probe) (word : ℕ) → search_in_range k (Probing probe) ≡ true → OneStep k (probe.reach - probe.next + 1) (probe_advance point probe word)
unfolding probe_advance searched_in_range answer_in_range searched_left
probe_step k point probe word h =
    cond_holds (OneStep k (probe.reach - probe.next + 1)) (holds_point point word) _ _
    (λ hit.
    record {
      fits = is_within 1 probe.next k (next_low k probe h) (omega (arith, next_high k probe h, reach_high k probe h));
      less = omega arith;
    })
    (λ missed. next_step k probe h)

pub search_step : (k reach point : ℕ) (search : Search) (word : ℕ) → reach ≤ k → search_in_range k search ≡ true → OneStep k (search_left k search) (search_advance reach point search word)
unfolding search_advance search_left
search_step k reach point Unread word a h = let first = first_step k reach a in record { fits = first.fits; less = omega (arith, first.less) }
search_step k reach point (Probing probe) word a h = probe_step k point probe word h

-- the slot that an access names; 0 where it names none
unfoldable pub slot_read : ReadAccess → ℕ
slot_read Nothing = 0
slot_read Reach = 0
slot_read (Slot slot) = slot

pub search_inside : (m point : ℕ) (search : Search) → 1 ≤ m → slot_read (search_access m point search) < m
unfolding slot_read search_access
search_inside m point Unread h = h
search_inside m point (Probing probe) h = position_below m point probe.next h
