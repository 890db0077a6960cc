-- Laws of a reader's calls, for whoever reasons about orders of calls: a start or a step of one reader leaves everything else as it was, and keeps a record
-- in range; a lookup takes at most k + 1 steps and a walk exactly m, whatever the others do in between; a step reads one of the slots lent.
use Prim.Native.Nat.{ℕ, ◌+◌, ◌-◌, ◌≤◌, ◌<◌}
use mathlib.Core.Path.{◌≡◌, refl, ap, ◌∙◌}
use mathlib.Core.Bool.{true, not}
use mathlib.Core.List.{List, [], ◌∷◌}
use native.Mathlib.Omega.{arith}
use borrow.Author.Tests.{ltb-true, lt-ltb, not-false}
use lib.Dec.{ltb}
use lib.ListN.{length}
use Rattle.conditions.proofs.ConditionLaws.{both_left, both_right, both_true, cond_holds}
use Rattle.refusal.proofs.Laws.{not_refused}
use Rattle.record.specs.declared.Record.{Record}
use Rattle.record.specs.declared.Search.{Search}
use Rattle.record.specs.declared.Search.TheVariants.{Unread, Probing}
use Rattle.record.specs.declared.Lookup.{Lookup}
use Rattle.record.specs.declared.Walk.{Walk}
use Rattle.record.specs.declared.ReaderWork.{ReaderWork}
use Rattle.record.specs.declared.ReaderWork.TheVariants.{Idle, LookingUp, Walking}
use Rattle.record.specs.Parts.{work_of, with_work, with_readers}
use Rattle.record.proofs.WorkLaws.{others_stay}
use Rattle.slot_words.specs.Points.{valid_point}
use Rattle.counting.specs.declared.steps.OperationKind.TheVariants.{Lookup as Kind-as-Lookup}
use Rattle.counting.specs.Steps.{step_bound, lookup_counted, reader_counted}
use Rattle.work_ranges.specs.WorkRanges.{search_in_range, steps_in_range, lookup_in_range, work_in_range}
use Rattle.work_ranges.proofs.CountedRanges.{none_made, reader_counted_fits}
use Rattle.record_ranges.specs.Ranges.{in_range}
use Rattle.record_ranges.proofs.Laws.{fields, sizes_in_range_lem, work_in_range_lem, with_work_in_range}
use Rattle.search.specs.declared.access.ReadAccess.TheVariants.{Slot}
use Rattle.search.specs.declared.Searched.{Searched}
use Rattle.search.specs.declared.Searched.TheVariants.{Going, Answered}
use Rattle.answers.specs.Answers.{Answer, started, Outcome, outcome}
use Rattle.reader_step.specs.Reader.{reader_access, ReaderEffect, lookup_effect, lookup_advance, walk_advance, reader_advance, work_runs, after_step, reader_runs, step_refusal, step_reader}
use Rattle.reader_starts.specs.Starts.{new_lookup, new_walk, lookup_refusal, lookup_work_refusal, start_reader, start_lookup, start_walk}
use Rattle.reader_starts.specs.ReaderFacts.{OnlyWorkOf, Met, work_after, ReachWithin, at_end, at_step}
use Rattle.answers.proofs.AnswerLaws.{unless}
use Rattle.search.proofs.SearchLaws.{search_left, searched_left, searched_in_range, OneStep, search_step, slot_read, search_inside}

module _ (reader : ℕ) (panel : Record) (slots : List ℕ) where
  untouched : (answer : Answer) → OnlyWorkOf reader panel slots (outcome panel slots answer)
  untouched answer =
      record {
        slots_stay = refl;
        m_stays = refl;
        k_stays = refl;
        reach_stays = refl;
        counts_stay = refl;
        writer_stays = refl;
        stations_stay = refl;
        place_stays = refl;
        others_stay = λ other h. refl;
      }

  replaced : (work : ReaderWork) (answer : Answer) → OnlyWorkOf reader panel slots (outcome (with_work panel reader work) slots answer)
  unfolding with_work with_readers
  replaced work answer =
      record {
        slots_stay = refl;
        m_stays = refl;
        k_stays = refl;
        reach_stays = refl;
        counts_stay = refl;
        writer_stays = refl;
        stations_stay = refl;
        place_stays = refl;
        others_stay = λ other h. others_stay panel reader other work h;
      }

  pub step_leaves : OnlyWorkOf reader panel slots (step_reader panel slots reader)
  unfolding step_reader reader_runs after_step
  step_leaves = unless (OnlyWorkOf reader panel slots) (step_refusal (length slots) panel reader) (outcome panel slots) _ untouched (λ e. replaced _ _)

  start_leaves : (n : ℕ) (work : ReaderWork) → OnlyWorkOf reader panel slots (start_reader n panel slots reader work)
  unfolding start_reader
  start_leaves n work = unless (OnlyWorkOf reader panel slots) n (outcome panel slots) _ untouched (λ e. replaced work started)

  pub lookup_leaves : (point : ℕ) → OnlyWorkOf reader panel slots (start_lookup panel slots reader point)
  unfolding start_lookup
  lookup_leaves point = start_leaves _ _

  pub walk_leaves : OnlyWorkOf reader panel slots (start_walk panel slots reader)
  unfolding start_walk
  walk_leaves = start_leaves _ _

-- the steps that are left of a reader's work, at most; of a walk exactly
unfoldable pub steps_left : ℕ → ℕ → ReaderWork → ℕ
steps_left m k Idle = 0
steps_left m k (LookingUp lookup) = search_left k lookup.search
steps_left m k (Walking walk) = m - walk.next

-- after a step: in range, and a step less to go
pub record OneLess (m k left : ℕ) (work : ReaderWork) : Type 0 where
  pub is_in_range : work_in_range m k work ≡ true
  pub less : steps_left m k work ≤ left - 1

lookup_effect_lem : (m k left : ℕ) (lookup : Lookup) (after : Searched) → valid_point lookup.point ≡ true → steps_in_range Kind-as-Lookup k lookup.steps ≡ true → OneStep k left after → OneLess m k left (lookup_effect lookup after).work
unfolding lookup_effect work_in_range lookup_in_range searched_in_range searched_left steps_left
lookup_effect_lem m k left lookup (Going search) h made s =
    record { is_in_range = both_true (valid_point lookup.point) _ h (both_true (search_in_range k search) _ s.fits made); less = omega (arith, s.less) }
lookup_effect_lem m k left lookup (Answered answer) h made s = record { is_in_range = refl; less = omega arith }

walk_effect : (m k : ℕ) (walk : Walk) (word : ℕ) → OneLess m k (m - walk.next) (walk_advance m walk word).work
unfolding walk_advance work_in_range steps_left
walk_effect m k walk word =
    cond_holds (λ (effect : ReaderEffect). OneLess m k (m - walk.next) effect.work) (ltb (walk.next + 1) m) _ _
    (λ more. record { is_in_range = more; less = omega arith })
    (λ last. record { is_in_range = refl; less = omega arith })

pub advances : (m k reach : ℕ) (work : ReaderWork) (word : ℕ) → reach ≤ k → work_in_range m k work ≡ true → OneLess m k (steps_left m k work) (reader_advance m reach work word).work
unfolding reader_advance lookup_advance work_in_range lookup_in_range steps_left
advances m k reach Idle word h e = record { is_in_range = refl; less = omega arith }
advances m k reach (LookingUp lookup) word h e =
    let rest = both_right (valid_point lookup.point) _ e in
    lookup_effect_lem m k _ lookup _ (both_left (valid_point lookup.point) _ e) (both_right (search_in_range k lookup.search) _ rest)
    (search_step k reach lookup.point lookup.search word h (both_left (search_in_range k lookup.search) _ rest))
advances m k reach (Walking walk) word h e = walk_effect m k walk word

-- counting a step leaves how many are left
counted_left : (m k : ℕ) (work : ReaderWork) → steps_left m k (reader_counted k work) ≡ steps_left m k work
unfolding steps_left reader_counted lookup_counted
counted_left m k Idle = refl
counted_left m k (LookingUp lookup) = refl
counted_left m k (Walking walk) = refl

-- a step: counted, then made
pub steps_on : (m k reach : ℕ) (work : ReaderWork) (word : ℕ) → k ≤ 64 → reach ≤ k → work_in_range m k work ≡ true → OneLess m k (steps_left m k work) (reader_advance m reach (reader_counted k work) word).work
steps_on m k reach work word few h e =
    let one = advances m k reach (reader_counted k work) word h (reader_counted_fits m k work few e) in
    record { is_in_range = one.is_in_range; less = omega (arith, one.less, counted_left m k work) }

-- a lookup of a valid point that has read nothing yet is in range
pub begun_fits : (k point : ℕ) → valid_point point ≡ true → lookup_in_range k (record { point = point; search = Unread; steps = 0 }) ≡ true
unfolding lookup_in_range search_in_range
begun_fits k point valid = both_true (valid_point point) _ valid (both_true true _ refl (none_made Kind-as-Lookup k))

module _ (panel : Record) (slots : List ℕ) (reader : ℕ) (fits : in_range (length slots) panel ≡ true) where
  kept : Outcome → Type 0
  kept after = in_range (length slots) after.panel ≡ true

  pub step_in_range : in_range (length slots) (step_reader panel slots reader).panel ≡ true
  unfolding step_reader reader_runs after_step work_runs kept
  step_in_range =
      unless kept (step_refusal (length slots) panel reader) (outcome panel slots) _ (λ answer. fits)
      (λ e.
      with_work_in_range (length slots) panel fits reader _
      (steps_on panel.m panel.k panel.reach (work_of panel reader) _ (sizes_in_range_lem (length slots) panel fits).k_high (fields (length slots) panel fits).reach_fits
      (work_in_range_lem (length slots) panel reader fits)).is_in_range)

  start_in_range : (n : ℕ) (work : ReaderWork) → (n ≡ 0 → work_in_range panel.m panel.k work ≡ true) → in_range (length slots) (start_reader n panel slots reader work).panel ≡ true
  unfolding start_reader kept
  start_in_range n work h = unless kept n (outcome panel slots) _ (λ answer. fits) (λ e. with_work_in_range (length slots) panel fits reader work (h e))

  pub lookup_start_in_range : (point : ℕ) → in_range (length slots) (start_lookup panel slots reader point).panel ≡ true
  unfolding start_lookup lookup_refusal lookup_work_refusal work_in_range
  lookup_start_in_range point =
      start_in_range _ _
      (λ e.
      let after-1 = not_refused (not (in_range (length slots) panel)) 1 _ (omega arith) e in
      let after-3 = not_refused (ltb 15 reader) 3 _ (omega arith) after-1.1 in
      let after-2 = not_refused (not (valid_point point)) 2 _ (omega arith) after-3.1 in
      begun_fits panel.k point (not-false (valid_point point) after-2.0))

  pub walk_start_in_range : in_range (length slots) (start_walk panel slots reader).panel ≡ true
  unfolding start_walk work_in_range
  walk_start_in_range = start_in_range _ _ (λ e. lt-ltb 0 panel.m (omega (arith, (sizes_in_range_lem (length slots) panel fits).m_low)))

pub none_left : (m k : ℕ) (work : ReaderWork) → work_in_range m k work ≡ true → steps_left m k work ≤ 0 → work ≡ Idle
unfolding work_in_range steps_left search_left
none_left m k Idle e h = refl
none_left m k (LookingUp lookup) e h = absurd (go lookup.search h)
  where
    go : (search : Search) → search_left k search ≤ 0 → ⊥
    go Unread h = omega arith
    go (Probing probe) h = omega arith
none_left m k (Walking walk) e h = absurd (omega (arith, ltb-true walk.next m e))

-- work in range is done after as many steps as it has left
pub work_ends : (m k : ℕ) (work : ReaderWork) (met : List Met) → k ≤ 64 → work_in_range m k work ≡ true → ReachWithin k met → steps_left m k work ≤ length met → work_after m k work met ≡ Idle
unfolding work_after
work_ends m k work [] few e at_end h = none_left m k work e h
work_ends m k work (now ∷ rest) few e (at_step r rs) h =
    let after = steps_on m k now.reach work now.word few r e in
    work_ends m k (reader_advance m now.reach (reader_counted k work) now.word).work rest few after.is_in_range rs (omega (arith, after.less))

-- "read the reach r; then positions 1 to r": at most k + 1 steps
pub lookup_ends : (m k point : ℕ) (met : List Met) → k ≤ 64 → valid_point point ≡ true → ReachWithin k met → length met ≡ step_bound Kind-as-Lookup k → work_after m k (new_lookup point) met ≡ Idle
unfolding work_in_range steps_left search_left
lookup_ends m k point met few e r h = work_ends m k _ met few (begun_fits k point e) r (omega arith)

walk_goes_on : (m k i : ℕ) (met : List Met) → i + length met < m → work_after m k (Walking (record { next = i })) met ≡ Walking (record { next = i + length met })
unfolding work_after reader_advance walk_advance reader_counted
walk_goes_on m k i [] h = ap (λ (n : ℕ). Walking (record { next = n })) (omega arith)
walk_goes_on m k i (now ∷ rest) h =
    rw (lt-ltb (i + 1) m (omega arith))
    (walk_goes_on m k (i + 1) rest (omega arith) ∙ ap (λ (n : ℕ). Walking (record { next = n })) (omega arith))

idle_stays : (m k : ℕ) (met : List Met) → work_after m k Idle met ≡ Idle
unfolding work_after reader_advance reader_counted
idle_stays m k [] = refl
idle_stays m k (now ∷ rest) = idle_stays m k rest

walk_ends : (m k i : ℕ) (met : List Met) → 1 ≤ length met → i + length met ≡ m → work_after m k (Walking (record { next = i })) met ≡ Idle
unfolding work_after reader_advance walk_advance reader_counted
walk_ends m k i [] h e = absurd (omega arith)
walk_ends m k i (now ∷ rest) h e =
    cond_holds (λ (effect : ReaderEffect). work_after m k effect.work rest ≡ Idle) (ltb (i + 1) m) _ _
    (λ more. let below = ltb-true (i + 1) m more in walk_ends m k (i + 1) rest (omega arith) (omega arith))
    (λ last. idle_stays m k rest)

-- "slots 0 to m − 1, one a step, m steps": after fewer the walk is at the slot of that number
pub walk_underway : (m k : ℕ) (met : List Met) → length met < m → work_after m k new_walk met ≡ Walking (record { next = length met })
walk_underway m k met h = walk_goes_on m k 0 met (omega arith) ∙ ap (λ (n : ℕ). Walking (record { next = n })) (omega arith)

-- and the m-th ends it
pub walk_ended : (m k : ℕ) (met : List Met) → 1 ≤ m → length met ≡ m → work_after m k new_walk met ≡ Idle
walk_ended m k met h e = walk_ends m k 0 met (omega arith) (omega arith)

work_inside : (m k : ℕ) (work : ReaderWork) → 1 ≤ m → work_in_range m k work ≡ true → slot_read (reader_access m work) < m
unfolding slot_read reader_access work_in_range
work_inside m k Idle h e = h
work_inside m k (LookingUp lookup) h e = search_inside m lookup.point lookup.search h
work_inside m k (Walking walk) h e = ltb-true walk.next m e

-- "A step reads .. exactly one slot": one of the slots lent, so that the word read is a slot's
pub access_inside : (panel : Record) (slots : List ℕ) (reader slot : ℕ) → in_range (length slots) panel ≡ true → reader_access panel.m (work_of panel reader) ≡ Slot slot → slot < length slots
unfolding slot_read
access_inside panel slots reader slot fits e =
    let sizes = sizes_in_range_lem (length slots) panel fits in
    let inside = work_inside panel.m panel.k (work_of panel reader) sizes.m_low (work_in_range_lem (length slots) panel reader fits) in
    omega (arith, inside, sizes.whole, ap slot_read e)
