-- A whole lookup ends: its bound of steps suffices, on every record; and it leaves the record as it was. The number of readers is that of the machine's
-- array, which the definitions' lists do not carry.
use Rattle.std.specs.Prelude.{Option}
use Rattle.record.specs.declared.Place.{Place}
use Prim.Native.Nat.{ℕ, zero, suc, ◌+◌, ◌≤◌, ◌<◌}
use mathlib.Core.Path.{◌≡◌, refl, ap, ◌∙◌, sym, transport}
use mathlib.Core.Bool.{Bool, true, false, cond, not, false≢true}
use mathlib.Core.List.{List}
use native.Mathlib.Omega.{arith}
use borrow.Author.Tests.{ltb-false, le-ltb, not-true, not-false}
use lib.Dec.{ltb}
use lib.ListN.{length, length-set}
use Rattle.refusal.specs.Judging.{refuse_if}
use Rattle.refusal.proofs.Laws.{not_refused}
use Rattle.record.specs.declared.Record.{Record}
use Rattle.record.specs.declared.Search.{Search}
use Rattle.record.specs.declared.Search.TheVariants.{Unread}
use Rattle.record.specs.declared.Lookup.{Lookup}
use Rattle.record.specs.declared.Walk.{Walk}
use Rattle.record.specs.declared.ReaderWork.{ReaderWork}
use Rattle.record.specs.declared.ReaderWork.TheVariants.{Idle, LookingUp, Walking}
use Rattle.record.specs.Parts.{work_of, with_work, with_readers}
use Rattle.record.proofs.WorkLaws.{work_replaced, replaced_twice, same_work}
use Rattle.slot_words.specs.Points.{valid_point}
use Rattle.counting.specs.declared.steps.OperationKind.TheVariants.{Lookup as Kind-as-Lookup}
use Rattle.counting.specs.Steps.{step_bound, lookup_counted, reader_counted}
use Rattle.counting.proofs.StepLaws.{counted_one, reader_counted_idle}
use Rattle.work_ranges.specs.WorkRanges.{work_in_range, search_in_range}
use Rattle.record_ranges.specs.Ranges.{in_range}
use Rattle.record_ranges.proofs.Laws.{fields, sizes_in_range_lem, reach_high, work_in_range_lem, with_work_in_range}
use Rattle.reader_starts.specs.Starts.{new_lookup, lookup_work_refusal, lookup_refusal, start_reader, start_lookup}
use Rattle.whole_operations.specs.declared.searching.SearchEnd.{SearchEnd}
use Rattle.whole_operations.specs.Whole.{until_ended, reader_step, whole_lookup}
use Rattle.reader_starts.proofs.ReaderLaws.{steps_left, OneLess, steps_on, begun_fits, none_left}
use Rattle.whole_operations.specs.WholeFacts.{search_end}
use Rattle.whole_operations.proofs.WholeLaws.{budget_suffices, has_ended, same_step}
use Rattle.whole_operations.proofs.WholeSearch.{standing, search_comes}
use Rattle.search.specs.declared.Searched.{Searched}
use Rattle.search.specs.declared.Searched.TheVariants.{Going, Answered}
use Rattle.search.specs.Access.{word_read}
use Rattle.answers.specs.Answers.{completed, Answer, started, underway, refused, walked, walked_last, is_underway, Outcome, outcome, unless_refused, ended}
use Rattle.answers.proofs.AnswerLaws.{allowed_call}
use Rattle.search.specs.Search.{search_access, search_advance}
use Rattle.record.specs.Idle.{is_reader_idle}
use Rattle.reader_step.specs.Reader.{reader_access, ReaderEffect, lookup_ending, lookup_effect, lookup_advance, walk_advance, reader_advance, work_refusal, step_refusal, work_runs, after_step, reader_runs, step_reader}
use Rattle.search.proofs.SearchLaws.{search_left}

-- "A step that ends an operation .. leaves that party idle", and only such a step does
lookup_idle : (lookup : Lookup) (after : Searched) → is_underway (lookup_effect lookup after).answer ≡ not (is_reader_idle (lookup_effect lookup after).work)
unfolding lookup_effect
lookup_idle lookup (Going search) = refl
lookup_idle lookup (Answered answer) = refl

walk_idle : (m : ℕ) (walk : Walk) (word : ℕ) → is_underway (walk_advance m walk word).answer ≡ not (is_reader_idle (walk_advance m walk word).work)
unfolding walk_advance
walk_idle m walk word = go (ltb (walk.next + 1) m)
  where
    after : Bool → ReaderEffect
    after b = cond b (record { work = Walking (record { next = walk.next + 1 }); answer = walked word }) (record { work = Idle; answer = walked_last word })

    go : (b : Bool) → is_underway (after b).answer ≡ not (is_reader_idle (after b).work)
    go true = refl
    go false = refl

reader_idle : (m reach : ℕ) (work : ReaderWork) (word : ℕ) → is_reader_idle work ≡ false → is_underway (reader_advance m reach work word).answer ≡ not (is_reader_idle (reader_advance m reach work word).work)
unfolding reader_advance lookup_advance
reader_idle m reach Idle word e = absurd (false≢true (sym e))
reader_idle m reach (LookingUp lookup) word e = lookup_idle lookup (search_advance reach lookup.point lookup.search word)
reader_idle m reach (Walking walk) word e = walk_idle m walk word

-- what holds on the way: the record in range, the reader one of its readers, and at work exactly while its operation is underway
record AtWork (reader : ℕ) (now : Outcome) : Type 0 where
  pub fits : in_range (length now.slots) now.panel ≡ true
  pub known : reader ≤ 15
  pub held : reader < length now.panel.readers
  pub busy : is_underway now.answer ≡ not (is_reader_idle (work_of now.panel reader))

left : ℕ → Outcome → ℕ
left reader now = steps_left now.panel.m now.panel.k (work_of now.panel reader)

-- a reader at work has a step left
some_left : (m k : ℕ) (work : ReaderWork) → work_in_range m k work ≡ true → is_reader_idle work ≡ false → 1 ≤ steps_left m k work
some_left m k work fits e = go (steps_left m k work) refl
  where
    go : (n : ℕ) → steps_left m k work ≡ n → 1 ≤ steps_left m k work
    go zero q = absurd (false≢true (sym e ∙ ap is_reader_idle (none_left m k work fits (omega arith))))
    go (suc n) q = omega arith

-- one step of a reader at work, with its effect
module _ (reader : ℕ) (panel : Record) (slots : List ℕ) (fits : in_range (length slots) panel ≡ true) (known : reader ≤ 15) (held : reader < length panel.readers) (works : is_reader_idle (work_of panel reader) ≡ false) where
  effect : ReaderEffect
  effect = work_runs panel.m panel.reach (reader_counted panel.k (work_of panel reader)) slots

  allowed : step_reader panel slots reader ≡ outcome (with_work panel reader effect.work) slots effect.answer
  unfolding step_reader step_refusal work_refusal refuse_if unless_refused reader_runs after_step effect
  allowed = rw (fits, le-ltb 15 reader (omega arith), works)

  replaced : work_of (with_work panel reader effect.work) reader ≡ effect.work
  replaced = work_replaced panel reader effect.work held

  one : OneLess panel.m panel.k (steps_left panel.m panel.k (work_of panel reader)) effect.work
  unfolding effect work_runs
  one =
      steps_on panel.m panel.k panel.reach (work_of panel reader) _ (sizes_in_range_lem (length slots) panel fits).k_high (fields (length slots) panel fits).reach_fits
      (work_in_range_lem (length slots) panel reader fits)

  at_work : AtWork reader (outcome (with_work panel reader effect.work) slots effect.answer)
  unfolding with_work with_readers effect work_runs
  at_work =
      record {
        fits = with_work_in_range (length slots) panel fits reader effect.work one.is_in_range;
        known = known;
        held = omega (arith, length-set panel.readers reader (record { work = effect.work }));
        busy = reader_idle panel.m panel.reach (reader_counted panel.k (work_of panel reader)) _ (reader_counted_idle panel.k (work_of panel reader) ∙ works) ∙ ap (λ (w : ReaderWork). not (is_reader_idle w)) (sym replaced);
      }

  less : left reader (outcome (with_work panel reader effect.work) slots effect.answer) + 1 ≤ left reader (outcome panel slots started)
  unfolding left with_work with_readers
  less =
      let after = ap (steps_left panel.m panel.k) replaced in
      omega (arith, after, one.less, some_left panel.m panel.k (work_of panel reader) (work_in_range_lem (length slots) panel reader fits) works)

takes_one : (reader : ℕ) (now : Outcome) → AtWork reader now → is_underway now.answer ≡ true → AtWork reader (reader_step reader now) × (left reader (reader_step reader now) + 1 ≤ left reader now)
unfolding reader_step left
takes_one reader now p e =
    let works = not-true (is_reader_idle (work_of now.panel reader)) (sym p.busy ∙ e) in
    let same = sym (allowed reader now.panel now.slots p.fits p.known p.held works) in (
      transport (λ j. AtWork reader (same j)) (at_work reader now.panel now.slots p.fits p.known p.held works),
      transport (λ j. left reader (same j) + 1 ≤ left reader now) (less reader now.panel now.slots p.fits p.known p.held works),
    )

stays_at_work : (reader : ℕ) (now : Outcome) → AtWork reader now → is_underway now.answer ≡ true → AtWork reader (reader_step reader now)
stays_at_work reader now p e = (takes_one reader now p e).0

-- a step of the record with this work put into it, from what the three parts of the step come to for this work
module _ (panel : Record) (slots : List ℕ) (reader : ℕ) where
  abbrev beside : ReaderWork → ReaderEffect
  beside work = work_runs panel.m panel.reach (reader_counted panel.k work) slots

  step_beside : (work : ReaderWork) (answer : Answer) → AtWork reader (outcome (with_work panel reader work) slots answer) → is_underway answer ≡ true → reader_step reader (outcome (with_work panel reader work) slots answer) ≡ outcome (with_work panel reader (beside work).work) slots (beside work).answer
  unfolding reader_step with_work with_readers effect
  step_beside work answer p e =
      let works = not-true (is_reader_idle (work_of (with_work panel reader work) reader)) (sym p.busy ∙ e) in
      let same = work_replaced panel reader work (omega (arith, p.held, length-set panel.readers reader (record { work = work }))) in
      allowed reader (with_work panel reader work) slots p.fits p.known p.held works
      ∙ ap (λ (w : ReaderWork). outcome (with_work (with_work panel reader work) reader (beside w).work) slots (beside w).answer) same
      ∙ ap (λ (after : Record). outcome after slots (beside work).answer) (replaced_twice panel reader work (beside work).work)

-- a reader that is given work
given_work_lem : (panel : Record) (slots : List ℕ) (reader : ℕ) (work : ReaderWork) (answer : Answer) → in_range (length slots) (with_work panel reader work) ≡ true → reader ≤ 15 → length panel.readers ≡ 16 → is_reader_idle work ≡ false → is_underway answer ≡ true → AtWork reader (outcome (with_work panel reader work) slots answer)
unfolding with_work with_readers
given_work_lem panel slots reader work answer fits known sixteen works e =
    record {
      fits = fits;
      known = known;
      held = omega (arith, length-set panel.readers reader (record { work = work }));
      busy = e ∙ ap not (sym works) ∙ ap (λ (w : ReaderWork). not (is_reader_idle w)) (sym (work_replaced panel reader work (omega arith)));
    }

idle_work : (work : ReaderWork) → is_reader_idle work ≡ true → work ≡ Idle
idle_work Idle e = refl
idle_work (LookingUp lookup) e = absurd (false≢true e)
idle_work (Walking walk) e = absurd (false≢true e)

-- a lookup that has been started: in range, with as many steps to go as its bound
module _ (panel : Record) (slots : List ℕ) (reader point : ℕ) (e : lookup_refusal (length slots) panel reader point ≡ 0) where
  work : ReaderWork
  work = new_lookup point

  judged : (in_range (length slots) panel ≡ true) × (reader ≤ 15) × (valid_point point ≡ true) × (work_of panel reader ≡ Idle)
  unfolding lookup_refusal lookup_work_refusal
  judged =
      let after-1 = not_refused (not (in_range (length slots) panel)) 1 _ (omega arith) e in
      let after-3 = not_refused (ltb 15 reader) 3 _ (omega arith) after-1.1 in
      let after-2 = not_refused (not (valid_point point)) 2 _ (omega arith) after-3.1 in
      let after-4 = not_refused (not (is_reader_idle (work_of panel reader))) 4 0 (omega arith) after-2.1 in (
        not-false (in_range (length slots) panel) after-1.0,
        omega (arith, ltb-false 15 reader after-3.0),
        not-false (valid_point point) after-2.0,
        idle_work (work_of panel reader) (not-false (is_reader_idle (work_of panel reader)) after-4.0),
      )

  known_reader : reader ≤ 15
  known_reader = judged.1

  started_fits : in_range (length slots) (with_work panel reader (new_lookup point)) ≡ true
  unfolding work_in_range
  started_fits = with_work_in_range (length slots) panel judged.0 reader _ (begun_fits panel.k point judged.2)

  begins : length panel.readers ≡ 16 → AtWork reader (outcome (with_work panel reader work) slots started)
  unfolding work
  begins sixteen = given_work_lem panel slots reader work started started_fits known_reader sixteen refl refl

  begins_with : length panel.readers ≡ 16 → left reader (outcome (with_work panel reader work) slots started) ≤ step_bound Kind-as-Lookup panel.k
  unfolding left with_work with_readers work steps_left search_left
  begins_with sixteen = omega (arith, ap (steps_left panel.m panel.k) (work_replaced panel reader work (omega (arith, known_reader))))

-- "ending on the point's slot with its value, else after the r-th with 7"
pub whole_lookup_ends : (panel : Record) (slots : List ℕ) (reader point : ℕ) → length panel.readers ≡ 16 → is_underway (whole_lookup panel slots reader point).answer ≡ false
unfolding whole_lookup start_lookup start_reader unless_refused work
whole_lookup_ends panel slots reader point h = go (lookup_refusal (length slots) panel reader point) refl
  where
    go : (n : ℕ) → lookup_refusal (length slots) panel reader point ≡ n → is_underway (until_ended (reader_step reader) (step_bound Kind-as-Lookup panel.k) (unless_refused n (outcome panel slots) (outcome (with_work panel reader (new_lookup point)) slots started))).answer ≡ false
    go zero e =
        budget_suffices (reader_step reader) (AtWork reader) (left reader) (takes_one reader) (step_bound Kind-as-Lookup panel.k)
        (outcome (with_work panel reader (work panel slots reader point e)) slots started) (begins panel slots reader point e h)
        (begins_with panel slots reader point e h)
    go (suc n) e = ap (λ (after : Outcome). is_underway after.answer) (has_ended (reader_step reader) (step_bound Kind-as-Lookup panel.k) (outcome panel slots (refused (suc n))) refl)

-- ---- a whole lookup from its search: the reader is idle again, so the record is what it was
module _ (panel : Record) (slots : List ℕ) (reader point : ℕ) (sixteen : length panel.readers ≡ 16) (e : lookup_refusal (length slots) panel reader point ≡ 0) where
  abbrev looking : ℕ → Search → Lookup
  looking steps search = record { point = point; search = search; steps = steps }

  -- the lookup with this search underway, and after the step that answers it
  abbrev going : ℕ → Search → Outcome
  going steps search = outcome (with_work panel reader (LookingUp (looking steps search))) slots underway

  abbrev answered : ℕ → Option Place → Outcome
  answered steps answer = outcome (with_work panel reader Idle) slots (ended (completed (lookup_ending answer) steps))

  as_it_stands : (steps : ℕ) (search : Search) (stands : Searched) → outcome (with_work panel reader (lookup_effect (looking steps search) stands).work) slots (lookup_effect (looking steps search) stands).answer ≡ standing (going steps) (answered steps) stands
  unfolding lookup_effect
  as_it_stands steps search (Going next) = refl
  as_it_stands steps search (Answered answer) = refl

  few : panel.k ≤ 64
  few = (sizes_in_range_lem (length slots) panel (judged panel slots reader point e).0).k_high

  -- a step of the search counts as one
  counts_one : (steps : ℕ) (search : Search) → steps ≤ panel.k → lookup_counted panel.k (looking steps search) ≡ looking (steps + 1) search
  unfolding lookup_counted
  counts_one steps search h = ap (λ (n : ℕ). looking n search) (counted_one Kind-as-Lookup panel.k steps few (omega arith))

  takes : (steps : ℕ) (search : Search) → steps ≤ panel.k → AtWork reader (going steps search) → reader_step reader (going steps search) ≡ standing (going (steps + 1)) (answered (steps + 1)) (search_advance panel.reach point search (word_read slots (search_access panel.m point search)))
  unfolding work_runs reader_counted reader_advance lookup_advance reader_access
  takes steps search h p =
      step_beside panel slots reader (LookingUp (looking steps search)) underway p refl
      ∙ ap (λ (lookup : Lookup). outcome (with_work panel reader (lookup_effect_lem lookup).work) slots (lookup_effect_lem lookup).answer) (counts_one steps search h)
      ∙ as_it_stands (steps + 1) search (search_advance panel.reach point search (word_read slots (search_access panel.m point search)))
    where
      lookup_effect_lem : Lookup → ReaderEffect
      lookup_effect_lem lookup = lookup_effect lookup (search_advance panel.reach lookup.point lookup.search (word_read slots (search_access panel.m lookup.point lookup.search)))

  -- whether the call before said "started" or "underway" makes no difference
  same_start : until_ended (reader_step reader) (step_bound Kind-as-Lookup panel.k) (going 0 Unread) ≡ whole_lookup panel slots reader point
  unfolding whole_lookup start_lookup start_reader reader_step
  same_start =
      let begun = outcome (with_work panel reader (new_lookup point)) slots started in
      same_step (reader_step reader) (step_bound Kind-as-Lookup panel.k) (going 0 Unread) begun (omega arith) refl refl refl
      ∙ ap (until_ended (reader_step reader) (step_bound Kind-as-Lookup panel.k)) (sym (ap (λ (n : ℕ). unless_refused n (outcome panel slots) begun) e ∙ allowed_call (outcome panel slots) begun))

  -- what the search comes to, as the lookup's answer
  abbrev answer_of : SearchEnd → Answer
  answer_of found = ended (completed (lookup_ending found.answer) found.steps)

  pub looks_up : outcome panel slots (answer_of (search_end slots panel.m point panel.reach (suc panel.reach) 0 Unread)) ≡ whole_lookup panel slots reader point
  unfolding search_in_range search_left
  looks_up =
      let found = search_end slots panel.m point panel.reach (suc panel.reach) 0 Unread in
      let bound = step_bound Kind-as-Lookup panel.k in
      let reach-low = (fields (length slots) panel (judged panel slots reader point e).0).reach_fits in
      let at_work = given_work_lem panel slots reader (new_lookup point) underway (started_fits panel slots reader point e) (known_reader panel slots reader point e) sixteen refl refl in
      let ends = ap (λ (now : Outcome). is_underway now.answer) same_start ∙ whole_lookup_ends panel slots reader point sixteen in
      let comes =
      search_comes (reader_step reader) (AtWork reader) slots panel.m point panel.reach panel.k (stays_at_work reader) going answered (λ steps search. refl) takes
      (suc panel.reach) 0 Unread bound at_work refl (omega arith) (omega arith) ends in
      ap (λ (after : Record). outcome after slots (answer_of found)) (sym (same_work panel reader Idle (judged panel slots reader point e).3))
      ∙ sym (has_ended (reader_step reader) bound (answered found.steps found.answer) refl)
      ∙ sym comes.same
      ∙ same_start

  pub reach_fits : panel.reach ≤ 64
  reach_fits = reach_high (length slots) panel (judged panel slots reader point e).0
