-- What is true of a reader between two calls, by its work and what is noted of it: a lookup knows of its point's row, or the row was absent at one of its moments;
-- a walk has reported once each row that it has passed, or the row was absent at one of its moments. Every call of the others keeps this, and the reader's own step
-- keeps it and answers right.
use Rattle.std.specs.Prelude.{Some, None}
use Prim.Native.Nat.{ℕ, ◌+◌, ◌-◌, ◌≤◌, ◌<◌}
use mathlib.Core.Bool.{Bool, true, false, cond, false≢true}
use mathlib.Core.Path.{◌≡◌, refl, sym, ap, subst, ◌∙◌}
use mathlib.Core.Logic.{◌⊎◌, inl, inr, ◌≢◌}
use mathlib.Core.List.{List, [], ◌∷◌}
use native.Mathlib.Omega.{arith}
use borrow.Author.Tests.{eqb-true, eqb-false, eq-eqb, ne_eqb, ltb-true, ltb-false}
use lib.Dec.{eqb, ltb}
use lib.ListN.{get_or}
use Rattle.conditions.proofs.ConditionLaws.{both_left, both_right, cond_holds}
use Rattle.slot_words.specs.Word.{point_of}
use Rattle.record.specs.declared.Lookup.{Lookup}
use Rattle.record.specs.declared.Walk.{Walk}
use Rattle.record.specs.declared.Search.{Search}
use Rattle.record.specs.declared.Search.TheVariants.{Unread, Probing}
use Rattle.record.specs.declared.ReaderWork.{ReaderWork}
use Rattle.record.specs.declared.ReaderWork.TheVariants.{Idle, LookingUp, Walking}
use Rattle.slot_words.specs.Points.{valid_point}
use Rattle.counting.specs.declared.steps.OperationKind.TheVariants.{Lookup as Kind-as-Lookup}
use Rattle.counting.specs.Steps.{step_bound, step_counted, lookup_counted, reader_counted}
use Rattle.counting.proofs.StepLaws.{counted_one}
use Rattle.work_ranges.specs.WorkRanges.{search_in_range, lookup_in_range, work_in_range}
use Rattle.answers.specs.Answers.{has_ended, is_refused}
use Rattle.plain_list.specs.PlainList.{Rows, Entry, absent, present, entry_of, lookup_entry, lookup_row, Each, Some as SomeOf, here, there}
use Rattle.plain_list.proofs.RowLaws.{Steady, steady_same}
use Rattle.plain_list.proofs.Agreement.{valid_low, Agrees, place_low, shown_row, row_shown, word_row}
use Rattle.search.specs.declared.Searched.{Searched}
use Rattle.search.specs.declared.Searched.TheVariants.{Going, Answered}
use Rattle.search.specs.Access.{word_read}
use Rattle.search.specs.Search.{search_access, search_advance}
use Rattle.search.proofs.SearchLaws.{search_left, some_left, searched_left, OneStep, search_step}
use Rattle.search.proofs.TrailLaws.{Trail, Knows, search_knows, trail_after}
use Rattle.record.specs.Idle.{is_reader_idle}
use Rattle.reader_step.specs.Reader.{reader_access, ReaderEffect, lookup_ending, lookup_effect, lookup_advance, walk_advance, reader_advance, work_runs}
use Rattle.history.specs.Log.{Reading, idle, looking_up, walking, served_by}
use Rattle.history.specs.World.{ReaderNotes, no_reader_notes, word_given, stepped_reader, witnessed}
use Rattle.history.specs.Claim.{WordRight, reports, ReportedOnce, ReaderRight, lookup_underway, lookup_ended, walk_underway, walk_ended}

-- the point was on no row at one of these moments
abbrev pub Missed : ℕ → List Rows → Type 0
Missed q moments = SomeOf (λ (rows : Rows). entry_of q rows ≡ absent) moments

-- a search past its first step has made one
abbrev pub FirstMade : Search → ℕ → Type 0
FirstMade Unread steps = Unit {0}
FirstMade (Probing probe) steps = 1 ≤ steps

pub record LookingOK (m k : ℕ) (rows : Rows) (notes : ReaderNotes) (point : ℕ) (search : Search) (steps : ℕ) : Type 0 where
  pub trail : Trail (Missed point notes.moments) m k point rows search
  pub first : FirstMade search notes.steps
  pub left : notes.steps + search_left k search ≤ step_bound Kind-as-Lookup k
  -- the steps that the work counts are those noted
  pub counted : steps ≡ notes.steps

-- the point's row is at a place, and has been reported once if the walk is past it
pub record Passed (q : ℕ) (rows : Rows) (next : ℕ) (words : List ℕ) : Type 0 where
  pub value : ℕ
  pub place : ℕ
  pub found : entry_of q rows ≡ present value place
  pub told : reports q words ≡ cond (ltb place next) 1 0

pub record WalkingOK (rows : Rows) (notes : ReaderNotes) (next : ℕ) : Type 0 where
  pub steps : notes.steps ≡ next
  pub first : next ≡ 0 → notes.words ≡ []
  pub passed : 1 ≤ next → (q : ℕ) → 1 ≤ q → Missed q notes.moments ⊎ Passed q rows next notes.words

-- a reader with this work
abbrev pub ReaderOK : ℕ → ℕ → Rows → ReaderNotes → ReaderWork → Type 0
ReaderOK m k rows notes Idle = notes ≡ no_reader_notes
ReaderOK m k rows notes (LookingUp lookup) = LookingOK m k rows notes lookup.point lookup.search lookup.steps
ReaderOK m k rows notes (Walking walk) = WalkingOK rows notes walk.next

-- what a reader with this work has underway
abbrev pub reading_of : ReaderWork → Reading
reading_of Idle = idle
reading_of (LookingUp lookup) = looking_up lookup.point
reading_of (Walking walk) = walking

module _ (notes : ReaderNotes) (rows : Rows) where
  pub not_begun : notes.steps ≡ 0 → witnessed notes rows ≡ notes
  unfolding witnessed
  not_begun e = rw (eq-eqb notes.steps 0 e)

  pub moment_more : 1 ≤ notes.steps → witnessed notes rows ≡ record { steps = notes.steps; moments = rows ∷ notes.moments; words = notes.words }
  unfolding witnessed
  moment_more h = rw (ne_eqb notes.steps 0 (omega arith))

  pub steps_stay : (witnessed notes rows).steps ≡ notes.steps
  unfolding witnessed
  steps_stay = go (eqb notes.steps 0)
    where
      go : (b : Bool) → (cond {A = ReaderNotes} b notes (record { steps = notes.steps; moments = rows ∷ notes.moments; words = notes.words })).steps ≡ notes.steps
      go true = refl
      go false = refl

-- a call of another party
module _ (m k : ℕ) (rows after : Rows) (notes : ReaderNotes) (steady : Steady rows after) where
  looking_on : (point : ℕ) (search : Search) (steps : ℕ) → LookingOK m k rows notes point search steps → LookingOK m k after (witnessed notes after) point search steps
  looking_on point Unread steps h =
      record {
        trail = tt;
        first = tt;
        left = omega (arith, h.left, steps_stay notes after);
        counted = omega (arith, h.counted, steps_stay notes after);
      }
  looking_on point (Probing probe) steps h =
      subst (λ (n : ReaderNotes). LookingOK m k after n point (Probing probe) steps) (sym (moment_more notes after h.first))
      (record {
        trail = trail_after (Missed point notes.moments) (Missed point (after ∷ notes.moments)) m k point rows after steady there here (Probing probe) h.trail;
        first = h.first;
        left = h.left;
        counted = h.counted;
      })

  passed_on : (q next : ℕ) → Missed q notes.moments ⊎ Passed q rows next notes.words → (entry : Entry) → entry_of q after ≡ entry → Missed q (after ∷ notes.moments) ⊎ Passed q after next notes.words
  passed_on q next (inl missed) entry e = inl (there missed)
  passed_on q next (inr p) absent e = inl (here e)
  passed_on q next (inr p) (present value place) e =
      inr
      (record {
        value = value;
        place = place;
        found = e;
        told = subst (λ (x : ℕ). reports q notes.words ≡ cond (ltb x next) 1 0) (steady q p.value p.place value place p.found e) p.told;
      })

  walking_on : (next : ℕ) → WalkingOK rows notes next → WalkingOK after (witnessed notes after) next
  walking_on next h = go (eqb next 0) refl
    where
      go : (b : Bool) → eqb next 0 ≡ b → WalkingOK after (witnessed notes after) next
      go true e =
          let z = eqb-true next 0 e in
          subst (λ (n : ReaderNotes). WalkingOK after n next) (sym (not_begun notes after (h.steps ∙ z)))
          (record { steps = h.steps; first = h.first; passed = λ some. absurd (omega arith) })
      go false e =
          let some = eqb-false next 0 e in
          subst (λ (n : ReaderNotes). WalkingOK after n next) (sym (moment_more notes after (omega (arith, h.steps))))
          (record {
            steps = h.steps;
            first = h.first;
            passed = λ begun q low. passed_on q next (h.passed begun q low) (entry_of q after) refl;
          })

  pub reader_on : (work : ReaderWork) → ReaderOK m k rows notes work → ReaderOK m k after (witnessed notes after) work
  unfolding no_reader_notes
  reader_on Idle h = not_begun notes after (ap (λ (n : ReaderNotes). n.steps) h) ∙ h
  reader_on (LookingUp lookup) h = looking_on lookup.point lookup.search lookup.steps h
  reader_on (Walking walk) h = walking_on walk.next h

some_map : {A : Type 0} {P Q : A → Type 0} → ((x : A) → P x → Q x) → (l : List A) → SomeOf P l → SomeOf Q l
some_map f l (here {x = x} p) = here (f x p)
some_map f l (there {rest = rest} p) = there (some_map f rest p)

-- what a reader's own step comes to: it is in order, and its answer is right
pub record StepRight (m k : ℕ) (slots : List ℕ) (rows : Rows) (notes : ReaderNotes) (work : ReaderWork) (effect : ReaderEffect) : Type 0 where
  pub ok : ReaderOK m k rows (cond (has_ended effect.answer) no_reader_notes (stepped_reader notes effect.answer rows)) effect.work
  pub right : ReaderRight m k slots rows (stepped_reader notes effect.answer rows) (reading_of work) effect.answer
  pub reading : cond (has_ended effect.answer) idle (reading_of work) ≡ reading_of effect.work
  pub carried : is_refused effect.answer ≡ false
  -- it is no turn
  pub direct : served_by effect.answer ≡ []

module _ (m k reach : ℕ) (counts slots : List ℕ) (rows : Rows) (agrees : Agrees m k reach counts slots rows) (notes : ReaderNotes) where
  -- a lookup's step
  module _ (lookup : Lookup) (valid : valid_point lookup.point ≡ true) (fits : search_in_range k lookup.search ≡ true) (ok : LookingOK m k rows notes lookup.point lookup.search lookup.steps) where
    abbrev point : ℕ
    point = lookup.point

    abbrev search : Search
    search = lookup.search

    abbrev word : ℕ
    word = word_read slots (search_access m point search)

    abbrev moments : List Rows
    moments = rows ∷ notes.moments

    knows : Knows (Missed point moments) m k point rows (search_advance reach point search word)
    knows =
        search_knows (Missed point moments) m k reach counts slots rows agrees point (valid_low point valid) here search fits
        (trail_after (Missed point notes.moments) (Missed point moments) m k point rows rows (steady_same rows) there here search ok.trail)

    first_made : (s : Search) → FirstMade s (notes.steps + 1)
    first_made Unread = tt
    first_made (Probing probe) = omega arith

    -- the step is counted as one more than those noted
    one_counted : step_counted Kind-as-Lookup k lookup.steps ≡ notes.steps + 1
    one_counted = counted_one Kind-as-Lookup k lookup.steps agrees.few_indices (omega (arith, ok.counted, ok.left, some_left k search)) ∙ ap (λ (n : ℕ). n + 1) ok.counted

    effect_right : (after : Searched) → Knows (Missed point moments) m k point rows after → OneStep k (search_left k search) after → StepRight m k slots rows notes (LookingUp lookup) (lookup_effect (lookup_counted k lookup) after)
    unfolding lookup_counted lookup_effect lookup_ending stepped_reader searched_left lookup_row lookup_entry
    effect_right (Going s) known one =
        record {
          ok =
              record {
                trail = known;
                first = first_made s;
                left = omega (arith, ok.left, one.less);
                counted = one_counted;
              };
          right = lookup_underway (omega (arith, ok.left, one.less, some_left k s));
          reading = refl;
          carried = refl;
          direct = refl;
        }
    effect_right (Answered (Some place)) known one =
        record {
          ok = refl;
          right =
              lookup_ended _
              (record {
                one_moment = here (sym (ap lookup_entry known.found));
                in_time = omega (arith, ok.left, one.less);
                counted = one_counted;
              });
          reading = refl;
          carried = refl;
          direct = refl;
        }
    effect_right (Answered None) known one =
        record {
          ok = refl;
          right =
              lookup_ended _
              (record {
                one_moment = some_map (λ (then : Rows) e. sym (ap lookup_entry e)) moments known;
                in_time = omega (arith, ok.left, one.less);
                counted = one_counted;
              });
          reading = refl;
          carried = refl;
          direct = refl;
        }

    pub lookup_right : StepRight m k slots rows notes (LookingUp lookup) (lookup_effect (lookup_counted k lookup) (search_advance reach point search word))
    lookup_right = effect_right (search_advance reach point search word) knows (search_step k reach point search word agrees.reach_high fits)

  -- a walk's step
  module _ (walk : Walk) (inside : walk.next < m) (ok : WalkingOK rows notes walk.next) where
    abbrev next : ℕ
    next = walk.next

    abbrev read : ℕ
    read = get_or slots next 0

    report : WordRight slots rows next read
    report = record { read = refl; true_when_read = λ some. word_row m k reach counts slots rows agrees next inside some }

    -- the row that stands in the slot read is reported now, and no other
    passed_more : (q : ℕ) → 1 ≤ q → Passed q rows next notes.words → Passed q rows (next + 1) (read ∷ notes.words)
    unfolding reports
    passed_more q low p =
        record {
          value = p.value;
          place = p.place;
          found = p.found;
          told = go (eqb (point_of read) q) refl (ltb p.place next) refl (ltb p.place (next + 1)) refl p.told;
        }
      where
        shown_here : (a : Bool) → ltb p.place next ≡ a → (b : Bool) → ltb p.place (next + 1) ≡ b → reports q notes.words ≡ cond a 1 0 → p.place ≡ next → 1 + reports q notes.words ≡ cond b 1 0
        shown_here true e b f h same = absurd (omega (arith, ltb-true p.place next e))
        shown_here false e true f h same = omega arith
        shown_here false e false f h same = absurd (omega (arith, ltb-false p.place (next + 1) f))

        go : (now : Bool) → eqb (point_of read) q ≡ now → (a : Bool) → ltb p.place next ≡ a → (b : Bool) → ltb p.place (next + 1) ≡ b → reports q notes.words ≡ cond a 1 0 → cond now 1 0 + reports q notes.words ≡ cond b 1 0
        go true e a f b g h =
            let shown = shown_row m k reach counts slots rows agrees q next low inside (eqb-true (point_of read) q e) in
            let found = p.found in
            let same : p.place ≡ next = cc in
            shown_here a f b g h same
        go false e true f true g h = omega arith
        go false e true f false g h = absurd (omega (arith, ltb-true p.place next f, ltb-false p.place (next + 1) g))
        go false e false f false g h = omega arith
        go false e false f true g h =
            let same : p.place ≡ next = omega (arith, ltb-false p.place next f, ltb-true p.place (next + 1) g) in
            absurd (eqb-false (point_of read) q e (subst (λ (x : ℕ). point_of (get_or slots x 0) ≡ q) same (row_shown m k reach counts slots rows agrees q p.value p.place p.found)))

    -- before the first step nothing is passed
    passed_none : (q : ℕ) → next ≡ 0 → (entry : Entry) → entry_of q rows ≡ entry → Missed q (rows ∷ notes.moments) ⊎ Passed q rows next notes.words
    unfolding reports
    passed_none q z absent e = inl (here e)
    passed_none q z (present value place) e =
        inr (record { value = value; place = place; found = e; told = ap (reports q) (ok.first z) ∙ none (ltb place next) refl })
      where
        none : (b : Bool) → ltb place next ≡ b → 0 ≡ cond {A = ℕ} b 1 0
        none true f = absurd (omega (arith, ltb-true place next f))
        none false f = refl

    passed_so_far : (q : ℕ) → 1 ≤ q → (b : Bool) → eqb next 0 ≡ b → Missed q (rows ∷ notes.moments) ⊎ Passed q rows next notes.words
    passed_so_far q low true e = passed_none q (eqb-true next 0 e) (entry_of q rows) refl
    passed_so_far q low false e =
        let some = eqb-false next 0 e in
        passed_on m k rows rows notes (steady_same rows) q next (ok.passed (omega arith) q low) (entry_of q rows) refl

    passed_now : (q : ℕ) → 1 ≤ q → Missed q (rows ∷ notes.moments) ⊎ Passed q rows (next + 1) (read ∷ notes.words)
    passed_now q low = go (passed_so_far q low (eqb next 0) refl)
      where
        go : Missed q (rows ∷ notes.moments) ⊎ Passed q rows next notes.words → Missed q (rows ∷ notes.moments) ⊎ Passed q rows (next + 1) (read ∷ notes.words)
        go (inl missed) = inl missed
        go (inr p) = inr (passed_more q low p)

    never_missed : (q : ℕ) (moments : List Rows) → Each (λ (then : Rows). entry_of q then ≢ absent) moments → Missed q moments → ⊥
    never_missed q moments each (here e) = each.0 e
    never_missed q moments each (there {rest = rest} missed) = never_missed q rest each.1 missed

    on_list_low : (q : ℕ) (entry : Entry) → entry_of q rows ≡ entry → entry_of q rows ≢ absent → 1 ≤ q
    on_list_low q absent e some = absurd (some e)
    on_list_low q (present value place) e some = valid_low q (agrees.held q value place e).valid

    -- with the last slot read, each row that was there throughout has been reported once
    once : m ≡ next + 1 → (q : ℕ) → Each (λ (then : Rows). entry_of q then ≢ absent) (rows ∷ notes.moments) → reports q (read ∷ notes.words) ≡ 1
    once last q each = go (passed_now q (on_list_low q (entry_of q rows) refl each.0))
      where
        all_passed : (p : Passed q rows (next + 1) (read ∷ notes.words)) (b : Bool) → ltb p.place (next + 1) ≡ b → reports q (read ∷ notes.words) ≡ cond b 1 0 → reports q (read ∷ notes.words) ≡ 1
        all_passed p true e h = h
        all_passed p false e h =
            let held = agrees.held q p.value p.place p.found in
            let low = place_low m k reach counts slots rows agrees q p.place held.index held.lowest in
            absurd (omega (arith, ltb-false p.place (next + 1) e, low))

        go : Missed q (rows ∷ notes.moments) ⊎ Passed q rows (next + 1) (read ∷ notes.words) → reports q (read ∷ notes.words) ≡ 1
        go (inl missed) = absurd (never_missed q (rows ∷ notes.moments) each missed)
        go (inr p) = all_passed p (ltb p.place (next + 1)) refl p.told

    report_at : WordRight slots rows (notes.steps + 1 - 1) read
    report_at = subst (λ (slot : ℕ). WordRight slots rows slot read) (omega (arith, ok.steps)) report

    pub walk_right : StepRight m k slots rows notes (Walking walk) (walk_advance m walk read)
    unfolding walk_advance stepped_reader word_given ReportedOnce
    walk_right =
        cond_holds (StepRight m k slots rows notes (Walking walk)) (ltb (next + 1) m) _ _
        (λ more.
        record {
          ok =
              record {
                steps = omega (arith, ok.steps);
                first = λ z. absurd (omega arith);
                passed = λ begun q low. passed_now q low;
              };
          right = walk_underway read report_at (omega (arith, ok.steps, ltb-true (next + 1) m more));
          reading = refl;
          carried = refl;
          direct = refl;
        })
        (λ last.
        let past = ltb-false (next + 1) m last in
        record {
          ok = refl;
          right = walk_ended read report_at (omega (arith, ok.steps)) (once (omega arith));
          reading = refl;
          carried = refl;
          direct = refl;
        })

  -- a step of a reader at work
  pub reader_right : (work : ReaderWork) → work_in_range m k work ≡ true → is_reader_idle work ≡ false → ReaderOK m k rows notes work → StepRight m k slots rows notes work (work_runs m reach (reader_counted k work) slots)
  unfolding work_in_range lookup_in_range reader_counted work_runs reader_access reader_advance lookup_advance lookup_counted word_read
  reader_right Idle fits busy ok = absurd (false≢true (sym busy))
  reader_right (LookingUp lookup) fits busy ok =
      lookup_right lookup (both_left (valid_point lookup.point) _ fits)
      (both_left (search_in_range k lookup.search) _ (both_right (valid_point lookup.point) _ fits)) ok
  reader_right (Walking walk) fits busy ok = walk_right walk (ltb-true walk.next m fits) ok
