-- A whole search: over slots that stay as they are, the steps of an operation's search come to what `search_end` says, and the operation goes on from there.
use Rattle.std.specs.Prelude.{Option, Some, None}
use Rattle.record.specs.declared.Place.{Place}
use Prim.Native.Nat.{ℕ, zero, suc, ◌+◌, ◌-◌, ◌≤◌, ◌<◌}
use mathlib.Core.Path.{◌≡◌, refl, ap, ◌∙◌, sym, subst, transport}
use mathlib.Core.Bool.{Bool, true, false, cond}
use mathlib.Core.List.{List}
use native.Mathlib.Omega.{arith}
use borrow.Author.Tests.{ltb-true, eqb-true, eqb-false}
use lib.Dec.{ltb, eqb}
use Rattle.record.specs.declared.Search.{Search}
use Rattle.record.specs.declared.Search.TheVariants.{Unread, Probing}
use Rattle.work_ranges.specs.WorkRanges.{search_in_range}
use Rattle.answers.specs.Answers.{is_underway, Outcome}
use Rattle.search.specs.declared.Searched.{Searched}
use Rattle.search.specs.declared.Searched.TheVariants.{Going, Answered}
use Rattle.search.specs.declared.access.ReadAccess.{ReadAccess}
use Rattle.search.specs.Access.{word_read}
use Rattle.search.specs.Search.{search_access, first_probe, next_probe, holds_point, probe_advance, search_advance}
use Rattle.slot_words.specs.Word.{point_of, value_of}
use Rattle.search.proofs.SearchLaws.{search_left, some_left, searched_left, searched_in_range, OneStep, search_step}
use Rattle.whole_operations.specs.declared.searching.SearchEnd.{SearchEnd}
use Rattle.whole_operations.specs.Whole.{until_ended}
use Rattle.whole_operations.specs.WholeFacts.{end_after, search_end}
use Rattle.whole_operations.proofs.WholeLaws.{one_step, one_more, some_budget}

-- an operation as its search stands after a step
abbrev pub standing : (Search → Outcome) → (Option Place → Outcome) → Searched → Outcome
standing going answered (Going search) = going search
standing going answered (Answered answer) = answered answer

module _ (step : Outcome → Outcome) (P : Outcome → Type 0) where
  -- P holds after a whole search, and what is left to do comes to the same as before it
  pub record Comes (budget : ℕ) (before after : Outcome) : Type 0 where
    pub holds : P after
    pub same : until_ended step budget before ≡ until_ended step budget after

  module _ (slots : List ℕ) (m point reach top : ℕ) (keeps : (now : Outcome) → P now → is_underway now.answer ≡ true → P (step now)) (going : ℕ → Search → Outcome) (answered : ℕ → Option Place → Outcome) (goes : (steps : ℕ) (search : Search) → is_underway (going steps search).answer ≡ true) (takes : (steps : ℕ) (search : Search) → steps ≤ top → P (going steps search) → step (going steps search) ≡ standing (going (steps + 1)) (answered (steps + 1)) (search_advance reach point search (word_read slots (search_access m point search)))) where
    abbrev end : ℕ → ℕ → Search → SearchEnd
    end n steps search = search_end slots m point reach n steps search

    -- the operation after the step that answers its search
    abbrev answered_at : SearchEnd → Outcome
    answered_at found = answered found.steps found.answer

    -- a step more in the budget, where what is left ends without it
    with_one : (budget : ℕ) (before next : Outcome) (after : Outcome) → is_underway before.answer ≡ true → step before ≡ next → is_underway (until_ended step (suc budget) before).answer ≡ false → Comes budget next after → Comes (suc budget) before after
    with_one budget before next after underway e ends comes =
        let one_less : suc budget - 1 ≡ budget = omega arith in
        let on = one_step step (suc budget) before (omega arith) underway ∙ ap (λ (n : ℕ). until_ended step n (step before)) one_less ∙ ap (until_ended step budget) e ∙ comes.same in
        record {
          holds = comes.holds;
          same = on ∙ sym (one_more step budget after (ap (λ (now : Outcome). is_underway now.answer) (sym on) ∙ ends));
        }

    pub search_comes : (n steps : ℕ) (search : Search) (budget : ℕ) → P (going steps search) → search_in_range reach search ≡ true → search_left reach search ≤ n → steps + n ≤ top + 1 → is_underway (until_ended step budget (going steps search)).answer ≡ false → Comes budget (going steps search) (answered_at (end n steps search))
    unfolding search_end end_after searched_in_range searched_left
    search_comes zero steps search budget p fits h within ends = absurd (omega (arith, some_left reach search))
    search_comes (suc n) steps search zero p fits h within ends = absurd (omega (arith, some_budget step zero (going steps search) (goes steps search) ends))
    search_comes (suc n) steps search (suc budget) p fits h within ends =
        go (search_advance reach point search word) refl (search_step reach reach point search word (omega arith) fits)
        (λ next. search_comes n (steps + 1) next budget)
      where
        word : ℕ
        word = word_read slots (search_access m point search)

        stood : Searched → Outcome
        stood stands = standing (going (steps + 1)) (answered (steps + 1)) stands

        after : (stands : Searched) → search_advance reach point search word ≡ stands → step (going steps search) ≡ stood stands
        after stands e = takes steps search (omega arith) p ∙ ap stood e

        held : (stands : Searched) → search_advance reach point search word ≡ stands → P (stood stands)
        held stands e = transport (λ j. P (after stands e j)) (keeps (going steps search) p (goes steps search))

        left_ends : (stands : Searched) → search_advance reach point search word ≡ stands → is_underway (until_ended step budget (stood stands)).answer ≡ false
        left_ends stands e =
            let one_less : budget ≡ suc budget - 1 = omega arith in
            ap (λ (now : Outcome). is_underway (until_ended step budget now).answer) (sym (after stands e))
            ∙ ap (λ (now : Outcome). is_underway now.answer)
            (ap (λ (n : ℕ). until_ended step n (step (going steps search))) one_less ∙ sym (one_step step (suc budget) (going steps search) (omega arith) (goes steps search)))
            ∙ ends

        go : (stands : Searched) → search_advance reach point search word ≡ stands → OneStep reach (search_left reach search) stands → ((next : Search) → P (going (steps + 1) next) → search_in_range reach next ≡ true → search_left reach next ≤ n → steps + 1 + n ≤ top + 1 → is_underway (until_ended step budget (going (steps + 1) next)).answer ≡ false → Comes budget (going (steps + 1) next) (answered_at (end n (steps + 1) next))) → Comes (suc budget) (going steps search) (answered_at (end_after (end n (steps + 1)) (steps + 1) stands))
        go (Going next) e one more =
            with_one budget (going steps search) (going (steps + 1) next) _ (goes steps search) (after (Going next) e) ends
            (more next (held (Going next) e) one.fits (omega (arith, one.less)) (omega arith) (left_ends (Going next) e))
        go (Answered answer) e one more =
            with_one budget (going steps search) (answered (steps + 1) answer) _ (goes steps search) (after (Answered answer) e) ends
            (record { holds = held (Answered answer) e; same = refl })

-- ---- the loop that searches: from this index on, with as many steps made, the search comes to the same
module _ (slots : List ℕ) (m point reach : ℕ) where
  abbrev probing : ℕ → Search
  probing next = Probing (record { reach = reach; next = next })

  abbrev ended : Option Place → ℕ → SearchEnd
  ended answer steps = record { answer = answer; steps = steps }

  abbrev whole : SearchEnd
  whole = search_end slots m point reach (suc reach) 0 Unread

  pub record FromIndex (next : ℕ) : Type 0 where
    pub low : 1 ≤ next
    pub high : next ≤ reach + 1
    pub more : next ≤ reach → search_end slots m point reach (reach + 1 - next) next (probing next) ≡ whole
    pub none : reach < next → ended None next ≡ whole

  -- "read the reach r; then positions 1 to r"
  pub first_index : FromIndex 1
  unfolding search_end end_after search_advance first_probe
  first_index = go (eqb reach 0) refl
    where
      go : (b : Bool) → eqb reach 0 ≡ b → FromIndex 1
      go true e =
          let zero-reach = eqb-true reach 0 e in
          record { low = omega arith; high = omega arith; more = λ h. absurd (omega arith); none = λ h. rw e }
      go false e =
          let some = eqb-false reach 0 e in
          record {
            low = omega arith;
            high = omega arith;
            more = λ h. let all : reach + 1 - 1 ≡ reach = omega arith in rw e (ap (λ (n : ℕ). search_end slots m point reach n 1 (probing 1)) all);
            none = λ h. absurd (omega arith);
          }

  -- a step of the loop: it answers, or goes on to the next index
  abbrev pub AfterProbe : ℕ → Searched → Type 0
  AfterProbe next (Going search) = FromIndex (next + 1)
  AfterProbe next (Answered answer) = ended answer (next + 1) ≡ whole

  after_probe : (next : ℕ) → FromIndex next → next ≤ reach → AfterProbe next (search_advance reach point (probing next) (word_read slots (search_access m point (probing next))))
  unfolding search_advance holds_point probe_advance next_probe search_end end_after
  after_probe next way h = go (eqb (point_of word) point) (ltb next reach) refl same
    where
      word : ℕ
      word = word_read slots (search_access m point (probing next))

      -- how the search stands, by whether the position shows the point and whether it is the last
      stands : (hit more : Bool) → Searched
      stands hit more = cond hit (Answered (Some (record { index = next; value = value_of word }))) (cond more (Going (probing (next + 1))) (Answered None))

      -- what is left from there
      left : Searched → SearchEnd
      left after = end_after (search_end slots m point reach (reach - next) (next + 1)) (next + 1) after

      same : left (stands (eqb (point_of word) point) (ltb next reach)) ≡ whole
      same =
          let one_less : suc (reach - next) ≡ reach + 1 - next = omega arith in
          ap (λ (n : ℕ). search_end slots m point reach n next (probing next)) one_less ∙ way.more h

      go : (hit more : Bool) → ltb next reach ≡ more → left (stands hit more) ≡ whole → AfterProbe next (stands hit more)
      go true more e ends = ends
      go false true e ends =
          let below = ltb-true next reach e in
          record {
            low = omega arith;
            high = omega arith;
            more = λ h. let fewer : reach + 1 - (next + 1) ≡ reach - next = omega arith in ap (λ (n : ℕ). search_end slots m point reach n (next + 1) (probing (next + 1))) fewer ∙ ends;
            none = λ h. absurd (omega arith);
          }
      go false false e ends = ends

  -- the same from what the parts of the step gave
  pub probed : (next : ℕ) (access : ReadAccess) (word : ℕ) (stands : Searched) → FromIndex next → next ≤ reach → access ≡ search_access m point (probing next) → word ≡ word_read slots access → stands ≡ search_advance reach point (probing next) word → AfterProbe next stands
  probed next access word stands way h same_access same_word same =
      subst (AfterProbe next) (sym (same ∙ ap (search_advance reach point (probing next)) (same_word ∙ ap (word_read slots) same_access)))
      (after_probe next way h)

  -- behind the last position nothing is found
  pub past_last : (next : ℕ) → FromIndex next → reach < next → ended None (reach + 1) ≡ whole
  past_last next way h =
      let last : next ≡ reach + 1 = omega (arith, way.high) in subst (λ (n : ℕ). ended None n ≡ whole) last (way.none h)
