-- A removal's step, where the table agrees with a plain list: it goes on as it should, empties the slot and so feeds the list, or ends with the answer that the
-- plain list gives. The reach is lowered only after the slot was emptied, to the list's largest index, so it covers every row all the time.
use Rattle.std.specs.Prelude.{Some, None}
use Prim.Native.Nat.{ℕ, zero, suc, ◌-◌, ◌≤◌}
use mathlib.Core.Bool.{Bool, true, false, cond}
use mathlib.Core.Path.{◌≡◌, refl, sym, ap, subst, ◌∙◌}
use mathlib.Core.Logic.{◌⊎◌, inl, inr, ◌≢◌}
use mathlib.Core.List.{List}
use native.Mathlib.Omega.{arith}
use native.Mathlib.Decide.{ℕ_discrete}
use borrow.Author.Tests.{eqb-false, ltb-true, ltb-false}
use lib.Dec.{eqb, ltb}
use lib.ListN.{length, get_or, set, get_or-eq_default}
use lib.Seq.{set_out, get_or-set_same}
use Rattle.conditions.specs.Conditions.{both}
use Rattle.conditions.proofs.ConditionLaws.{both_left, both_right}
use Rattle.hash.specs.Position.{position_of}
use Rattle.record.specs.declared.Record.{Record}
use Rattle.record.specs.declared.Place.{Place}
use Rattle.record.specs.declared.Removal.{Removal}
use Rattle.record.specs.declared.RemovalStage.{RemovalStage}
use Rattle.record.specs.declared.RemovalStage.TheVariants.{Searching, Found as RemovalStage-as-Found, Lowering}
use Rattle.record.specs.declared.WriterWork.TheVariants.{Removing}
use Rattle.record.specs.Parts.{numbered, with_numbered, count_in, count_of, with_count, with_reach, with_counts}
use Rattle.slot_words.specs.Points.{valid_point}
use Rattle.work_ranges.specs.WorkRanges.{removal_stage_in_range, removal_in_range}
use Rattle.answers.specs.Answers.{removed, ended_with, finishes}
use Rattle.plain_list.specs.PlainList.{Rows, absent, entry_of, without, index_of, largest_index, tells, remove_entry, remove_row}
use Rattle.plain_list.proofs.RowLaws.{left, steady_same, steady_without}
use Rattle.plain_list.proofs.IndexLaws.{index_is, count_index, Indexed, found_counted, counted_found}
use Rattle.plain_list.proofs.Agreement.{valid_low, Agrees, Tight, top_is}
use Rattle.plain_list.proofs.Changes.{agrees_emptied, agrees_reached}
use Rattle.search.specs.declared.access.ReadAccess.{ReadAccess}
use Rattle.search.specs.declared.Searched.{Searched}
use Rattle.search.specs.declared.Searched.TheVariants.{Going, Answered}
use Rattle.search.specs.Access.{word_read}
use Rattle.search.specs.Search.{search_access, search_advance}
use Rattle.search.proofs.TrailLaws.{Knows, search_knows}
use Rattle.effects.specs.declared.memory.WriterAccess.TheVariants.{Read, StoreReach}
use Rattle.effects.specs.declared.update.Update.{Update}
use Rattle.effects.specs.declared.update.Update.TheVariants.{Nothing, Uncounted}
use Rattle.effects.specs.Counts.{one_less, uncounted, largest_counted}
use Rattle.effects.specs.Memory.{store_word, access_read, slots_after}
use Rattle.effects.specs.Effects.{ends, updated}
use Rattle.effects.proofs.CountLaws.{largest_high, largest_covers, largest_counted_lem}
use Rattle.effects.proofs.StepAgreement.{Standing, standing, RemovalOK, WorkOK, begun, fed_at, not_a_command, StepOK, goes_on, ends_fed, empties, lowers}
use Rattle.removal.specs.Removal.{removal_stage_access, removal_access, removal_at, removal_answered, removal_searched, is_last, removal_empties, removal_lowers, removal_stage_advance, removal_advance}

-- a count that was lowered by one, read again; there is none to lower past the end
uncounted_read : (counts : List ℕ) (n : ℕ) → numbered (with_numbered counts n (numbered counts n 0 - 1)) n 0 ≡ numbered counts n 0 - 1
unfolding numbered with_numbered
uncounted_read counts zero = refl
uncounted_read counts (suc i) = go (ltb i (length counts)) refl
  where
    go : (inside : Bool) → ltb i (length counts) ≡ inside → get_or (set counts i (get_or counts i 0 - 1)) i 0 ≡ get_or counts i 0 - 1
    go true e = get_or-set_same counts i (get_or counts i 0 - 1) 0 (ltb-true i (length counts) e)
    go false e =
        let past = ltb-false i (length counts) e in
        let none : get_or counts i 0 ≡ 0 = get_or-eq_default counts 0 (omega arith) in
        ap (λ (l : List ℕ). get_or l i 0) (set_out counts i (get_or counts i 0 - 1) (omega arith)) ∙ omega arith

module _ (panel : Record) (slots : List ℕ) (rows : Rows) (removal : Removal) (agrees : Agrees panel.m panel.k panel.reach panel.counts slots rows) (valid : valid_point removal.point ≡ true) where
  abbrev m : ℕ
  m = panel.m

  abbrev k : ℕ
  k = panel.k

  abbrev q : ℕ
  q = removal.point

  -- a step that reads leaves the record, and goes on at a stage before the list is fed
  on_stage : (read : ReadAccess) (stage : RemovalStage) (update : Update) → updated panel update ≡ panel → fed_at removal.stage ≡ 0 → fed_at stage ≡ 0 → RemovalOK m k panel.reach slots rows q stage → StepOK panel slots (Read read) (removal_at removal stage update) rows (remove_row m k q rows) (Removing removal)
  unfolding slots_after removal_at begun
  on_stage read stage update same before after h =
      goes_on refl before after refl refl refl refl (ap (λ (p : Record). p.stations) same)
      (record {
        agrees = subst (λ (p : Record). Agrees m k p.reach p.counts slots rows) (sym same) agrees;
        work = subst (λ (p : Record). RemovalOK m k p.reach slots rows q stage) (sym same) h;
      })

  searched : (read : ReadAccess) (after : Searched) → fed_at removal.stage ≡ 0 → Tight m k panel.reach rows → Knows (entry_of q rows ≡ absent) m k q rows after → StepOK panel slots (Read read) (removal_searched removal after) rows (remove_row m k q rows) (Removing removal)
  unfolding removal_searched removal_answered remove_row remove_entry ends slots_after updated
  searched read (Going search) unfed tight h = on_stage read (Searching search) _ refl unfed refl (h, tight)
  searched read (Answered (Some place)) unfed tight h = on_stage read (RemovalStage-as-Found place) _ refl unfed refl (standing m k q rows place h, tight)
  searched read (Answered None) unfed tight h =
      let told : remove_row m k q rows ≡ tells rows (ended_with 7) = rw h in
      subst (λ t. StepOK panel slots (Read read) (ends Nothing (ended_with 7)) rows t (Removing removal)) (sym told)
      (ends_fed unfed refl refl (steady_same rows) (not_a_command refl refl) (record { agrees = agrees; work = tight }))

  -- the slot is emptied, and the index uncounted
  module _ (place : Place) (unfed : fed_at removal.stage ≡ 0) (stands : Standing m k q rows place) (tight : Tight m k panel.reach rows) where
    abbrev i : ℕ
    i = place.index

    abbrev slot : ℕ
    slot = position_of m q i

    abbrev counts_after : List ℕ
    counts_after = with_numbered panel.counts i (numbered panel.counts i 0 - 1)

    emptied : Agrees m k panel.reach counts_after (set slots slot 0) (without q rows)
    emptied = agrees_emptied m k panel.reach panel.counts slots rows agrees q place.value slot i stands.found stands.lowest

    -- the row at the reach's index is another's, or one of that index is left
    still_reached : (numbered counts_after i 0 ≢ 0) ⊎ (i ≢ panel.reach) → (x : Indexed m k rows panel.reach) → Dec (x.point ≡ q) → Indexed m k (without q rows) panel.reach
    still_reached h x (no apart) =
        record {
          point = x.point;
          value = x.value;
          place = x.place;
          found = left q x.point rows apart ∙ x.found;
          index = x.index;
        }
    still_reached h x (yes same) =
        let f = x.found in
        let g = stands.found in
        let at : x.place ≡ slot = cc in
        let index = index_is m k q slot i stands.lowest in
        let here = x.index in
        let one : index_of m k x.point x.place ≡ index_of m k q slot = cc in
        let reach-is : i ≡ panel.reach = cc in
        go reach-is h
      where
        go : i ≡ panel.reach → (numbered counts_after i 0 ≢ 0) ⊎ (i ≢ panel.reach) → Indexed m k (without q rows) panel.reach
        go e (inl some) =
            subst (λ (j : ℕ). Indexed m k (without q rows) j) e
            (counted_found m k i (without q rows) emptied.distinct (omega (arith, emptied.counted i stands.lowest.low stands.lowest.high)))
        go e (inr apart) = absurd (apart e)

    still_tight : (numbered counts_after i 0 ≢ 0) ⊎ (i ≢ panel.reach) → Tight m k panel.reach rows → Tight m k panel.reach (without q rows)
    still_tight h (inl z) = inl z
    still_tight h (inr x) = inr (still_reached h x (ℕ_discrete x.point q))

    told_gone : remove_row m k q rows ≡ tells (without q rows) (removed (largest_index m k (without q rows)))
    unfolding remove_row remove_entry
    told_gone = rw stands.found

    last_step : StepOK panel slots (store_word m q i 0) (removal_at removal Lowering (Uncounted i)) rows (tells (without q rows) (removed (largest_index m k (without q rows)))) (Removing removal)
    unfolding store_word slots_after removal_at updated uncounted with_count with_counts count_of begun
    last_step = empties refl unfed refl refl refl refl refl refl (steady_without q rows) refl (record { agrees = emptied; work = tt })

    only_step : (numbered counts_after i 0 ≢ 0) ⊎ (i ≢ panel.reach) → StepOK panel slots (store_word m q i 0) (ends (Uncounted i) (removed panel.reach)) rows (tells (without q rows) (removed (largest_index m k (without q rows)))) (Removing removal)
    unfolding store_word slots_after ends updated uncounted with_count with_counts count_of
    only_step h =
        let after = still_tight h tight in
        ends_fed unfed refl (ap (λ (reach : ℕ). finishes (removed reach)) (sym (top_is m k panel.reach counts_after (set slots slot 0) (without q rows) emptied after))) (steady_without q rows) (not_a_command refl refl)
        (record { agrees = emptied; work = after })

    pub empties_slot : StepOK panel slots (store_word m q i 0) (removal_empties panel.reach panel.counts removal i) rows (remove_row m k q rows) (Removing removal)
    unfolding removal_empties is_last both
    empties_slot =
        subst (λ t. StepOK panel slots (store_word m q i 0) (removal_empties panel.reach panel.counts removal i) rows t (Removing removal)) (sym told_gone)
        (go (eqb (one_less (count_in panel.counts i)) 0) (ap (λ (n : ℕ). eqb n 0) (uncounted_read panel.counts i)) (eqb i panel.reach) refl)
      where
        go : (none : Bool) → eqb (numbered counts_after i 0) 0 ≡ none → (top : Bool) → eqb i panel.reach ≡ top → StepOK panel slots (store_word m q i 0) (cond (both none top) (removal_at removal Lowering (Uncounted i)) (ends (Uncounted i) (removed panel.reach))) rows (tells (without q rows) (removed (largest_index m k (without q rows)))) (Removing removal)
        go true e true f = last_step
        go true e false f = only_step (inr (eqb-false i panel.reach f))
        go false e top f = only_step (inl (eqb-false (numbered counts_after i 0) 0 e))

  -- the reach is lowered to the list's largest index
  lowers_reach : fed_at removal.stage ≡ 1 → StepOK panel slots (StoreReach (largest_counted k panel.counts)) (removal_lowers k panel.counts) rows (remove_row m k q rows) (Removing removal)
  unfolding slots_after removal_lowers ends updated with_reach
  lowers_reach fed =
      lowers refl fed refl (ap (λ (reach : ℕ). finishes (removed reach)) (sym (top_is m k (largest_counted k panel.counts) panel.counts slots rows after tight))) refl
      (record { agrees = after; work = tight })
    where
      count_is : (i : ℕ) → 1 ≤ i → i ≤ k → count_in panel.counts i ≡ count_index m k i rows
      count_is i low high = agrees.counted i low high

      after : Agrees m k (largest_counted k panel.counts) panel.counts slots rows
      after =
          agrees_reached m k panel.reach panel.counts slots rows agrees (largest_counted k panel.counts) (largest_high panel.counts k)
          (λ p value place j e lowest.
          let some : 1 ≤ count_index m k j rows = rw (index_is m k p place j lowest) at (found_counted m k p value place rows e) in
          largest_covers panel.counts k j lowest.low lowest.high (omega (arith, count_is j lowest.low lowest.high)))

      tight : Tight m k (largest_counted k panel.counts) rows
      tight = go (largest_counted_lem panel.counts k)
        where
          go : (largest_counted k panel.counts ≡ 0) ⊎ ((1 ≤ largest_counted k panel.counts) × (count_in panel.counts (largest_counted k panel.counts) ≢ 0)) → Tight m k (largest_counted k panel.counts) rows
          go (inl z) = inl z
          go (inr x) =
              inr
              (counted_found m k (largest_counted k panel.counts) rows agrees.distinct
              (omega (arith, x.1, count_is (largest_counted k panel.counts) x.0 (largest_high panel.counts k))))

  at_stage : (stage : RemovalStage) → removal.stage ≡ stage → removal_stage_in_range k stage ≡ true → RemovalOK m k panel.reach slots rows q stage → StepOK panel slots (removal_stage_access m k panel.counts removal stage) (removal_stage_advance k panel.reach panel.counts removal stage (access_read slots (removal_stage_access m k panel.counts removal stage))) rows (remove_row m k q rows) (Removing removal)
  unfolding removal_stage_access removal_stage_advance removal_stage_in_range access_read
  at_stage (Searching search) e inside h =
      searched (search_access m q search) (search_advance panel.reach q search (word_read slots (search_access m q search))) (ap fed_at e) h.1
      (search_knows (entry_of q rows ≡ absent) m k panel.reach panel.counts slots rows agrees q (valid_low q valid) (λ none. none) search inside h.0)
  at_stage (RemovalStage-as-Found place) e inside h = empties_slot place (ap fed_at e) h.0 h.1
  at_stage Lowering e inside h = lowers_reach (ap fed_at e)

-- a removal's step
pub removal_agrees : (panel : Record) (slots : List ℕ) (rows : Rows) (removal : Removal) → Agrees panel.m panel.k panel.reach panel.counts slots rows → removal_in_range panel.k removal ≡ true → WorkOK panel.m panel.k panel.reach slots rows (Removing removal) → StepOK panel slots (removal_access panel.m panel.k panel.counts removal) (removal_advance panel.k panel.reach panel.counts removal (access_read slots (removal_access panel.m panel.k panel.counts removal))) rows (remove_row panel.m panel.k removal.point rows) (Removing removal)
unfolding removal_access removal_advance removal_in_range
removal_agrees panel slots rows removal agrees inside h =
    at_stage panel slots rows removal agrees (both_left (valid_point removal.point) _ inside) removal.stage refl
    (both_left (removal_stage_in_range panel.k removal.stage) _ (both_right (valid_point removal.point) _ inside)) h
