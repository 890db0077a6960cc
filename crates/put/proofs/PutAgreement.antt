-- A put's step, where the table agrees with a plain list: it goes on as it should, or ends with the answer that the plain list gives to the put, fed in the step
-- that stores the slot or, where none is stored, in the last. The reach is raised before the slot is stored, so no lookup that begins in between misses a row.
use Rattle.std.specs.Prelude.{Some, None}
use Prim.Native.Nat.{ℕ, zero, suc, ◌+◌, ◌≤◌, ◌<◌}
use mathlib.Core.Bool.{Bool, true, false, cond}
use mathlib.Core.Path.{◌≡◌, refl, sym, ap, subst, ◌∙◌}
use mathlib.Core.Logic.{◌⊎◌, inl, inr, ◌≢◌}
use mathlib.Core.List.{List, ◌∷◌}
use native.Mathlib.Omega.{arith}
use native.Mathlib.Decide.{ℕ_discrete}
use borrow.Author.Tests.{eqb-true, eqb-false, ltb-true, ltb-false}
use lib.Dec.{eqb, ltb}
use lib.ListN.{get_or}
use Rattle.conditions.specs.Conditions.{within}
use Rattle.conditions.proofs.ConditionLaws.{both_left, both_right, within_low, within_high}
use Rattle.hash.specs.Position.{position_of}
use Rattle.hash.proofs.Laws.{position_below}
use Rattle.slot_words.specs.Word.{word_of}
use Rattle.record.specs.declared.Record.{Record}
use Rattle.record.specs.declared.Place.{Place}
use Rattle.record.specs.declared.Put.{Put}
use Rattle.record.specs.declared.PutStage.{PutStage}
use Rattle.record.specs.declared.PutStage.TheVariants.{Searching, Scanning, Found as PutStage-as-Found, Chosen}
use Rattle.record.specs.declared.WriterWork.TheVariants.{Putting}
use Rattle.record.specs.Parts.{with_reach, with_count, count_of, with_counts}
use Rattle.slot_words.specs.Points.{valid_point}
use Rattle.work_ranges.specs.WorkRanges.{put_stage_in_range, put_in_range}
use Rattle.answers.specs.Answers.{placed, ended_with, continues}
use Rattle.plain_list.specs.PlainList.{row, Rows, absent, entry_of, with_value, is_place, index_of, tells, add_row, put_entry, put_row}
use Rattle.plain_list.proofs.RowLaws.{entry_same, steady_same, steady_value, steady_added}
use Rattle.plain_list.proofs.IndexLaws.{Lowest, index_is, lowest_one, free_is, none_free, indexed_behind}
use Rattle.plain_list.proofs.Agreement.{valid_low, Agrees, Tight, tight_value, empty_free, full_taken}
use Rattle.plain_list.proofs.Changes.{agrees_stored, agrees_added, agrees_reached}
use Rattle.search.specs.declared.access.ReadAccess.{ReadAccess}
use Rattle.search.specs.declared.access.ReadAccess.TheVariants.{Slot}
use Rattle.search.specs.declared.Searched.{Searched}
use Rattle.search.specs.declared.Searched.TheVariants.{Going, Answered}
use Rattle.search.specs.Access.{word_read}
use Rattle.search.specs.Search.{search_access, search_advance}
use Rattle.search.proofs.TrailLaws.{Knows, search_knows}
use Rattle.effects.specs.declared.memory.WriterAccess.{WriterAccess}
use Rattle.effects.specs.declared.memory.WriterAccess.TheVariants.{Read, StoreReach}
use Rattle.effects.specs.declared.update.Update.TheVariants.{Nothing, Reach, Counted}
use Rattle.effects.specs.Counts.{counted}
use Rattle.effects.specs.Memory.{store_word, slot_stored, access_read, slots_after}
use Rattle.effects.specs.Effects.{going_on, ends, updated}
use Rattle.effects.proofs.StepAgreement.{Standing, standing, Below, PutOK, WorkOK, begun, not_a_command, StepOK, goes_on, ends_fed}
use Rattle.put.specs.Put.{exceeds, put_stage_access, put_access, put_at, put_answered, put_searched, put_scanned, put_takes, put_stage_advance, put_advance}

-- what the comparison with the reach says
above : (reach index : ℕ) → exceeds reach index ≡ true → reach < index
unfolding exceeds
above reach index e = omega (arith, ltb-true)

covered : (reach index : ℕ) → exceeds reach index ≡ false → index ≤ reach
unfolding exceeds
covered reach index e = omega (arith, ltb-false)

module _ (panel : Record) (slots : List ℕ) (rows : Rows) (put : Put) (agrees : Agrees panel.m panel.k panel.reach panel.counts slots rows) (valid : valid_point put.point ≡ true) (fits : put.value < 4294967296) where
  abbrev m : ℕ
  m = panel.m

  abbrev k : ℕ
  k = panel.k

  abbrev q : ℕ
  q = put.point

  -- a step that reads, and goes on at this stage
  on_stage : (read : ReadAccess) (stage : PutStage) → PutOK m k panel.reach slots rows q stage → StepOK panel slots (Read read) (put_at put stage) rows (put_row m k q put.value rows) (Putting put)
  unfolding slots_after put_at going_on updated begun
  on_stage read stage h = goes_on refl refl refl refl refl refl refl refl (record { agrees = agrees; work = (h, fits) })

  searched : (read : ReadAccess) (after : Searched) → Tight m k panel.reach rows → Knows (entry_of q rows ≡ absent) m k q rows after → StepOK panel slots (Read read) (put_searched put after) rows (put_row m k q put.value rows) (Putting put)
  unfolding put_searched put_answered
  searched read (Going search) tight h = on_stage read (Searching search) (h, tight)
  searched read (Answered (Some place)) tight h = on_stage read (PutStage-as-Found place) (standing m k q rows place h, tight)
  searched read (Answered None) tight h = on_stage read (Scanning 1) (record { none = h; taken = λ j a b. absurd (omega arith) }, tight)

  abbrev word_at : ℕ → ℕ
  word_at index = get_or slots (position_of m q index) 0

  -- one position more that is taken
  more_taken : (index : ℕ) → Below m q slots rows index → (word_at index ≡ 0 → ⊥) → Below m q slots rows (index + 1)
  more_taken index below full =
      record {
        none = below.none;
        taken = λ j a b. go j a b (ℕ_discrete j index);
      }
    where
      go : (j : ℕ) → 1 ≤ j → j < index + 1 → Dec (j ≡ index) → word_at j ≢ 0
      go j a b (yes e) = λ z. full (ap word_at (sym e) ∙ z)
      go j a b (no e) = below.taken j a (omega arith)

  place_taken : (j : ℕ) → word_at j ≢ 0 → is_place (position_of m q j) rows ≡ true
  place_taken j full = full_taken m k panel.reach panel.counts slots rows agrees (position_of m q j) (position_below m q j agrees.some_slot) full

  -- no position of 1 to k is free: the plain list says 6
  told_none : (index : ℕ) → Below m q slots rows (index + 1) → k ≤ index → put_row m k q put.value rows ≡ tells rows (ended_with 6)
  unfolding put_row put_entry add_row
  told_none index below past =
      rw (below.none, none_free m k q rows (λ j a b. place_taken j (below.taken j a (omega arith))))

  scanned : (index : ℕ) → within 1 index k ≡ true → Below m q slots rows index → Tight m k panel.reach rows → StepOK panel slots (Read (Slot (position_of m q index))) (put_scanned k put index (word_at index)) rows (put_row m k q put.value rows) (Putting put)
  unfolding put_scanned ends slots_after updated
  scanned index inside below tight = go (eqb (word_at index) 0) refl (ltb index k) refl
    where
      go : (empty : Bool) → eqb (word_at index) 0 ≡ empty → (more : Bool) → ltb index k ≡ more → StepOK panel slots (Read (Slot (position_of m q index))) (cond empty (put_at put (Chosen index)) (cond more (put_at put (Scanning (index + 1))) (ends Nothing (ended_with 6)))) rows (put_row m k q put.value rows) (Putting put)
      go true e more f = on_stage _ (Chosen index) (below, eqb-true (word_at index) 0 e, inl tight)
      go false e true f = on_stage _ (Scanning (index + 1)) (more_taken index below (eqb-false (word_at index) 0 e), tight)
      go false e false f =
          let told = told_none index (more_taken index below (eqb-false (word_at index) 0 e)) (ltb-false index k f) in
          subst (λ t. StepOK panel slots (Read (Slot (position_of m q index))) (ends Nothing (ended_with 6)) rows t (Putting put)) (sym told)
          (ends_fed refl refl refl (steady_same rows) (not_a_command refl refl) (record { agrees = agrees; work = tight }))

  -- the position chosen is the lowest index of its slot
  chosen_lowest : (index : ℕ) → within 1 index k ≡ true → Below m q slots rows index → word_at index ≡ 0 → Lowest m k q (position_of m q index) index
  chosen_lowest index inside below empty =
      record {
        low = within_low 1 index k inside;
        high = within_high 1 index k inside;
        at = refl;
        first = λ j a b same. below.taken j a b (ap (λ (slot : ℕ). get_or slots slot 0) same ∙ empty);
      }

  add_at : (index : ℕ) → 1 ≤ index → add_row m k q put.value rows index ≡ tells (row q put.value (position_of m q index) ∷ rows) (placed (position_of m q index) (index_of m k q (position_of m q index)))
  unfolding add_row
  add_at zero h = absurd (omega arith)
  add_at (suc i) h = refl

  -- the plain list puts the row at the position chosen
  told_chosen : (index : ℕ) → within 1 index k ≡ true → Below m q slots rows index → word_at index ≡ 0 → put_row m k q put.value rows ≡ tells (row q put.value (position_of m q index) ∷ rows) (placed (position_of m q index) index)
  unfolding put_row put_entry
  told_chosen index inside below empty =
      let low = within_low 1 index k inside in
      let free = free_is m k q index rows low (within_high 1 index k inside) (empty_free m k panel.reach panel.counts slots rows agrees (position_of m q index) empty) (λ j a b. place_taken j (below.taken j a b)) in
      rw (below.none, free)
      (add_at index low ∙ ap (λ (i : ℕ). tells (row q put.value (position_of m q index) ∷ rows) (placed (position_of m q index) i)) (index_is m k q (position_of m q index) index (chosen_lowest index inside below empty)))

  -- the reach is raised
  raises : (index : ℕ) → put.stage ≡ Chosen index → within 1 index k ≡ true → Below m q slots rows index → word_at index ≡ 0 → panel.reach < index → StepOK panel slots (StoreReach index) (record { work = Putting put; update = Reach index; progress = continues }) rows (put_row m k q put.value rows) (Putting put)
  unfolding slots_after updated with_reach
  raises index e inside below empty more =
      goes_on refl refl refl refl refl refl refl refl
      (record {
        agrees = agrees_reached m k panel.reach panel.counts slots rows agrees index (within_high 1 index k inside) (λ q' value place j f l. let h = agrees.held q' value place f in omega (arith, lowest_one m k q' place j h.index l h.lowest, h.reached));
        work = (subst (λ (s : PutStage). PutOK m k index slots rows q s) (sym e) (below, empty, inr refl), fits);
      })

  -- the slot is stored, and the index counted
  stores : (index : ℕ) → within 1 index k ≡ true → Below m q slots rows index → word_at index ≡ 0 → Tight m k panel.reach rows ⊎ (panel.reach ≡ index) → index ≤ panel.reach → StepOK panel slots (store_word m q index (word_of q put.value)) (ends (Counted index) (placed (position_of m q index) index)) rows (put_row m k q put.value rows) (Putting put)
  unfolding store_word slots_after ends updated counted with_count with_counts count_of
  stores index inside below empty top reached =
      subst (λ t. StepOK panel slots (store_word m q index (word_of q put.value)) (ends (Counted index) (placed (position_of m q index) index)) rows t (Putting put)) (sym (told_chosen index inside below empty))
      (ends_fed refl refl refl (steady_added (row q put.value (position_of m q index)) rows below.none) (not_a_command refl refl)
      (record {
        agrees = agrees_added m k panel.reach panel.counts slots rows agrees q put.value (position_of m q index) index below.none valid fits empty lowest reached;
        work = tight top;
      }))
    where
      lowest : Lowest m k q (position_of m q index) index
      lowest = chosen_lowest index inside below empty

      tight : Tight m k panel.reach rows ⊎ (panel.reach ≡ index) → Tight m k panel.reach (row q put.value (position_of m q index) ∷ rows)
      tight (inl (inl z)) = inl z
      tight (inl (inr x)) = inr (indexed_behind m k (row q put.value (position_of m q index)) rows panel.reach below.none x)
      tight (inr same) =
          inr
          (record {
            point = q;
            value = put.value;
            place = position_of m q index;
            found = entry_same (row q put.value (position_of m q index)) rows;
            index = index_is m k q (position_of m q index) index lowest ∙ sym same;
          })

  takes : (index : ℕ) → put.stage ≡ Chosen index → within 1 index k ≡ true → Below m q slots rows index → word_at index ≡ 0 → Tight m k panel.reach rows ⊎ (panel.reach ≡ index) → StepOK panel slots (put_stage_access m panel.reach put (Chosen index)) (put_takes panel.reach (slot_stored (put_stage_access m panel.reach put (Chosen index))) put index) rows (put_row m k q put.value rows) (Putting put)
  unfolding put_stage_access put_takes store_word slot_stored
  takes index e inside below empty top = go (exceeds panel.reach index) refl
    where
      access : Bool → WriterAccess
      access more = cond more (StoreReach index) (store_word m q index (word_of q put.value))

      go : (more : Bool) → exceeds panel.reach index ≡ more → StepOK panel slots (access more) (cond more (record { work = Putting put; update = Reach index; progress = continues }) (ends (Counted index) (placed (slot_stored (access more)) index))) rows (put_row m k q put.value rows) (Putting put)
      go true f = raises index e inside below empty (above panel.reach index f)
      go false f = stores index inside below empty top (covered panel.reach index f)

  -- the row's word is stored anew
  overwrites : (place : Place) → Standing m k q rows place → Tight m k panel.reach rows → StepOK panel slots (store_word m q place.index (word_of q put.value)) (ends Nothing (placed (position_of m q place.index) place.index)) rows (put_row m k q put.value rows) (Putting put)
  unfolding store_word slots_after ends updated put_row put_entry
  overwrites place stands tight =
      let told : put_row m k q put.value rows ≡ tells (with_value q put.value rows) (placed (position_of m q place.index) place.index) = rw stands.found (ap (λ (i : ℕ). tells (with_value q put.value rows) (placed (position_of m q place.index) i)) (index_is m k q (position_of m q place.index) place.index stands.lowest)) in
      subst (λ t. StepOK panel slots (store_word m q place.index (word_of q put.value)) (ends Nothing (placed (position_of m q place.index) place.index)) rows t (Putting put)) (sym told)
      (ends_fed refl refl refl (steady_value q put.value rows) (not_a_command refl refl)
      (record {
        agrees = agrees_stored m k panel.reach panel.counts slots rows agrees q place.value (position_of m q place.index) put.value stands.found fits;
        work = tight_value m k panel.reach q put.value rows tight;
      }))

  at_stage : (stage : PutStage) → put.stage ≡ stage → put_stage_in_range k stage ≡ true → PutOK m k panel.reach slots rows q stage → StepOK panel slots (put_stage_access m panel.reach put stage) (put_stage_advance k panel.reach (slot_stored (put_stage_access m panel.reach put stage)) put stage (access_read slots (put_stage_access m panel.reach put stage))) rows (put_row m k q put.value rows) (Putting put)
  unfolding put_stage_access put_stage_advance put_stage_in_range store_word slot_stored access_read word_read
  at_stage (Searching search) e inside h =
      searched (search_access m q search) (search_advance panel.reach q search (word_read slots (search_access m q search))) h.1
      (search_knows (entry_of q rows ≡ absent) m k panel.reach panel.counts slots rows agrees q (valid_low q valid) (λ none. none) search inside h.0)
  at_stage (Scanning index) e inside h = scanned index inside h.0 h.1
  at_stage (PutStage-as-Found place) e inside h = overwrites place h.0 h.1
  at_stage (Chosen index) e inside h = takes index e inside h.0 h.1 h.2

-- a put's step
pub put_agrees : (panel : Record) (slots : List ℕ) (rows : Rows) (put : Put) → Agrees panel.m panel.k panel.reach panel.counts slots rows → put_in_range panel.k put ≡ true → WorkOK panel.m panel.k panel.reach slots rows (Putting put) → StepOK panel slots (put_access panel.m panel.reach put) (put_advance panel.k panel.reach (slot_stored (put_access panel.m panel.reach put)) put (access_read slots (put_access panel.m panel.reach put))) rows (put_row panel.m panel.k put.point put.value rows) (Putting put)
unfolding put_access put_advance put_in_range
put_agrees panel slots rows put agrees inside h =
    at_stage panel slots rows put agrees (both_left (valid_point put.point) _ inside) h.1 put.stage refl
    (both_left (put_stage_in_range panel.k put.stage) _ (both_right (valid_point put.point) _ inside)) h.0
