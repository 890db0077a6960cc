-- The four changes that a step of the writer can make to a table keep the agreement, with the plain list that was fed: a row's word stored anew, a row added and
-- counted, a row's slot emptied and uncounted, the reach stored.
use Prim.Native.Nat.{ℕ, ◌+◌, ◌-◌, ◌≤◌, ◌<◌, min}
use mathlib.Core.Bool.{true, cond}
use mathlib.Core.Path.{◌≡◌, sym, ap, subst, ◌∙◌}
use mathlib.Core.Logic.{◌⊎◌, inl, inr, ◌≢◌}
use mathlib.Core.List.{List, ◌∷◌}
use native.Mathlib.Omega.{arith}
use native.Mathlib.Decide.{ℕ_discrete}
use borrow.Author.Tests.{eq-eqb, ne_eqb}
use lib.Dec.{eqb}
use lib.ListN.{get_or, set, length, length-set}
use lib.Seq.{get_or-set_same, get_or-set_other}
use Rattle.slot_words.specs.Word.{word_of}
use Rattle.slot_words.proofs.WordLaws.{word_some}
use Rattle.slot_words.proofs.TakenLaws.{taken_replaced, taken_added, taken_emptied}
use Rattle.record.specs.Parts.{numbered, with_numbered}
use Rattle.record.proofs.Numbered.{replaced_length, replaced_same, replaced_other}
use Rattle.slot_words.specs.Points.{valid_point}
use Rattle.plain_list.specs.PlainList.{Row, row, Rows, absent, present, entry_of, with_value, without, index_of}
use Rattle.plain_list.proofs.RowLaws.{present≢absent, entry_same, entry_other, value_same, value_other, value_length, gone, left, without_length, distinct_value, distinct_without, At, at_value, at_behind}
use Rattle.plain_list.proofs.IndexLaws.{Lowest, index_is, count_index, count_value, count_without}
use Rattle.plain_list.proofs.Agreement.{valid_low, Held, Agrees, place_low, one_there, row_some, count_room}

module _ (m k reach : ℕ) (counts slots : List ℕ) (rows : Rows) (agrees : Agrees m k reach counts slots rows) where
  -- a row's word is stored anew
  module _ (q old place new : ℕ) (found : entry_of q rows ≡ present old place) (fits : new < 4294967296) where
    was : Held m k reach slots q old place
    was = agrees.held q old place found

    stored_inside : place < length slots
    stored_inside = omega (arith, place_low m k reach counts slots rows agrees q place was.index was.lowest, agrees.whole)

    stored_held : (q' value place' : ℕ) → entry_of q' (with_value q new rows) ≡ present value place' → Dec (q' ≡ q) → Held m k reach (set slots place (word_of q new)) q' value place'
    stored_held q' value place' e (yes a) =
        let b = value_same q new rows old place found in
        let c : entry_of q (with_value q new rows) ≡ present value place' = rw a at e in
        let same-value : new ≡ value = cc in
        let same_place : place ≡ place' = cc in
        let here : Held m k reach (set slots place (word_of q new)) q new place = record {
          valid = was.valid;
          fits = fits;
          shows = get_or-set_same slots place (word_of q new) 0 stored_inside;
          index = was.index;
          lowest = was.lowest;
          reached = was.reached;
        } in
        subst (λ (x : ℕ). Held m k reach (set slots place (word_of q new)) x value place') (sym a)
        (subst (λ (x : ℕ). Held m k reach (set slots place (word_of q new)) q x place') same-value
        (subst (λ (x : ℕ). Held m k reach (set slots place (word_of q new)) q new x) same_place here))
    stored_held q' value place' e (no a) =
        let b = sym (value_other q new q' rows a) ∙ e in
        let o = agrees.held q' value place' b in
        let apart : place' ≢ place = λ same. a (one_there m k reach counts slots rows agrees q' value q old place (b ∙ ap (present value) same) found) in
        record {
          valid = o.valid;
          fits = o.fits;
          shows = get_or-set_other slots place place' (word_of q new) 0 apart ∙ o.shows;
          index = o.index;
          lowest = o.lowest;
          reached = o.reached;
        }

    stored_free : (place' : ℕ) → place' < m → Dec (place' ≡ place) → (get_or (set slots place (word_of q new)) place' 0 ≡ 0) ⊎ At (with_value q new rows) place'
    stored_free place' inside (yes a) = inr (record { point = q; value = new; found = value_same q new rows old place found ∙ ap (present new) (sym a) })
    stored_free place' inside (no a) = go (agrees.free place' inside)
      where
        go : (get_or slots place' 0 ≡ 0) ⊎ At rows place' → (get_or (set slots place (word_of q new)) place' 0 ≡ 0) ⊎ At (with_value q new rows) place'
        go (inl z) = inl (get_or-set_other slots place place' (word_of q new) 0 a ∙ z)
        go (inr w) = inr (at_value q new rows place' w)

    pub agrees_stored : Agrees m k reach counts (set slots place (word_of q new)) (with_value q new rows)
    agrees_stored =
        record {
          some_slot = agrees.some_slot;
          some_index = agrees.some_index;
          few_indices = agrees.few_indices;
          whole = length-set slots place (word_of q new) ∙ agrees.whole;
          all_counts = agrees.all_counts;
          reach_high = agrees.reach_high;
          held = λ q' value place' e. stored_held q' value place' e (ℕ_discrete q' q);
          free = λ place' inside. stored_free place' inside (ℕ_discrete place' place);
          counted = λ i low high. agrees.counted i low high ∙ sym (count_value m k i q new rows);
          distinct = distinct_value q new rows agrees.distinct;
          room = value_length q new rows ∙ (agrees.room ∙ sym (taken_replaced slots place (word_of q new) (word_some q new (valid_low q was.valid)) stored_inside (row_some m k reach counts slots rows agrees q old place found)));
        }

  -- a row is added at an empty place, its word stored and its index counted
  module _ (q value place i : ℕ) (none : entry_of q rows ≡ absent) (valid : valid_point q ≡ true) (fits : value < 4294967296) (empty : get_or slots place 0 ≡ 0) (lowest : Lowest m k q place i) (reached : i ≤ reach) where
    abbrev new_row : Row
    new_row = row q value place

    abbrev more : ℕ
    more = min (numbered counts i 0 + 1) m

    added_low : place < m
    added_low = place_low m k reach counts slots rows agrees q place i lowest

    added_inside : place < length slots
    added_inside = omega (arith, added_low, agrees.whole)

    added_held : (q' value' place' : ℕ) → entry_of q' (new_row ∷ rows) ≡ present value' place' → Dec (q ≡ q') → Held m k reach (set slots place (word_of q value)) q' value' place'
    added_held q' value' place' e (yes a) =
        let b = entry_same new_row rows in
        let c : entry_of q (new_row ∷ rows) ≡ present value' place' = rw (sym a) at e in
        let same-value : value ≡ value' = cc in
        let same_place : place ≡ place' = cc in
        let here : Held m k reach (set slots place (word_of q value)) q value place = record {
          valid = valid;
          fits = fits;
          shows = get_or-set_same slots place (word_of q value) 0 added_inside;
          index = i;
          lowest = lowest;
          reached = reached;
        } in
        subst (λ (x : ℕ). Held m k reach (set slots place (word_of q value)) x value' place') a
        (subst (λ (x : ℕ). Held m k reach (set slots place (word_of q value)) q x place') same-value
        (subst (λ (x : ℕ). Held m k reach (set slots place (word_of q value)) q value x) same_place here))
    added_held q' value' place' e (no a) =
        let b = sym (entry_other q' new_row rows a) ∙ e in
        let o = agrees.held q' value' place' b in
        let apart : place' ≢ place = λ same. row_some m k reach counts slots rows agrees q' value' place' b (ap (λ (x : ℕ). get_or slots x 0) same ∙ empty) in
        record {
          valid = o.valid;
          fits = o.fits;
          shows = get_or-set_other slots place place' (word_of q value) 0 apart ∙ o.shows;
          index = o.index;
          lowest = o.lowest;
          reached = o.reached;
        }

    added_free : (place' : ℕ) → place' < m → Dec (place' ≡ place) → (get_or (set slots place (word_of q value)) place' 0 ≡ 0) ⊎ At (new_row ∷ rows) place'
    added_free place' inside (yes a) = inr (record { point = q; value = value; found = entry_same new_row rows ∙ ap (present value) (sym a) })
    added_free place' inside (no a) = go (agrees.free place' inside)
      where
        go : (get_or slots place' 0 ≡ 0) ⊎ At rows place' → (get_or (set slots place (word_of q value)) place' 0 ≡ 0) ⊎ At (new_row ∷ rows) place'
        go (inl z) = inl (get_or-set_other slots place place' (word_of q value) 0 a ∙ z)
        go (inr w) = inr (at_behind new_row rows place' none w)

    added_counted : (j : ℕ) → 1 ≤ j → j ≤ k → Dec (j ≡ i) → numbered (with_numbered counts i more) j 0 ≡ cond (eqb (index_of m k q place) j) 1 0 + count_index m k j rows
    added_counted j low high (yes a) =
        let c = agrees.counted j low high in
        let d = replaced_same counts i more 0 lowest.low (omega (arith, lowest.high, agrees.few_indices, agrees.all_counts)) in
        let f = ap (λ (x : ℕ). numbered (with_numbered counts i more) x 0) a in
        let g = ap (λ (x : ℕ). numbered counts x 0) a in
        let r = count_room m k reach counts slots rows agrees place i added_low lowest.low lowest.high empty in
        rw (eq-eqb (index_of m k q place) j (index_is m k q place i lowest ∙ sym a)) (omega arith)
    added_counted j low high (no a) =
        let c = agrees.counted j low high in
        let d = replaced_other counts i more 0 j a in
        rw (ne_eqb (index_of m k q place) j (λ same. a (sym same ∙ index_is m k q place i lowest))) (omega arith)

    pub agrees_added : Agrees m k reach (with_numbered counts i more) (set slots place (word_of q value)) (new_row ∷ rows)
    unfolding count_index
    agrees_added =
        record {
          some_slot = agrees.some_slot;
          some_index = agrees.some_index;
          few_indices = agrees.few_indices;
          whole = length-set slots place (word_of q value) ∙ agrees.whole;
          all_counts = replaced_length counts i more ∙ agrees.all_counts;
          reach_high = agrees.reach_high;
          held = λ q' value' place' e. added_held q' value' place' e (ℕ_discrete q q');
          free = λ place' inside. added_free place' inside (ℕ_discrete place' place);
          counted = λ j low high. added_counted j low high (ℕ_discrete j i);
          distinct = (none, agrees.distinct);
          room = omega (arith, agrees.room, taken_added slots place (word_of q value) (word_some q value (valid_low q valid)) added_inside empty);
        }

  -- a row goes, its slot emptied and its index uncounted
  module _ (q value place i : ℕ) (found : entry_of q rows ≡ present value place) (lowest : Lowest m k q place i) where
    abbrev less : ℕ
    less = numbered counts i 0 - 1

    emptied_inside : place < length slots
    emptied_inside = omega (arith, place_low m k reach counts slots rows agrees q place i lowest, agrees.whole)

    emptied_held : (q' value' place' : ℕ) → entry_of q' (without q rows) ≡ present value' place' → Dec (q' ≡ q) → Held m k reach (set slots place 0) q' value' place'
    emptied_held q' value' place' e (yes a) = present≢absent (sym e ∙ (ap (λ (x : ℕ). entry_of x (without q rows)) a ∙ gone q rows))
    emptied_held q' value' place' e (no a) =
        let b = sym (left q q' rows a) ∙ e in
        let o = agrees.held q' value' place' b in
        let apart : place' ≢ place = λ same. a (one_there m k reach counts slots rows agrees q' value' q value place (b ∙ ap (present value') same) found) in
        record {
          valid = o.valid;
          fits = o.fits;
          shows = get_or-set_other slots place place' 0 0 apart ∙ o.shows;
          index = o.index;
          lowest = o.lowest;
          reached = o.reached;
        }

    emptied_free : (place' : ℕ) → place' < m → Dec (place' ≡ place) → (get_or (set slots place 0) place' 0 ≡ 0) ⊎ At (without q rows) place'
    emptied_free place' inside (yes a) = inl (rw a (get_or-set_same slots place 0 0 emptied_inside))
    emptied_free place' inside (no a) = go (agrees.free place' inside)
      where
        go : (get_or slots place' 0 ≡ 0) ⊎ At rows place' → (get_or (set slots place 0) place' 0 ≡ 0) ⊎ At (without q rows) place'
        go (inl z) = inl (get_or-set_other slots place place' 0 0 a ∙ z)
        go (inr w) =
            let apart : w.point ≢ q = λ same. a (let f = ap (λ (x : ℕ). entry_of x rows) same in let g = w.found in cc) in
            inr (record { point = w.point; value = w.value; found = left q w.point rows apart ∙ w.found })

    emptied_counted : (j : ℕ) → 1 ≤ j → j ≤ k → Dec (j ≡ i) → numbered (with_numbered counts i less) j 0 ≡ count_index m k j (without q rows)
    emptied_counted j low high (yes a) =
        let c = agrees.counted j low high in
        let d : count_index m k j rows ≡ 1 + count_index m k j (without q rows) = rw (eq-eqb (index_of m k q place) j (index_is m k q place i lowest ∙ sym a)) at (count_without m k j q value place rows agrees.distinct found) in
        let f = replaced_same counts i less 0 lowest.low (omega (arith, lowest.high, agrees.few_indices, agrees.all_counts)) in
        let g = ap (λ (x : ℕ). numbered (with_numbered counts i less) x 0) a in
        let h = ap (λ (x : ℕ). numbered counts x 0) a in
        omega arith
    emptied_counted j low high (no a) =
        let c = agrees.counted j low high in
        let d : count_index m k j rows ≡ 0 + count_index m k j (without q rows) = rw (ne_eqb (index_of m k q place) j (λ same. a (sym same ∙ index_is m k q place i lowest))) at (count_without m k j q value place rows agrees.distinct found) in
        let f = replaced_other counts i less 0 j a in
        omega arith

    pub agrees_emptied : Agrees m k reach (with_numbered counts i less) (set slots place 0) (without q rows)
    agrees_emptied =
        record {
          some_slot = agrees.some_slot;
          some_index = agrees.some_index;
          few_indices = agrees.few_indices;
          whole = length-set slots place 0 ∙ agrees.whole;
          all_counts = replaced_length counts i less ∙ agrees.all_counts;
          reach_high = agrees.reach_high;
          held = λ q' value' place' e. emptied_held q' value' place' e (ℕ_discrete q' q);
          free = λ place' inside. emptied_free place' inside (ℕ_discrete place' place);
          counted = λ j low high. emptied_counted j low high (ℕ_discrete j i);
          distinct = distinct_without q rows agrees.distinct;
          room = omega (arith, without_length q value place rows agrees.distinct found, agrees.room, taken_emptied slots place emptied_inside (row_some m k reach counts slots rows agrees q value place found));
        }

  -- the reach is stored, not below any row's index
  pub agrees_reached : (new : ℕ) → new ≤ k → ((q value place j : ℕ) → entry_of q rows ≡ present value place → Lowest m k q place j → j ≤ new) → Agrees m k new counts slots rows
  agrees_reached new high covers =
      record {
        some_slot = agrees.some_slot;
        some_index = agrees.some_index;
        few_indices = agrees.few_indices;
        whole = agrees.whole;
        all_counts = agrees.all_counts;
        reach_high = high;
        held = λ q value place e.
            let o = agrees.held q value place e in
            record {
              valid = o.valid;
              fits = o.fits;
              shows = o.shows;
              index = o.index;
              lowest = o.lowest;
              reached = covers q value place o.index e o.lowest;
            };
        free = agrees.free;
        counted = agrees.counted;
        distinct = agrees.distinct;
        room = agrees.room;
      }
