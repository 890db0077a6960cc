-- When a table, that is the slots, the reach and the counts, agrees with a plain list: each row's word stands at its place, at the lowest index of that place, which
-- the reach covers; every other slot is empty; each count is the number of rows of its index. As many rows as taken slots: so a count stays below m while a slot is empty.
use Prim.Native.Nat.{ℕ, ◌≤◌, ◌<◌}
use mathlib.Core.Bool.{Bool, true, false}
use mathlib.Core.Path.{◌≡◌, refl, sym, ap, subst, ◌∙◌}
use mathlib.Core.Logic.{◌⊎◌, inl, inr, ◌≢◌}
use mathlib.Core.List.{List, [], ◌∷◌}
use native.Mathlib.Omega.{arith}
use native.Mathlib.Decide.{ℕ_discrete}
use lib.ListN.{get_or, length}
use Rattle.conditions.proofs.ConditionLaws.{within_low}
use Rattle.hash.proofs.Laws.{position_below}
use Rattle.slot_words.specs.Word.{point_of, value_of, word_of}
use Rattle.slot_words.specs.Taken.{taken_slots}
use Rattle.slot_words.proofs.WordLaws.{word_point, word_value, word_some, word_tells}
use Rattle.slot_words.proofs.TakenLaws.{taken_room}
use Rattle.record.specs.Parts.{numbered}
use Rattle.slot_words.specs.Points.{valid_point}
use Rattle.plain_list.specs.PlainList.{Rows, present, entry_of, with_value, is_place, index_of, largest_index, Each, AtPlace, Shows}
use Rattle.plain_list.proofs.RowLaws.{entry_same, entry_behind, value_same, value_other, Distinct, At, found_place, place_found}
use Rattle.plain_list.proofs.IndexLaws.{Lowest, index_is, count_index, count_high, Indexed, largest_found, largest_bound}

pub valid_low : (q : ℕ) → valid_point q ≡ true → 1 ≤ q
unfolding valid_point
valid_low q h = within_low 1 q 2147483646 h

-- a row in the table
pub record Held (m k reach : ℕ) (slots : List ℕ) (q value place : ℕ) : Type 0 where
  pub valid : valid_point q ≡ true
  pub fits : value < 4294967296
  pub shows : get_or slots place 0 ≡ word_of q value
  pub index : ℕ
  pub lowest : Lowest m k q place index
  pub reached : index ≤ reach

pub record Agrees (m k reach : ℕ) (counts slots : List ℕ) (rows : Rows) : Type 0 where
  pub some_slot : 1 ≤ m
  pub some_index : 1 ≤ k
  pub few_indices : k ≤ 64
  pub whole : length slots ≡ m
  pub all_counts : length counts ≡ 64
  pub reach_high : reach ≤ k
  pub held : (q value place : ℕ) → entry_of q rows ≡ present value place → Held m k reach slots q value place
  pub free : (place : ℕ) → place < m → (get_or slots place 0 ≡ 0) ⊎ At rows place
  pub counted : (i : ℕ) → 1 ≤ i → i ≤ k → numbered counts i 0 ≡ count_index m k i rows
  pub distinct : Distinct rows
  pub room : length rows ≡ taken_slots slots

-- the reach is some row's index, or 0: nothing is to be lowered
abbrev pub Tight : ℕ → ℕ → ℕ → Rows → Type 0
Tight m k reach rows = (reach ≡ 0) ⊎ Indexed m k rows reach

pub tight_value : (m k reach q new : ℕ) (rows : Rows) → Tight m k reach rows → Tight m k reach (with_value q new rows)
tight_value m k reach q new rows (inl z) = inl z
tight_value m k reach q new rows (inr x) = inr (go (ℕ_discrete x.point q))
  where
    go : Dec (x.point ≡ q) → Indexed m k (with_value q new rows) reach
    go (yes e) =
        record {
          point = q;
          value = new;
          place = x.place;
          found = value_same q new rows x.value x.place (rw e at x.found);
          index = rw e at x.index;
        }
    go (no e) =
        record {
          point = x.point;
          value = x.value;
          place = x.place;
          found = value_other q new x.point rows e ∙ x.found;
          index = x.index;
        }

module _ (m k reach : ℕ) (counts slots : List ℕ) (rows : Rows) (agrees : Agrees m k reach counts slots rows) where
  pub place_low : (q place j : ℕ) → Lowest m k q place j → place < m
  place_low q place j l = subst (λ (y : ℕ). y < m) l.at (position_below m q j agrees.some_slot)

  -- two rows at one place are one
  pub one_there : (q value q' value' place : ℕ) → entry_of q rows ≡ present value place → entry_of q' rows ≡ present value' place → q ≡ q'
  one_there q value q' value' place e e' =
      let a = agrees.held q value place e in
      let b = agrees.held q' value' place e' in
      word_tells q value q' value' a.fits b.fits (sym a.shows ∙ b.shows)

  -- what stands in a slot is the row of the point that it shows
  pub shown_row : (q place : ℕ) → 1 ≤ q → place < m → point_of (get_or slots place 0) ≡ q → entry_of q rows ≡ present (value_of (get_or slots place 0)) place
  shown_row q place low inside e = go (agrees.free place inside)
    where
      go : (get_or slots place 0 ≡ 0) ⊎ At rows place → entry_of q rows ≡ present (value_of (get_or slots place 0)) place
      go (inl z) = let y : point_of 0 ≡ q = rw z at e in absurd (omega arith)
      go (inr w) =
          let a = agrees.held w.point w.value place w.found in
          let b : point_of (word_of w.point w.value) ≡ q = rw a.shows at e in
          let c = sym (word_point w.point w.value a.fits) ∙ b in
          let d : value_of (get_or slots place 0) ≡ w.value = rw a.shows (word_value w.point w.value a.fits) in
          sym (ap (λ (x : ℕ). entry_of x rows) c) ∙ w.found ∙ ap (λ (x : ℕ). present x place) (sym d)

  -- a word in a slot is that of a row at this place
  pub word_row : (place : ℕ) → place < m → get_or slots place 0 ≢ 0 → entry_of (point_of (get_or slots place 0)) rows ≡ present (value_of (get_or slots place 0)) place
  word_row place inside some = go (agrees.free place inside)
    where
      go : (get_or slots place 0 ≡ 0) ⊎ At rows place → entry_of (point_of (get_or slots place 0)) rows ≡ present (value_of (get_or slots place 0)) place
      go (inl z) = absurd (some z)
      go (inr w) =
          let a = agrees.held w.point w.value place w.found in
          let b : point_of (get_or slots place 0) ≡ w.point = rw a.shows (word_point w.point w.value a.fits) in
          shown_row (point_of (get_or slots place 0)) place (omega (arith, valid_low w.point a.valid)) inside refl

  -- a row's own slot shows its point
  pub row_shown : (q value place : ℕ) → entry_of q rows ≡ present value place → point_of (get_or slots place 0) ≡ q
  row_shown q value place e = let a = agrees.held q value place e in rw a.shows (word_point q value a.fits)

  -- and is not empty
  pub row_some : (q value place : ℕ) → entry_of q rows ≡ present value place → get_or slots place 0 ≢ 0
  row_some q value place e z =
      let a = agrees.held q value place e in word_some q value (valid_low q a.valid) (sym a.shows ∙ z)

  pub empty_free : (place : ℕ) → get_or slots place 0 ≡ 0 → is_place place rows ≡ false
  empty_free place e = go (is_place place rows) refl
    where
      go : (b : Bool) → is_place place rows ≡ b → b ≡ false
      go true x = let w = place_found place rows agrees.distinct x in absurd (row_some w.point w.value place w.found e)
      go false x = refl

  pub full_taken : (place : ℕ) → place < m → get_or slots place 0 ≢ 0 → is_place place rows ≡ true
  full_taken place inside h = go (agrees.free place inside)
    where
      go : (get_or slots place 0 ≡ 0) ⊎ At rows place → is_place place rows ≡ true
      go (inl z) = absurd (h z)
      go (inr w) = found_place w.point w.value place rows w.found

  -- an empty position: each index has fewer than m rows
  pub count_room : (place i : ℕ) → place < m → 1 ≤ i → i ≤ k → get_or slots place 0 ≡ 0 → numbered counts i 0 < m
  count_room place i inside low high e =
      omega (arith, agrees.counted i low high, count_high m k i rows, agrees.room, agrees.whole, taken_room slots place (omega (arith, agrees.whole)) e)

  -- a row's index by the list's own definition is within the reach
  pub index_reached : (q value place : ℕ) → entry_of q rows ≡ present value place → index_of m k q place ≤ reach
  index_reached q value place e =
      let a = agrees.held q value place e in omega (arith, index_is m k q place a.index a.lowest, a.reached)

  -- a reach that is not to be lowered is the list's largest index
  pub top_is : Tight m k reach rows → largest_index m k rows ≡ reach
  top_is tight =
      let a = largest_bound m k reach rows agrees.distinct index_reached in
      let b = go tight in
      omega arith
    where
      go : Tight m k reach rows → reach ≤ largest_index m k rows
      go (inl z) = omega arith
      go (inr x) = omega (arith, largest_found m k x.point x.value x.place rows x.found, x.index)

  -- the slots show the plain list
  stand_all : (some : Rows) → Distinct some → ((q value place : ℕ) → entry_of q some ≡ present value place → entry_of q rows ≡ present value place) → Each (AtPlace m slots) some
  stand_all [] d among = tt
  stand_all (r ∷ rest) d among =
      let h = agrees.held r.point r.value r.place (among r.point r.value r.place (entry_same r rest)) in (
        record { inside = place_low r.point r.place h.index h.lowest; word = h.shows },
        stand_all rest d.1 (λ q value place e. among q value place (entry_behind q value place r rest d.0 e)),
      )

  pub shows : Shows m slots rows
  shows =
      record {
        whole = agrees.whole;
        words = stand_all rows agrees.distinct (λ q value place e. e);
        others = λ slot inside none. go slot none (agrees.free slot inside);
      }
    where
      go : (slot : ℕ) → is_place slot rows ≡ false → (get_or slots slot 0 ≡ 0) ⊎ At rows slot → get_or slots slot 0 ≡ 0
      go slot none (inl z) = z
      go slot none (inr w) = let taken = found_place w.point w.value slot rows w.found in let z : ◌≡◌ {A = ℕ} 0 1 = cc in absurd (omega arith)
