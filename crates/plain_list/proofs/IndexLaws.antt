-- Laws of indices: a row's index is the lowest whose position is the row's place; the first free position; how many rows have an index; the largest index.
use Prim.Native.Nat.{ℕ, zero, suc, ◌+◌, ◌≤◌, ◌<◌, max}
use mathlib.Core.Bool.{Bool, true, false, cond, not}
use mathlib.Core.Path.{◌≡◌, refl, sym, ap, ◌∙◌}
use mathlib.Core.Logic.{◌≢◌}
use mathlib.Core.List.{[], ◌∷◌}
use native.Mathlib.Omega.{arith}
use native.Mathlib.Decide.{ℕ_discrete}
use lib.Dec.{eqb}
use lib.ListN.{length}
use borrow.Author.Tests.{eqb-true, eq-eqb, ne_eqb}
use Rattle.refusal.specs.Judging.{or_else}
use Rattle.refusal.proofs.Laws.{else_refused}
use Rattle.hash.specs.Position.{position_of}
use Rattle.plain_list.specs.PlainList.{Row, Rows, absent, present, entry_of, with_value, without, is_place, lowest, index_of, first_free, largest_index}
use Rattle.plain_list.proofs.RowLaws.{present≢absent, entry_same, entry_behind, without_absent, Distinct}

module _ (test : ℕ → Bool) where
  pub lowest_none : (n : ℕ) → ((i : ℕ) → 1 ≤ i → i ≤ n → test i ≡ false) → lowest test n ≡ 0
  unfolding lowest or_else
  lowest_none zero h = refl
  lowest_none (suc n) h = rw (lowest_none n (λ i a b. h i a (omega arith)), h (suc n) (omega arith) (omega arith))

  pub lowest_is : (n j : ℕ) → 1 ≤ j → j ≤ n → test j ≡ true → ((i : ℕ) → 1 ≤ i → i < j → test i ≡ false) → lowest test n ≡ j
  unfolding lowest or_else
  lowest_is zero j a b c d = absurd (omega arith)
  lowest_is (suc n) j a b c d = go (ℕ_discrete j (suc n)) (λ (l : j ≤ n). lowest_is n j a l c d)
    where
      here : j ≡ suc n → or_else (lowest test n) (cond (test (suc n)) (suc n) 0) ≡ j
      here e = rw (lowest_none n (λ i x y. d i x (omega arith)), ap test (sym e) ∙ c) (sym e)

      go : Dec (j ≡ suc n) → (j ≤ n → lowest test n ≡ j) → or_else (lowest test n) (cond (test (suc n)) (suc n) 0) ≡ j
      go (yes e) ih = here e
      go (no e) ih = ap (λ (x : ℕ). or_else x (cond (test (suc n)) (suc n) 0)) (ih (omega arith)) ∙ else_refused j _ a

module _ (m k : ℕ) where
  -- j is the lowest of 1 to k whose position is the place
  pub record Lowest (q place j : ℕ) : Type 0 where
    pub low : 1 ≤ j
    pub high : j ≤ k
    pub at : position_of m q j ≡ place
    pub first : (i : ℕ) → 1 ≤ i → i < j → position_of m q i ≢ place

  pub index_is : (q place j : ℕ) → Lowest q place j → index_of m k q place ≡ j
  unfolding index_of
  index_is q place j l =
      lowest_is (λ (i : ℕ). eqb (position_of m q i) place) k j l.low l.high (eq-eqb (position_of m q j) place l.at)
      (λ i a b. ne_eqb (position_of m q i) place (l.first i a b))

  -- two lowest indices are one
  pub lowest_one : (q place i j : ℕ) → Lowest q place i → Lowest q place j → i ≡ j
  lowest_one q place i j a b = sym (index_is q place i a) ∙ index_is q place j b

  pub free_is : (q j : ℕ) (rows : Rows) → 1 ≤ j → j ≤ k → is_place (position_of m q j) rows ≡ false → ((i : ℕ) → 1 ≤ i → i < j → is_place (position_of m q i) rows ≡ true) → first_free m k q rows ≡ j
  unfolding first_free
  free_is q j rows a b free taken =
      lowest_is (λ (i : ℕ). not (is_place (position_of m q i) rows)) k j a b (ap not free) (λ i x y. ap not (taken i x y))

  pub none_free : (q : ℕ) (rows : Rows) → ((i : ℕ) → 1 ≤ i → i ≤ k → is_place (position_of m q i) rows ≡ true) → first_free m k q rows ≡ 0
  unfolding first_free
  none_free q rows taken = lowest_none (λ (i : ℕ). not (is_place (position_of m q i) rows)) k (λ i a b. ap not (taken i a b))

  -- how many rows have this index
  unfoldable pub count_index : ℕ → Rows → ℕ
  count_index i [] = 0
  count_index i (r ∷ rows) = cond (eqb (index_of m k r.point r.place) i) 1 0 + count_index i rows

  -- a row of this index
  pub record Indexed (rows : Rows) (i : ℕ) : Type 0 where
    pub point : ℕ
    pub value : ℕ
    pub place : ℕ
    pub found : entry_of point rows ≡ present value place
    pub index : index_of m k point place ≡ i

  pub indexed_behind : (r : Row) (rows : Rows) (i : ℕ) → entry_of r.point rows ≡ absent → Indexed rows i → Indexed (r ∷ rows) i
  indexed_behind r rows i none x =
      record {
        point = x.point;
        value = x.value;
        place = x.place;
        found = entry_behind x.point x.value x.place r rows none x.found;
        index = x.index;
      }

  pub found_counted : (q value place : ℕ) (rows : Rows) → entry_of q rows ≡ present value place → 1 ≤ count_index (index_of m k q place) rows
  unfolding entry_of count_index
  found_counted q value place [] e = present≢absent (sym e)
  found_counted q value place (r ∷ rows) e = go (eqb r.point q) refl (found_counted q value place rows) e
    where
      go : (b : Bool) → eqb r.point q ≡ b → (entry_of q rows ≡ present value place → 1 ≤ count_index (index_of m k q place) rows) → cond b (present r.value r.place) (entry_of q rows) ≡ present value place → 1 ≤ cond (eqb (index_of m k r.point r.place) (index_of m k q place)) 1 0 + count_index (index_of m k q place) rows
      go true f ih e =
          let a = eqb-true r.point q f in
          let b : r.place ≡ place = cc in
          let same : index_of m k r.point r.place ≡ index_of m k q place = cc in
          rw (eq-eqb (index_of m k r.point r.place) (index_of m k q place) same) (omega arith)
      go false f ih e = omega (arith, ih e)

  pub counted_found : (i : ℕ) (rows : Rows) → Distinct rows → 1 ≤ count_index i rows → Indexed rows i
  unfolding count_index
  counted_found i [] d h = absurd (omega arith)
  counted_found i (r ∷ rows) d h = go (eqb (index_of m k r.point r.place) i) refl (counted_found i rows d.1) h
    where
      go : (b : Bool) → eqb (index_of m k r.point r.place) i ≡ b → (1 ≤ count_index i rows → Indexed rows i) → 1 ≤ cond b 1 0 + count_index i rows → Indexed (r ∷ rows) i
      go true e ih h =
          record {
            point = r.point;
            value = r.value;
            place = r.place;
            found = entry_same r rows;
            index = eqb-true (index_of m k r.point r.place) i e;
          }
      go false e ih h = indexed_behind r rows i d.0 (ih (omega arith))

  pub count_value : (i q new : ℕ) (rows : Rows) → count_index i (with_value q new rows) ≡ count_index i rows
  unfolding count_index with_value
  count_value i q new [] = refl
  count_value i q new (r ∷ rows) = omega (arith, count_value i q new rows)

  pub count_without : (i q value place : ℕ) (rows : Rows) → Distinct rows → entry_of q rows ≡ present value place → count_index i rows ≡ cond (eqb (index_of m k q place) i) 1 0 + count_index i (without q rows)
  unfolding entry_of count_index without
  count_without i q value place [] d e = present≢absent (sym e)
  count_without i q value place (r ∷ rows) d e = go (eqb r.point q) refl (count_without i q value place rows d.1) e
    where
      go : (b : Bool) → eqb r.point q ≡ b → (entry_of q rows ≡ present value place → count_index i rows ≡ cond (eqb (index_of m k q place) i) 1 0 + count_index i (without q rows)) → cond b (present r.value r.place) (entry_of q rows) ≡ present value place → cond (eqb (index_of m k r.point r.place) i) 1 0 + count_index i rows ≡ cond (eqb (index_of m k q place) i) 1 0 + count_index i (cond b (without q rows) (r ∷ without q rows))
      go true f ih e =
          let a = eqb-true r.point q f in
          let b : r.place ≡ place = cc in
          let c = without_absent q rows (ap (λ (x : ℕ). entry_of x rows) (sym a) ∙ d.0) in
          cc
      go false f ih e = omega (arith, ih e)

  pub count_high : (i : ℕ) (rows : Rows) → count_index i rows ≤ length rows
  unfolding count_index
  count_high i [] = omega arith
  count_high i (r ∷ rows) = go (eqb (index_of m k r.point r.place) i) (count_high i rows)
    where
      go : (b : Bool) → count_index i rows ≤ length rows → cond b 1 0 + count_index i rows ≤ suc (length rows)
      go true h = omega arith
      go false h = omega arith

  pub largest_found : (q value place : ℕ) (rows : Rows) → entry_of q rows ≡ present value place → index_of m k q place ≤ largest_index m k rows
  unfolding entry_of largest_index
  largest_found q value place [] e = present≢absent (sym e)
  largest_found q value place (r ∷ rows) e = go (eqb r.point q) refl (largest_found q value place rows) e
    where
      go : (b : Bool) → eqb r.point q ≡ b → (entry_of q rows ≡ present value place → index_of m k q place ≤ largest_index m k rows) → cond b (present r.value r.place) (entry_of q rows) ≡ present value place → index_of m k q place ≤ max (index_of m k r.point r.place) (largest_index m k rows)
      go true f ih e =
          let a = eqb-true r.point q f in
          let b : r.place ≡ place = cc in
          let same : index_of m k r.point r.place ≡ index_of m k q place = cc in
          omega arith
      go false f ih e = omega (arith, ih e)

  pub largest_bound : (n : ℕ) (rows : Rows) → Distinct rows → ((q value place : ℕ) → entry_of q rows ≡ present value place → index_of m k q place ≤ n) → largest_index m k rows ≤ n
  unfolding largest_index
  largest_bound n [] d h = omega arith
  largest_bound n (r ∷ rows) d h =
      let a = h r.point r.value r.place (entry_same r rows) in
      let b = largest_bound n rows d.1 (λ q value place e. h q value place (entry_behind q value place r rows d.0 e)) in
      omega arith
