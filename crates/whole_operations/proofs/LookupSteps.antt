-- Request N2: "a lookup that finds its point on position i while nothing else moves says i + 1"; one that does not find it says the reach + 1.
use Rattle.std.specs.Prelude.{Some, None}
use Prim.Native.Nat.{ℕ, zero, suc, ◌+◌, ◌≤◌, ◌<◌}
use mathlib.Core.Bool.{Bool, true, false, cond}
use mathlib.Core.List.{List}
use mathlib.Core.Logic.{◌≢◌}
use mathlib.Core.Path.{◌≡◌, refl, sym, subst}
use native.Mathlib.Omega.{arith}
use borrow.Author.Tests.{eqb-true, eqb-false, ltb-false}
use lib.Dec.{eqb, ltb}
use lib.ListN.{length}
use Rattle.slot_words.specs.Word.{point_of, value_of}
use Rattle.record.specs.declared.Record.{Record}
use Rattle.record.specs.declared.Search.TheVariants.{Unread, Probing}
use Rattle.search.specs.declared.Searched.{Searched}
use Rattle.search.specs.declared.Searched.TheVariants.{Going, Answered}
use Rattle.search.specs.Access.{word_read}
use Rattle.search.specs.Search.{search_access, first_probe, next_probe, holds_point, probe_advance, search_advance}
use Rattle.answers.specs.Answers.{completed, ended, Outcome}
use Rattle.reader_step.specs.Reader.{lookup_ending}
use Rattle.reader_starts.specs.Starts.{lookup_refusal}
use Rattle.whole_operations.specs.declared.searching.SearchEnd.{SearchEnd}
use Rattle.whole_operations.specs.Whole.{whole_lookup}
use Rattle.whole_operations.specs.WholeFacts.{end_after, search_end, word_at, LookupTook, found_at, not_found}
use Rattle.whole_operations.proofs.WholeLookup.{looks_up}

module _ (slots : List ℕ) (m point reach : ℕ) where
  -- no position below this index holds the point
  NoneBelow : ℕ → Type 0
  NoneBelow index = (j : ℕ) → 1 ≤ j → j < index → point_of (word_at slots m point j) ≢ point

  -- the answer of a lookup whose search has come to this
  abbrev Took : SearchEnd → Type 0
  Took found = LookupTook slots m point reach (ended (completed (lookup_ending found.answer) found.steps))

  none_more : (index : ℕ) → NoneBelow index → point_of (word_at slots m point index) ≢ point → NoneBelow (index + 1)
  unfolding NoneBelow
  none_more index none other j low high = go (eqb j index) refl
    where
      go : (b : Bool) → eqb j index ≡ b → point_of (word_at slots m point j) ≢ point
      go true e = subst (λ (i : ℕ). point_of (word_at slots m point i) ≢ point) (sym (eqb-true j index e)) other
      go false e = let apart = eqb-false j index e in none j low (omega arith)

  -- from an index on, with as many steps made and none of the positions before it the point's
  probes : (n index : ℕ) → 1 ≤ index → index + n ≡ reach + 1 → NoneBelow index → Took (search_end slots m point reach n index (Probing (record { reach = reach; next = index })))
  unfolding search_end end_after search_access search_advance probe_advance next_probe holds_point word_read lookup_ending NoneBelow
  probes zero index low all none =
      subst (λ (steps : ℕ). LookupTook slots m point reach (ended (completed (lookup_ending None) steps))) (sym (omega arith))
      (not_found (λ j from to. none j from (omega arith)))
  probes (suc n) index low all none = go (eqb (point_of word) point) refl (ltb index reach) refl (λ below. probes n (index + 1) (omega arith) (omega arith) below)
    where
      word : ℕ
      word = word_at slots m point index

      -- how the search stands, by whether the position holds the point and whether it is the last
      stands : (hit more : Bool) → Searched
      stands hit more =
          cond hit (Answered (Some (record { index = index; value = value_of word }))) (cond more (Going (Probing (record { reach = reach; next = index + 1 }))) (Answered None))

      go : (hit : Bool) → eqb (point_of word) point ≡ hit → (more : Bool) → ltb index reach ≡ more → (NoneBelow (index + 1) → Took (search_end slots m point reach n (index + 1) (Probing (record { reach = reach; next = index + 1 })))) → Took (end_after (search_end slots m point reach n (index + 1)) (index + 1) (stands hit more))
      go true e more f rest = found_at index low (omega arith) (eqb-true (point_of word) point e) none
      go false e true f rest = rest (none_more index none (eqb-false (point_of word) point e))
      go false e false f rest =
          let last = ltb-false index reach f in
          let below = none_more index none (eqb-false (point_of word) point e) in
          subst (λ (steps : ℕ). LookupTook slots m point reach (ended (completed (lookup_ending None) steps))) (sym (omega arith))
          (not_found (λ j from to. below j from (omega arith)))

  whole_took : Took (search_end slots m point reach (suc reach) 0 Unread)
  unfolding search_end end_after search_advance first_probe lookup_ending NoneBelow
  whole_took = go (eqb reach 0) refl
    where
      go : (b : Bool) → eqb reach 0 ≡ b → Took (end_after (search_end slots m point reach reach 1) 1 (cond b (Answered None) (Going (Probing (record { reach = reach; next = 1 })))))
      go true e =
          let none = eqb-true reach 0 e in
          subst (λ (steps : ℕ). LookupTook slots m point reach (ended (completed (lookup_ending None) steps))) (sym (omega arith)) (not_found (λ j from to. absurd (omega arith)))
      go false e = probes reach 1 (omega arith) (omega arith) (λ j from to. absurd (omega arith))

-- a whole lookup that is carried out, on the slots as they are
pub lookup_took : (panel : Record) (slots : List ℕ) (reader point : ℕ) → length panel.readers ≡ 16 → lookup_refusal (length slots) panel reader point ≡ 0 → LookupTook slots panel.m point panel.reach (whole_lookup panel slots reader point).answer
lookup_took panel slots reader point sixteen allowed =
    subst (λ (now : Outcome). LookupTook slots panel.m point panel.reach now.answer) (looks_up panel slots reader point sixteen allowed) (whole_took slots panel.m point panel.reach)
