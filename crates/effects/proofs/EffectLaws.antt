-- Laws of what a step of the writer comes to: an update in range keeps a record in range and leaves the rest of it; and how many steps an operation has
-- left, at most, by which the bounds 2k + 2, k + 2 and k + 3 are shown.
use Prim.Native.Nat.{ℕ, ◌+◌, ◌*◌, ◌-◌, ◌≤◌, ◌<◌, min}
use mathlib.Core.Path.{◌≡◌, refl, sym, ap, ◌∙◌}
use mathlib.Core.Bool.{Bool, true, false, cond, not, false≢true}
use native.Mathlib.Omega.{arith}
use borrow.Author.Tests.{eqb-true, leb-true, ltb-true, ltb-false}
use lib.Dec.{eqb, ltb, leb}
use lib.ListN.{get_or, set}
use lib.Seq.{set-get_or}
use Rattle.conditions.specs.Conditions.{both, within}
use Rattle.conditions.proofs.ConditionLaws.{both_left, both_right, within_low, within_high}
use Rattle.record.specs.declared.Record.{Record}
use Rattle.record.specs.declared.Search.{Search}
use Rattle.record.specs.declared.Search.TheVariants.{Unread, Probing}
use Rattle.record.specs.declared.PutStage.{PutStage}
use Rattle.record.specs.declared.PutStage.TheVariants.{Searching as PutStage-as-Searching, Scanning, Found as PutStage-as-Found, Chosen}
use Rattle.record.specs.declared.ChangeStage.{ChangeStage}
use Rattle.record.specs.declared.ChangeStage.TheVariants.{Searching as ChangeStage-as-Searching, Found as ChangeStage-as-Found}
use Rattle.record.specs.declared.RemovalStage.{RemovalStage}
use Rattle.record.specs.declared.RemovalStage.TheVariants.{Searching as RemovalStage-as-Searching, Found as RemovalStage-as-Found, Lowering}
use Rattle.record.specs.declared.WriterWork.{WriterWork}
use Rattle.record.specs.declared.WriterWork.TheVariants.{Idle, Putting, Changing, Removing}
use Rattle.record.specs.Parts.{unheard_station, numbered, with_numbered, numbered_place, with_reach, with_count, with_station, count_of, with_counts, with_stations}
use Rattle.record.proofs.Numbered.{place_below, numbered_in_place, replaced_in_place}
use Rattle.record_ranges.specs.Ranges.{station_in_range, in_range}
use Rattle.work_ranges.specs.WorkRanges.{writer_in_range}
use Rattle.record_ranges.proofs.Laws.{with_reach_in_range, with_count_in_range, with_station_in_range, count_in_range}
use Rattle.answers.specs.Answers.{step_answer, is_underway}
use Rattle.search.proofs.SearchLaws.{search_left, slot_read}
use Rattle.effects.specs.declared.memory.WriterAccess.{WriterAccess}
use Rattle.effects.specs.declared.memory.WriterAccess.TheVariants.{Read, StoreReach, StoreSlot}
use Rattle.effects.specs.declared.update.Update.{Update}
use Rattle.effects.specs.declared.update.Update.TheVariants.{Nothing, Reach, Counted, Uncounted, Answered}
use Rattle.counting.specs.Counting.{one_more}
use Rattle.effects.specs.Counts.{one_less, counted, uncounted}
use Rattle.effects.specs.Effects.{WriterEffect, updated, reach_after, count_place, count_after, station_after}
use Rattle.record.specs.Idle.{is_writer_idle}

-- what replaces a part of the record is in range, and a command's answer is stored at this place of the stations
unfoldable pub update_in_range : ℕ → ℕ → Update → Bool
update_in_range k place Nothing = true
update_in_range k place (Reach reach) = leb reach k
update_in_range k place (Counted index) = within 1 index k
update_in_range k place (Uncounted index) = within 1 index k
update_in_range k place (Answered command) =
    both (station_in_range command.last) (both (within 1 command.station 32) (eqb place (numbered_place 32 command.station)))

pub updated_in_range : (lent place : ℕ) (panel : Record) (update : Update) → in_range lent panel ≡ true → update_in_range panel.k place update ≡ true → in_range lent (updated panel update) ≡ true
unfolding updated update_in_range counted uncounted
updated_in_range lent place panel Nothing h e = h
updated_in_range lent place panel (Reach reach) h e = with_reach_in_range lent panel h reach (leb-true reach panel.k e)
updated_in_range lent place panel (Counted index) h e =
    with_count_in_range lent panel h index (min (count_of panel index + 1) panel.m) (omega arith)
updated_in_range lent place panel (Uncounted index) h e =
    with_count_in_range lent panel h index (count_of panel index - 1)
    (omega (arith, count_in_range lent panel h index (within_high 1 index panel.k e)))
updated_in_range lent place panel (Answered command) h e = with_station_in_range lent panel h command.station command.last (both_left (station_in_range command.last) _ e)

-- the reach after an access
unfoldable pub reach_stored : ℕ → WriterAccess → ℕ
reach_stored reach (Read access) = reach
reach_stored reach (StoreReach new) = new
reach_stored reach (StoreSlot store) = reach

-- the slot that an access names; 0 where it names none
unfoldable pub slot_named : WriterAccess → ℕ
slot_named (Read access) = slot_read access
slot_named (StoreReach new) = 0
slot_named (StoreSlot store) = store.slot

-- what an update leaves alone, and the reach after it
pub record Updated (panel : Record) (update : Update) : Type 0 where
  pub m_stays : (updated panel update).m ≡ panel.m
  pub k_stays : (updated panel update).k ≡ panel.k
  pub readers_stay : (updated panel update).readers ≡ panel.readers
  pub reach_is_after : (updated panel update).reach ≡ reach_after panel.reach update
  pub place_stays : (updated panel update).place ≡ panel.place

pub update_leaves : (panel : Record) (update : Update) → Updated panel update
unfolding updated counted uncounted with_reach with_count with_counts with_station with_stations
update_leaves panel Nothing = record { m_stays = refl; k_stays = refl; readers_stay = refl; reach_is_after = refl; place_stays = refl }
update_leaves panel (Reach reach) = record { m_stays = refl; k_stays = refl; readers_stay = refl; reach_is_after = refl; place_stays = refl }
update_leaves panel (Counted index) = record { m_stays = refl; k_stays = refl; readers_stay = refl; reach_is_after = refl; place_stays = refl }
update_leaves panel (Uncounted index) = record { m_stays = refl; k_stays = refl; readers_stay = refl; reach_is_after = refl; place_stays = refl }
update_leaves panel (Answered command) = record { m_stays = refl; k_stays = refl; readers_stay = refl; reach_is_after = refl; place_stays = refl }

-- the place of the count is one of the counts
pub count_place_below : (update : Update) → count_place update < 64
unfolding count_place
count_place_below Nothing = omega arith
count_place_below (Reach reach) = omega arith
count_place_below (Counted index) = place_below 64 index (omega arith)
count_place_below (Uncounted index) = place_below 64 index (omega arith)
count_place_below (Answered command) = omega arith

-- an update stores the reach, a count and a station's last command, each at most with another value than before
module _ (panel : Record) (place : ℕ) where
  abbrev in_parts : Update → Record
  in_parts update =
      with_stations
      (with_counts (with_reach panel (reach_after panel.reach update)) (set panel.counts (count_place update) (count_after panel.m update (get_or panel.counts (count_place update) 0))))
      (set panel.stations place (station_after update (get_or panel.stations place unheard_station)))

  same_counts : (at : ℕ) → set panel.counts at (get_or panel.counts at 0) ≡ panel.counts
  same_counts at = set-get_or panel.counts at 0

  same_stations : set panel.stations place (get_or panel.stations place unheard_station) ≡ panel.stations
  same_stations = set-get_or panel.stations place unheard_station

  -- the count of an index is changed at its place
  recounted : (index : ℕ) (after : ℕ → ℕ) → panel.k ≤ 64 → within 1 index panel.k ≡ true → with_numbered panel.counts index (after (numbered panel.counts index 0)) ≡ set panel.counts (numbered_place 64 index) (after (get_or panel.counts (numbered_place 64 index) 0))
  recounted index after high h =
      let low = within_low 1 index panel.k h in
      let under : index ≤ 64 = omega (arith, within_high 1 index panel.k h) in
      replaced_in_place panel.counts 64 index low under (after (numbered panel.counts index 0))
      ∙ ap (λ (count : ℕ). set panel.counts (numbered_place 64 index) (after count)) (numbered_in_place panel.counts 64 index low under 0)

  -- without an update each is stored again as it was
  pub same_in_parts : in_parts Nothing ≡ panel
  unfolding count_place count_after with_reach with_counts with_stations
  same_in_parts = λ j. with_stations (with_counts panel (same_counts 0 j)) (same_stations j)

  pub updated_in_parts : (update : Update) → panel.k ≤ 64 → update_in_range panel.k place update ≡ true → in_parts update ≡ updated panel update
  unfolding updated update_in_range counted uncounted count_place count_after with_reach with_count with_counts with_station with_stations count_of
  updated_in_parts Nothing high h = same_in_parts
  updated_in_parts (Reach reach) high h = λ j. with_stations (with_counts (with_reach panel reach) (same_counts 0 j)) (same_stations j)
  updated_in_parts (Counted index) high h = λ j. with_stations (with_counts panel (sym (recounted index (one_more panel.m) high h) j)) (same_stations j)
  updated_in_parts (Uncounted index) high h = λ j. with_stations (with_counts panel (sym (recounted index one_less high h) j)) (same_stations j)
  updated_in_parts (Answered command) high h =
      let own = both_right (station_in_range command.last) (both (within 1 command.station 32) (eqb place (numbered_place 32 command.station))) h in
      let inside = both_left (within 1 command.station 32) (eqb place (numbered_place 32 command.station)) own in
      let at = eqb-true place (numbered_place 32 command.station) (both_right (within 1 command.station 32) (eqb place (numbered_place 32 command.station)) own) in
      let stored =
      ap (λ (p : ℕ). set panel.stations p command.last) at
      ∙ sym (replaced_in_place panel.stations 32 command.station (within_low 1 command.station 32 inside) (within_high 1 command.station 32 inside) command.last) in
      λ j. with_stations (with_counts panel (same_counts 0 j)) (stored j)

-- a step more where an index exceeds the reach: the one that stores the reach
unfoldable pub raising : ℕ → ℕ → ℕ
raising reach index = cond (ltb reach index) 1 0

pub raising_low : (reach index : ℕ) → index ≤ reach → raising reach index ≡ 0
unfolding raising
raising_low reach index h = go (ltb reach index) refl
  where
    go : (b : Bool) → ltb reach index ≡ b → cond {A = ℕ} b 1 0 ≡ 0
    go true e = absurd (omega (arith, ltb-true reach index e))
    go false e = refl

pub raising_high : (reach index : ℕ) → reach ≤ index → reach + raising reach index ≤ index
unfolding raising
raising_high reach index h = go (ltb reach index) refl
  where
    go : (b : Bool) → ltb reach index ≡ b → reach + cond b 1 0 ≤ index
    go true e = omega (arith, ltb-true reach index e)
    go false e = omega arith

pub raising_grows : (reach index k : ℕ) → index ≤ k → raising reach index ≤ raising reach k
unfolding raising
raising_grows reach index k h = go (ltb reach index) (ltb reach k) refl refl
  where
    go : (a b : Bool) → ltb reach index ≡ a → ltb reach k ≡ b → cond a 1 0 ≤ cond b 1 0
    go true true e f = omega arith
    go true false e f = absurd (omega (arith, ltb-true reach index e, ltb-false reach k f))
    go false true e f = omega arith
    go false false e f = omega arith

-- the steps that are left of a put's first search and what follows it, at most
unfoldable pub put_search_left : ℕ → ℕ → Search → ℕ
put_search_left k reach Unread = 2 * k + 2
put_search_left k reach (Probing probe) = probe.reach - probe.next + 1 + (k + 1 + raising reach k)

-- the steps that are left of a put, at most
unfoldable pub put_left : ℕ → ℕ → PutStage → ℕ
put_left k reach (PutStage-as-Searching search) = put_search_left k reach search
put_left k reach (Scanning next) = k - next + 1 + (1 + raising reach k)
put_left k reach (PutStage-as-Found place) = 1
put_left k reach (Chosen index) = 1 + raising reach index

-- the steps that are left of a change, at most
unfoldable pub change_left : ℕ → ChangeStage → ℕ
change_left k (ChangeStage-as-Searching search) = search_left k search + 1
change_left k (ChangeStage-as-Found place) = 1

-- the steps that are left of a removal, at most
unfoldable pub removal_left : ℕ → RemovalStage → ℕ
removal_left k (RemovalStage-as-Searching search) = search_left k search + 2
removal_left k (RemovalStage-as-Found place) = 2
removal_left k Lowering = 1

-- the steps that are left of the writer's work, at most, with this k and reach
unfoldable pub writer_left : ℕ → ℕ → WriterWork → ℕ
writer_left k reach Idle = 0
writer_left k reach (Putting put) = put_left k reach put.stage
writer_left k reach (Changing change) = change_left k change.stage
writer_left k reach (Removing removal) = removal_left k removal.stage

-- what a step comes to: work and update in range, and a step less to go
pub record OneEffect (k reach place left : ℕ) (effect : WriterEffect) : Type 0 where
  pub work_fits : writer_in_range k effect.work ≡ true
  pub update_fits : update_in_range k place effect.update ≡ true
  -- "A step that ends an operation .. leaves that party idle", and only such a step does
  pub ended : (steps : ℕ) → is_underway (step_answer steps effect.progress) ≡ not (is_writer_idle effect.work)
  pub less : writer_left k (reach_after reach effect.update) effect.work + 1 ≤ left

-- work that goes on has a step left
put_some : (k reach : ℕ) (stage : PutStage) → 1 ≤ put_left k reach stage
unfolding put_left put_search_left
put_some k reach (PutStage-as-Searching Unread) = omega arith
put_some k reach (PutStage-as-Searching (Probing probe)) = omega arith
put_some k reach (Scanning index) = omega arith
put_some k reach (PutStage-as-Found place) = omega arith
put_some k reach (Chosen index) = omega arith

change_some : (k : ℕ) (stage : ChangeStage) → 1 ≤ change_left k stage
unfolding change_left
change_some k (ChangeStage-as-Searching search) = omega arith
change_some k (ChangeStage-as-Found place) = omega arith

removal_some : (k : ℕ) (stage : RemovalStage) → 1 ≤ removal_left k stage
unfolding removal_left
removal_some k (RemovalStage-as-Searching search) = omega arith
removal_some k (RemovalStage-as-Found place) = omega arith
removal_some k Lowering = omega arith

pub some_left : (k reach : ℕ) (work : WriterWork) → is_writer_idle work ≡ false → 1 ≤ writer_left k reach work
unfolding writer_left
some_left k reach Idle e = absurd (false≢true (sym e))
some_left k reach (Putting put) e = put_some k reach put.stage
some_left k reach (Changing change) e = change_some k change.stage
some_left k reach (Removing removal) e = removal_some k removal.stage
