-- What the claim says of turns: it follows from the invariant and from what is kept of the turns, by what each call is answered.
use Prim.Native.Nat.{ℕ, zero, suc, ◌+◌, ◌≤◌, ◌<◌}
use mathlib.Core.Bool.{Bool, true, false, not, false≢true}
use mathlib.Core.Path.{◌≡◌, refl, sym, ap, subst, ◌∙◌}
use mathlib.Core.Logic.{◌⊎◌, inl, inr}
use mathlib.Core.List.{List, []}
use native.Mathlib.Omega.{arith}
use borrow.Author.Tests.{eqb-false, ltb-true, ltb-false, not-true}
use lib.Dec.{eqb, ltb}
use lib.ListN.{length}
use Rattle.refusal.proofs.Laws.{not_refused}
use Rattle.record.specs.declared.ReaderWork.{ReaderWork}
use Rattle.record.specs.declared.ReaderWork.TheVariants.{Idle, LookingUp, Walking}
use Rattle.record.specs.Parts.{work_of}
use Rattle.record_ranges.proofs.Laws.{work_in_range_lem}
use Rattle.work_ranges.specs.WorkRanges.{work_in_range}
use Rattle.answers.specs.Answers.{Ending, Answer, refused, is_refused, Outcome}
use Rattle.plain_list.proofs.Agreement.{shows}
use Rattle.search.proofs.SearchLaws.{some_left as search_left_lem}
use Rattle.effects.proofs.EffectLaws.{some_left as writer-left}
use Rattle.command.specs.Command.{sent_in}
use Rattle.circle.specs.Circle.{nobody, party_due}
use Rattle.circle.proofs.CircleLaws.{Due, due_works}
use Rattle.calls.specs.declared.Call.{Call}
use Rattle.calls.specs.declared.Call.TheVariants.{StartLookup, StartWalk, StepReader, StartPut, StartChange, StartRemoval, StartCommand, StepWriter, Turn}
use Rattle.history.specs.Log.{Reading, Role, writer_start, Log, is_idle, is_nothing, has_work, due_in, step_of, role_of, served_by}
use Rattle.history.specs.World.{ReaderNotes, TurnNotes, World, steps_of, turns_passed, noted}
use Rattle.history.specs.Claim.{refusal_due, last_ended, CommandRight, ReaderRight, lookup_underway, lookup_ended, walk_underway, walk_ended, writer_underway, writer_ended, PartyRight, serves, CarriedOut, AnsweredBy, Right, reading_bound, party_bound, SteppedInTurn, StepInTurn, WorldRight}
use Rattle.history.proofs.Readers.{ReaderOK, reading_of}
use Rattle.history.proofs.Invariant.{Inv}
use Rattle.history.proofs.Kept.{writer_is_idle}
use Rattle.history.proofs.Turns.{TurnsOK, Made, reader_starts, writer_starts, refused_step, makes_step, turns_of_step}

-- ---- what each call has made
-- a step that is answered right was carried out, and is no turn by itself
party_carried : (m k : ℕ) (before after : World) (party : ℕ) (answer : Answer) → PartyRight m k before after party answer → is_refused answer ≡ false
party_carried m k before after zero answer (writer_underway left) = refl
party_carried m k before after zero answer (writer_ended completion right) = refl
party_carried m k before after (suc reader) answer right = given right
  where
    given : {slots : List ℕ} {rows : _} {notes : ReaderNotes} {reading : Reading} {a : Answer} → ReaderRight m k slots rows notes reading a → is_refused a ≡ false
    given (lookup_underway left) = refl
    given (lookup_ended completion right) = refl
    given (walk_underway word right more) = refl
    given (walk_ended word right all once) = refl

party_direct : (m k : ℕ) (before after : World) (party : ℕ) (answer : Answer) → PartyRight m k before after party answer → served_by answer ≡ []
party_direct m k before after zero answer (writer_underway left) = refl
party_direct m k before after zero answer (writer_ended completion right) = refl
party_direct m k before after (suc reader) answer right = given right
  where
    given : {slots : List ℕ} {rows : _} {notes : ReaderNotes} {reading : Reading} {a : Answer} → ReaderRight m k slots rows notes reading a → served_by a ≡ []
    given (lookup_underway left) = refl
    given (lookup_ended completion right) = refl
    given (walk_underway word right more) = refl
    given (walk_ended word right all once) = refl

-- a refused call
refused_made : (log : Log) (call : Call) (frame : List ℕ) (n : ℕ) → Made log (role_of call frame (refused n)) (refused n)
unfolding role_of
refused_made log (StartLookup reader point) frame n = reader_starts refl
refused_made log (StartWalk reader) frame n = reader_starts refl
refused_made log (StepReader reader) frame n = refused_step (suc reader) refl refl refl
refused_made log (StartPut point value) frame n = writer_starts refl
refused_made log (StartChange point keep flip) frame n = writer_starts refl
refused_made log (StartRemoval point) frame n = writer_starts refl
refused_made log StartCommand frame n = writer_starts refl
refused_made log StepWriter frame n = refused_step 0 refl refl refl
refused_made log Turn frame n = refused_step nobody refl refl refl

module _ (m k : ℕ) (before after : World) (place_low : before.log.place ≤ 16) where
  abbrev log : Log
  log = before.log

  -- the party due has work, if somebody is due
  due_has_work : eqb (due_in log) nobody ≡ false → Due (has_work log) (due_in log)
  unfolding due_in party_due
  due_has_work some = go _ (eqb-false _ nobody some) (due_works (has_work log) 17 log.place place_low)
    where
      go : (party : ℕ) → (party ≡ nobody → ⊥) → (party ≡ nobody) ⊎ Due (has_work log) party → Due (has_work log) party
      go party some (inl none) = absurd (some none)
      go party some (inr d) = d

  command_made : (again : Bool) (stored : Ending) (answer : Answer) (begun : _) → CommandRight again stored before after answer → Made log (writer_start begun) answer
  command_made true stored answer begun right = subst (Made log (writer_start begun)) (sym right.0) (writer_starts refl)
  command_made false stored answer begun right = subst (Made log (writer_start begun)) (sym right) (writer_starts refl)

  -- a call that is carried out
  carried_made : (call : Call) (frame : List ℕ) (answer : Answer) → refusal_due log call frame ≡ 0 → CarriedOut m k before after call frame answer → Made log (role_of call frame answer) answer
  unfolding role_of refusal_due has_work
  carried_made (StartLookup reader point) frame answer due right = subst (Made log _) (sym right) (reader_starts refl)
  carried_made (StartWalk reader) frame answer due right = subst (Made log _) (sym right) (reader_starts refl)
  carried_made (StepReader reader) frame answer due right =
      let a = not_refused (ltb 15 reader) 3 _ (omega arith) due in
      let b = not_refused (is_idle (log.readers reader)) 5 0 (omega arith) a.1 in
      let low = ltb-false 15 reader a.0 in
      makes_step (suc reader) (omega arith) (ap not b.0) (party_carried m k before after (suc reader) answer right) (inl (party_direct m k before after (suc reader) answer right))
  carried_made (StartPut point value) frame answer due right = subst (Made log _) (sym right) (writer_starts refl)
  carried_made (StartChange point keep flip) frame answer due right = subst (Made log _) (sym right) (writer_starts refl)
  carried_made (StartRemoval point) frame answer due right = subst (Made log _) (sym right) (writer_starts refl)
  carried_made StartCommand frame answer due right = command_made (eqb (sent_in frame).number (last_ended log (sent_in frame)).sent.number) (last_ended log (sent_in frame)).answer answer _ right
  carried_made StepWriter frame answer due right =
      let a = not_refused (is_nothing log.writer.operation) 5 0 (omega arith) due in
      makes_step 0 (omega arith) (ap not a.0) (party_carried m k before after 0 answer right) (inl (party_direct m k before after 0 answer right))
  carried_made Turn frame answer due (serves given right) =
      let a = not_refused (eqb (due_in log) nobody) 5 0 (omega arith) due in
      let d = due_has_work a.0 in
      makes_step (due_in log) d.low d.has_some_work (party_carried m k before after (due_in log) given right) (inr (refl, refl))

  pub made : (call : Call) (frame : List ℕ) (answer : Answer) → Right m k before after call frame answer → Made log (role_of call frame answer) answer
  made call frame answer right = go (refusal_due log call frame) refl right
    where
      go : (n : ℕ) → refusal_due log call frame ≡ n → AnsweredBy n m k before after call frame answer → Made log (role_of call frame answer) answer
      go zero due right = carried_made call frame answer due right
      go (suc n) due right = subst (λ (a : Answer). Made log (role_of call frame a) a) (sym right.0) (refused_made log call frame (suc n))

-- ---- what the claim says of a world, and of a step
module _ (world : World) (inv : Inv world.panel.m world.panel.k world) (turns : TurnsOK world) where
  abbrev m : ℕ
  m = world.panel.m

  abbrev k : ℕ
  k = world.panel.k

  -- an operation underway may take more steps
  reader_below : (reader : ℕ) (work : ReaderWork) → work_in_range m k work ≡ true → ReaderOK m k world.rows (world.readers reader) work → not (is_idle (reading_of work)) ≡ true → (world.readers reader).steps < reading_bound m k (reading_of work)
  unfolding reading_bound work_in_range
  reader_below reader Idle fits ok works = absurd (false≢true works)
  reader_below reader (LookingUp lookup) fits ok works = omega (arith, ok.left, search_left_lem k lookup.search)
  reader_below reader (Walking walk) fits ok works = omega (arith, ok.steps, ltb-true walk.next m fits)

  steps_below : (party : ℕ) → has_work world.log party ≡ true → steps_of world party < party_bound m k world.log party
  unfolding has_work party_bound
  steps_below zero works =
      let busy = writer_is_idle world inv ∙ not-true _ works in
      omega (arith, inv.writer.left, writer-left k world.panel.reach world.panel.writer.work busy)
  steps_below (suc reader) works =
      subst (λ (reading : Reading). not (is_idle reading) ≡ true → (world.readers reader).steps < reading_bound m k reading) (sym (inv.reading reader))
      (reader_below reader (work_of world.panel reader) (work_in_range_lem (length world.slots) world.panel reader inv.fits) (inv.readers reader)) works

  pub world_right : WorldRight m k world
  world_right =
      record {
        m_stays = refl;
        k_stays = refl;
        slots_show = shows m k world.panel.reach world.panel.counts world.slots world.rows inv.agrees;
        acts_once = inv.commands.acts_once;
        ends_once = inv.commands.ends_once;
        steps_in_turn =
            λ party low works.
            let ok = turns.each party low works in
            let more = steps_below party works in
            record { served_soon = omega (arith, ok.waits); ends_soon = omega (arith, ok.waits, ok.sees) };
      }

  -- a step
  module _ (after : Outcome) where
    seen_after : (party : ℕ) → ((noted world (step_of party) after).turns party).seen ≡ (world.turns party).seen + length (served_by after.answer)
    unfolding noted turns_passed
    seen_after party = ap (λ (notes : TurnNotes). notes.seen) (turns_of_step after.answer party party (world.turns party))

    stepped : (party : ℕ) → party ≤ 16 → has_work world.log party ≡ true → length (served_by after.answer) ≤ 1 → SteppedInTurn m k world (noted world (step_of party) after) party
    stepped party low works few =
        let ok = turns.each party low works in
        let more = steps_below party works in
        let seen = seen_after party in
        record { by_steps = omega (arith, ok.waits, ok.sees); in_all = omega (arith, ok.waits, ok.sees) }

    by_party : (party : ℕ) → (is_refused after.answer ≡ false → SteppedInTurn m k world (noted world (step_of party) after) party) → StepInTurn m k world (noted world (step_of party) after) (step_of party) after.answer
    by_party zero holds = holds
    by_party (suc reader) holds = holds

    pub step_in_turn : (role : Role) → Made world.log role after.answer → StepInTurn m k world (noted world role after) role after.answer
    step_in_turn role (reader_starts none) = tt
    step_in_turn role (writer_starts none) = tt
    step_in_turn role (refused_step party gone on none) = by_party party (λ carried. absurd (false≢true (sym carried ∙ gone)))
    step_in_turn role (makes_step party low works carried (inl none)) = by_party party (λ c. stepped party low works (let n = ap length none in omega arith))
    step_in_turn role (makes_step party low works carried (inr one)) = by_party party (λ c. stepped party low works (let n = ap length one.0 in omega arith))
