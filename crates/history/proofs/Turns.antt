-- The turns that a party at work has seen: those since it was started or last stepped, and its distance from the place in the circle, are never more than 16
-- together, and those since it was started are at most 17 for each of its steps, and these. Every call keeps this, whatever it is, so it is shown of the notes alone.
use Prim.Native.Nat.{ℕ, zero, suc, ◌+◌, ◌*◌, ◌≤◌}
use mathlib.Core.Bool.{Bool, true, false, cond, not, false≢true}
use mathlib.Core.Path.{◌≡◌, refl, sym, ap, subst, ◌∙◌}
use mathlib.Core.Logic.{◌⊎◌, inl, inr, ◌≢◌}
use mathlib.Core.List.{List, [], ◌∷◌}
use native.Mathlib.Omega.{arith}
use native.Mathlib.Decide.{ℕ_discrete}
use borrow.Author.Tests.{eq-eqb, ne_eqb}
use lib.Dec.{eqb}
use lib.ListN.{length}
use Rattle.conditions.specs.Conditions.{both}
use Rattle.conditions.proofs.ConditionLaws.{both_with}
use Rattle.answers.specs.Answers.{Answer, has_ended, is_started, is_refused, Outcome}
use Rattle.circle.specs.Circle.{party_after, party_due}
use Rattle.circle.proofs.CircleLaws.{gap, gap_low, after_low, someone_due}
use Rattle.plain_list.specs.PlainList.{nothing}
use Rattle.history.specs.Log.{Reading, idle, Writing, writing, Role, reader_start, writer_start, Log, is_idle, is_nothing, has_work, due_in, step_of, writing_after, reading_after, served_by, place_moved, log_after, fresh_log}
use Rattle.history.specs.World.{ReaderNotes, TurnNotes, no_turns, World, stepped_writer, writer_stepped, writer_now, stepped_reader, reader_now, turns_passed, turns_now, steps_of, noted, fresh_world}
use Rattle.history.proofs.Readers.{steps_stay}

-- what holds of a party at work
pub record PartyOK (place party steps : ℕ) (notes : TurnNotes) : Type 0 where
  pub waits : notes.waited + gap place party ≤ 16
  pub sees : notes.seen ≤ 17 * steps + notes.waited

-- and so of each that is
pub record TurnsOK (world : World) : Type 0 where
  pub place_low : world.log.place ≤ 16
  pub each : (party : ℕ) → party ≤ 16 → has_work world.log party ≡ true → PartyOK world.log.place party (steps_of world party) (world.turns party)

-- what a call has come to, for the turns: a start, or none; a step that was refused; or a step of a party at work, by a call of its own or by a turn that was due to it
pub data Made (log : Log) : Role → Answer → Type 0 where
  reader_starts : {reader : ℕ} {begun : _} {answer : Answer} → served_by answer ≡ [] → Made log (reader_start reader begun) answer
  writer_starts : {begun : _} {answer : Answer} → served_by answer ≡ [] → Made log (writer_start begun) answer
  refused_step : (party : ℕ) {answer : Answer} → is_refused answer ≡ true → has_ended answer ≡ false → served_by answer ≡ [] → Made log (step_of party) answer
  makes_step : (party : ℕ) {answer : Answer} → party ≤ 16 → has_work log party ≡ true → is_refused answer ≡ false → (served_by answer ≡ []) ⊎ ((served_by answer ≡ party ∷ []) × (party ≡ due_in log)) → Made log (step_of party) answer

-- ---- what a call makes of who has work, by its tests
writer_still : (over : Bool) (before : Writing) → not (is_nothing (cond over (writing nothing []) before).operation) ≡ true → (not (is_nothing before.operation) ≡ true) × (over ≡ false)
writer_still true before works = absurd (false≢true works)
writer_still false before works = (works, refl)

reader_still : (over same : Bool) (before : Reading) → not (is_idle (cond (both over same) idle before)) ≡ true → (not (is_idle before) ≡ true) × (same ≡ true → over ≡ false)
unfolding both
reader_still true true before works = absurd (false≢true works)
reader_still true false before works = (works, λ e. absurd (false≢true e))
reader_still false same before works = (works, λ e. refl)

writer_began : (begins : Bool) (begun before : Writing) → not (is_nothing (cond begins begun before).operation) ≡ true → begins ≡ false → not (is_nothing before.operation) ≡ true
writer_began true begun before works e = absurd (false≢true (sym e))
writer_began false begun before works e = works

reader_began : (begins : Bool) (begun before : Reading) → not (is_idle (cond begins begun before)) ≡ true → begins ≡ false → not (is_idle before) ≡ true
reader_began true begun before works e = absurd (false≢true (sym e))
reader_began false begun before works e = works

-- two numbers and those after them are equal together
suc_eqb : (i j : ℕ) → eqb (suc i) (suc j) ≡ eqb i j
suc_eqb i j = go (ℕ_discrete i j)
  where
    go : Dec (i ≡ j) → eqb (suc i) (suc j) ≡ eqb i j
    go (yes e) = eq-eqb (suc i) (suc j) (ap suc e) ∙ sym (eq-eqb i j e)
    go (no e) = ne_eqb (suc i) (suc j) (λ same. e (omega arith)) ∙ sym (ne_eqb i j e)

-- whose step it was has not ended where it has work
still_works : (log : Log) (party : ℕ) (answer : Answer) (other : ℕ) → has_work (log_after log (step_of party) answer) other ≡ true → (has_work log other ≡ true) × (other ≡ party → has_ended answer ≡ false)
unfolding has_work log_after writing_after reading_after
still_works log zero answer zero works = let w = writer_still (has_ended answer) log.writer works in (w.0, λ same. w.1)
still_works log zero answer (suc n) works = (works, λ same. absurd (omega arith))
still_works log (suc reader) answer zero works = (works, λ same. absurd (omega arith))
still_works log (suc reader) answer (suc n) works =
    let w = reader_still (has_ended answer) (eqb reader n) (log.readers n) works in (w.0, λ same. w.1 (eq-eqb reader n (omega arith)))

-- the notes that a step's tests choose
chosen : {A : Type 0} (P : A → Type 0) (gone same over : Bool) (x y z : A) → gone ≡ false → same ≡ true → over ≡ false → P y → P (cond (both (not gone) same) (cond over x y) z)
unfolding both
chosen P true same over x y z g s o p = absurd (false≢true (sym g))
chosen P false true true x y z g s o p = absurd (false≢true (sym o))
chosen P false true false x y z g s o p = p
chosen P false false over x y z g s o p = absurd (false≢true s)

not_chosen : {A : Type 0} (P : A → Type 0) (carried same : Bool) (x z : A) → same ≡ false → P z → P (cond (both carried same) x z)
unfolding both
not_chosen P carried true x z e p = absurd (false≢true (sym e))
not_chosen P true false x z e p = p
not_chosen P false false x z e p = p

-- ---- the steps that are noted after a call
module _ (world : World) (after : Outcome) where
  abbrev answer : Answer
  answer = after.answer

  own_steps : (party : ℕ) → is_refused answer ≡ false → has_ended answer ≡ false → steps_of (noted world (step_of party) after) party ≡ steps_of world party + 1
  unfolding noted writer_now writer_stepped stepped_writer reader_now stepped_reader both
  own_steps zero given on = rw (given, on)
  own_steps (suc reader) given on = chosen (λ (n : ReaderNotes). n.steps ≡ (world.readers reader).steps + 1) (is_refused answer) (eqb reader reader) (has_ended answer) _ _ _ given (eq-eqb reader reader refl) on refl

  other_steps : (party other : ℕ) → other ≢ party → steps_of (noted world (step_of party) after) other ≡ steps_of world other
  unfolding noted writer_now reader_now
  other_steps zero zero h = absurd (h refl)
  other_steps zero (suc n) h = steps_stay (world.readers n) _
  other_steps (suc reader) zero h = refl
  other_steps (suc reader) (suc n) h =
      not_chosen (λ (notes : ReaderNotes). notes.steps ≡ (world.readers n).steps) (not (is_refused answer)) (eqb reader n) _ _ (ne_eqb reader n (λ same. h (omega arith))) (steps_stay (world.readers n) _)

  refused_steps : (party other : ℕ) → is_refused answer ≡ true → steps_of (noted world (step_of party) after) other ≡ steps_of world other
  unfolding noted writer_now reader_now both
  refused_steps zero zero e = rw e
  refused_steps zero (suc n) e = steps_stay (world.readers n) _
  refused_steps (suc reader) zero e = refl
  refused_steps (suc reader) (suc n) e = rw e (steps_stay (world.readers n) _)

-- ---- what holds of a party goes on to hold
-- a party that has been started
begun_ok : (begins : Bool) (place party steps : ℕ) (notes : TurnNotes) → place ≤ 16 → party ≤ 16 → (begins ≡ false → PartyOK place party steps notes) → PartyOK place party steps (cond begins no_turns notes)
unfolding no_turns
begun_ok true place party steps notes low inside before = let near = gap_low place party low inside in record { waits = omega arith; sees = omega arith }
begun_ok false place party steps notes low inside before = before refl

-- no turn passes
same_ok : (place party steps : ℕ) (notes : TurnNotes) (n : ℕ) → n ≡ 0 → PartyOK place party steps notes → PartyOK place party steps (record { seen = notes.seen + n; waited = notes.waited + n })
same_ok place party steps notes n e ok = let w = ok.waits in let s = ok.sees in record { waits = omega arith; sees = omega arith }

-- a turn that serves another
passed_ok : (place next party steps : ℕ) (notes : TurnNotes) (n : ℕ) → n ≡ 1 → gap next party + 1 ≤ gap place party → PartyOK place party steps notes → PartyOK next party steps (record { seen = notes.seen + n; waited = notes.waited + n })
passed_ok place next party steps notes n e nearer ok = let w = ok.waits in let s = ok.sees in record { waits = omega arith; sees = omega arith }

-- its own step
stepped_ok : (place next party steps : ℕ) (notes : TurnNotes) (n : ℕ) → n ≤ 1 → next ≤ 16 → party ≤ 16 → PartyOK place party steps notes → PartyOK next party (steps + 1) (record { seen = notes.seen + n; waited = 0 })
stepped_ok place next party steps notes n few low inside ok =
    let w = ok.waits in
    let s = ok.sees in
    let near = gap_low next party low inside in
    record { waits = omega arith; sees = omega arith }

-- what is noted of the turns after a step: the party's own, another's, and one that was refused
pub turns_of_step : (answer : Answer) (party other : ℕ) (notes : TurnNotes) → turns_now answer (step_of party) other notes ≡ turns_passed answer (eqb party other) notes
unfolding turns_now
turns_of_step answer zero other notes = refl
turns_of_step answer (suc reader) other notes = refl

own_turns : (answer : Answer) (own : Bool) (notes : TurnNotes) → own ≡ true → is_refused answer ≡ false → turns_passed answer own notes ≡ record { seen = notes.seen + length (served_by answer); waited = 0 }
unfolding turns_passed both
own_turns answer own notes o given = rw (o, given)

other_turns : (answer : Answer) (own : Bool) (notes : TurnNotes) → both own (not (is_refused answer)) ≡ false → turns_passed answer own notes ≡ record { seen = notes.seen + length (served_by answer); waited = notes.waited + length (served_by answer) }
unfolding turns_passed
other_turns answer own notes e = rw e

refused_both : (own gone : Bool) → gone ≡ true → both own (not gone) ≡ false
unfolding both
refused_both true gone e = rw e
refused_both false gone e = refl

other_both : (own given : Bool) → own ≡ false → both own given ≡ false
unfolding both
other_both own given e = rw e

-- ---- every call keeps it
module _ (world : World) (ok : TurnsOK world) (after : Outcome) where
  abbrev log : Log
  log = world.log

  abbrev given : Answer
  given = after.answer

  abbrev served_by_lem : List ℕ
  served_by_lem = served_by after.answer

  -- after a start, or a call that has started nothing
  reader_began_ok : (reader : ℕ) (begun : Reading) (party : ℕ) → party ≤ 16 → has_work (log_after log (reader_start reader begun) given) party ≡ true → PartyOK log.place party (steps_of (noted world (reader_start reader begun) after) party) (turns_now given (reader_start reader begun) party (world.turns party))
  unfolding noted log_after turns_now has_work writing_after reading_after writer_now reader_now
  reader_began_ok reader begun zero inside works =
      begun_ok (both (is_started given) (eqb (suc reader) 0)) log.place 0 _ (world.turns 0) ok.place_low inside (λ e. ok.each 0 inside works)
  reader_began_ok reader begun (suc n) inside works =
      begun_ok (both (is_started given) (eqb (suc reader) (suc n))) log.place (suc n) _ (world.turns (suc n)) ok.place_low inside
      (λ e.
      subst (λ (made : ℕ). PartyOK log.place (suc n) made (world.turns (suc n))) (sym (steps_stay (world.readers n) _))
      (ok.each (suc n) inside (reader_began (both (is_started given) (eqb reader n)) begun (log.readers n) works (ap (both (is_started given)) (sym (suc_eqb reader n)) ∙ e))))

  writer_began_ok : (begun : Writing) (party : ℕ) → party ≤ 16 → has_work (log_after log (writer_start begun) given) party ≡ true → PartyOK log.place party (steps_of (noted world (writer_start begun) after) party) (turns_now given (writer_start begun) party (world.turns party))
  unfolding noted log_after turns_now has_work writing_after reading_after writer_now reader_now
  writer_began_ok begun zero inside works =
      begun_ok (both (is_started given) (eqb 0 0)) log.place 0 _ (world.turns 0) ok.place_low inside
      (λ e. ok.each 0 inside (writer_began (is_started given) begun log.writer works (sym (both_with (is_started given) true refl) ∙ e)))
  writer_began_ok begun (suc n) inside works =
      begun_ok (both (is_started given) (eqb 0 (suc n))) log.place (suc n) _ (world.turns (suc n)) ok.place_low inside
      (λ e. subst (λ (made : ℕ). PartyOK log.place (suc n) made (world.turns (suc n))) (sym (steps_stay (world.readers n) _)) (ok.each (suc n) inside works))

  -- what has been shown at the place before the call, where no party was served
  unserved : (role : Role) → served_by_lem ≡ [] → ((party : ℕ) → party ≤ 16 → has_work (log_after log role given) party ≡ true → PartyOK log.place party (steps_of (noted world role after) party) (turns_now given role party (world.turns party))) → TurnsOK (noted world role after)
  unfolding noted log_after
  unserved role none all =
      record {
        place_low = subst (λ (l : List ℕ). place_moved log.place l ≤ 16) (sym none) ok.place_low;
        each = λ party inside works. subst (λ (l : List ℕ). PartyOK (place_moved log.place l) party (steps_of (noted world role after) party) (turns_now given role party (world.turns party))) (sym none) (all party inside works);
      }

  -- a step that was refused
  refused_ok : (party : ℕ) → is_refused given ≡ true → served_by_lem ≡ [] → (other : ℕ) → other ≤ 16 → has_work (log_after log (step_of party) given) other ≡ true → PartyOK log.place other (steps_of (noted world (step_of party) after) other) (turns_now given (step_of party) other (world.turns other))
  refused_ok party gone none other inside works =
      subst (λ (made : ℕ). PartyOK log.place other made (turns_now given (step_of party) other (world.turns other))) (sym (refused_steps world after party other gone))
      (subst (PartyOK log.place other (steps_of world other)) (sym (turns_of_step given party other (world.turns other) ∙ other_turns given (eqb party other) (world.turns other) (refused_both (eqb party other) (is_refused given) gone)))
      (same_ok log.place other (steps_of world other) (world.turns other) (length served_by_lem) (ap length none) (ok.each other inside (still_works log party given other works).0)))

  -- a step of a party at work
  module _ (party : ℕ) (low : party ≤ 16) (carried : is_refused given ≡ false) where
    -- the party itself, wherever the place is then
    own_ok : (next : ℕ) → next ≤ 16 → length served_by_lem ≤ 1 → has_work (log_after log (step_of party) given) party ≡ true → PartyOK next party (steps_of (noted world (step_of party) after) party) (turns_now given (step_of party) party (world.turns party))
    own_ok next near few works =
        let w = still_works log party given party works in
        subst (λ (made : ℕ). PartyOK next party made (turns_now given (step_of party) party (world.turns party))) (sym (own_steps world after party carried (w.1 refl)))
        (subst (PartyOK next party (steps_of world party + 1)) (sym (turns_of_step given party party (world.turns party) ∙ own_turns given (eqb party party) (world.turns party) (eq-eqb party party refl) carried))
        (stepped_ok log.place next party (steps_of world party) (world.turns party) (length served_by_lem) few near low (ok.each party low w.0)))

    -- another party
    other_as : (next other : ℕ) → other ≢ party → PartyOK next other (steps_of world other) (record { seen = (world.turns other).seen + length served_by_lem; waited = (world.turns other).waited + length served_by_lem }) → PartyOK next other (steps_of (noted world (step_of party) after) other) (turns_now given (step_of party) other (world.turns other))
    other_as next other different holds =
        subst (λ (made : ℕ). PartyOK next other made (turns_now given (step_of party) other (world.turns other))) (sym (other_steps world after party other different))
        (subst (PartyOK next other (steps_of world other)) (sym (turns_of_step given party other (world.turns other) ∙ other_turns given (eqb party other) (world.turns other) (other_both (eqb party other) (not (is_refused given)) (ne_eqb party other (λ same. different (sym same))))))
        holds)

    direct_ok : served_by_lem ≡ [] → (other : ℕ) → Dec (other ≡ party) → other ≤ 16 → has_work (log_after log (step_of party) given) other ≡ true → PartyOK log.place other (steps_of (noted world (step_of party) after) other) (turns_now given (step_of party) other (world.turns other))
    direct_ok none other (yes same) inside works =
        subst (λ (p : ℕ). PartyOK log.place p (steps_of (noted world (step_of party) after) p) (turns_now given (step_of party) p (world.turns p))) (sym same)
        (own_ok log.place ok.place_low (let n = ap length none in omega arith) (subst (λ (p : ℕ). has_work (log_after log (step_of party) given) p ≡ true) same works))
    direct_ok none other (no different) inside works =
        other_as log.place other different
        (same_ok log.place other (steps_of world other) (world.turns other) (length served_by_lem) (ap length none) (ok.each other inside (still_works log party given other works).0))

    turn_ok : served_by_lem ≡ party ∷ [] → party ≡ due_in log → (other : ℕ) → Dec (other ≡ party) → other ≤ 16 → has_work (log_after log (step_of party) given) other ≡ true → PartyOK (party_after party) other (steps_of (noted world (step_of party) after) other) (turns_now given (step_of party) other (world.turns other))
    unfolding due_in
    turn_ok one is other (yes same) inside works =
        subst (λ (p : ℕ). PartyOK (party_after party) p (steps_of (noted world (step_of party) after) p) (turns_now given (step_of party) p (world.turns p))) (sym same)
        (own_ok (party_after party) (after_low party) (let n = ap length one in omega arith) (subst (λ (p : ℕ). has_work (log_after log (step_of party) given) p ≡ true) same works))
    turn_ok one is other (no different) inside works =
        let worked = (still_works log party given other works).0 in
        other_as (party_after party) other different
        (passed_ok log.place (party_after party) other (steps_of world other) (world.turns other) (length served_by_lem) (ap length one)
        (nearer_then (someone_due (has_work log) log.place other ok.place_low inside worked).brings) (ok.each other inside worked))
      where
        nearer_then : (other ≡ party_due (has_work log) log.place) ⊎ (gap (party_after (party_due (has_work log) log.place)) other + 1 ≤ gap log.place other) → gap (party_after party) other + 1 ≤ gap log.place other
        nearer_then (inl same) = absurd (different (same ∙ sym is))
        nearer_then (inr less) = subst (λ (p : ℕ). gap (party_after p) other + 1 ≤ gap log.place other) (sym is) less

    served_ok : served_by_lem ≡ party ∷ [] → party ≡ due_in log → TurnsOK (noted world (step_of party) after)
    unfolding noted log_after
    served_ok one is =
        record {
          place_low = subst (λ (place : ℕ). place ≤ 16) (sym moved) (after_low party);
          each = λ other inside works. subst (λ (place : ℕ). PartyOK place other (steps_of (noted world (step_of party) after) other) (turns_now given (step_of party) other (world.turns other))) (sym moved) (turn_ok one is other (ℕ_discrete other party) inside works);
        }
      where
        moved : place_moved log.place served_by_lem ≡ party_after party
        moved = ap (place_moved log.place) one

  pub turns_kept : (role : Role) → Made log role given → TurnsOK (noted world role after)
  turns_kept role (reader_starts {reader = reader} {begun = begun} none) = unserved (reader_start reader begun) none (reader_began_ok reader begun)
  turns_kept role (writer_starts {begun = begun} none) = unserved (writer_start begun) none (writer_began_ok begun)
  turns_kept role (refused_step party gone on none) = unserved (step_of party) none (refused_ok party gone none)
  turns_kept role (makes_step party low works carried (inl none)) = unserved (step_of party) none (λ other inside w. direct_ok party low carried none other (ℕ_discrete other party) inside w)
  turns_kept role (makes_step party low works carried (inr one)) = served_ok party low carried one.0 one.1

-- before the first call nobody has work
none_works : (party : ℕ) → has_work fresh_log party ≡ false
unfolding has_work fresh_log
none_works zero = refl
none_works (suc reader) = refl

pub fresh_turns : (m k : ℕ) → TurnsOK (fresh_world m k)
unfolding fresh_world fresh_log
fresh_turns m k = record { place_low = omega arith; each = λ party inside works. absurd (false≢true (sym (none_works party) ∙ works)) }
