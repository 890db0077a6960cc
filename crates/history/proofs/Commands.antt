-- What is true of the stations and of the commands noted, between two calls: each station holds the last of its commands that ended, with the answer that its change
-- gave; no command that acted or ended has a number above its station's last; the command underway has the number after it. So no station's number acts or ends twice.
use Rattle.std.specs.Prelude.{Option}
use Prim.Native.Nat.{ℕ, ◌+◌, ◌≤◌, ◌<◌}
use mathlib.Core.Bool.{Bool, true, false, cond}
use mathlib.Core.Path.{◌≡◌, refl, sym, ap, ◌∙◌}
use mathlib.Core.List.{List, [], ◌∷◌}
use native.Mathlib.Omega.{arith}
use native.Mathlib.Decide.{ℕ_discrete}
use borrow.Author.Tests.{eqb-true, eq-eqb, ne_eqb}
use lib.Dec.{eqb}
use lib.ListN.{length}
use Rattle.conditions.specs.Conditions.{both}
use Rattle.record.specs.declared.Station.{Station}
use Rattle.record.specs.declared.Command.{Command}
use Rattle.record.specs.declared.Alteration.{Alteration}
use Rattle.record.specs.declared.Alteration.TheVariants.{Given as Alteration-as-Given, Commanded}
use Rattle.record.specs.declared.WriterWork.{WriterWork}
use Rattle.record.specs.declared.WriterWork.TheVariants.{Idle, Putting, Changing, Removing}
use Rattle.record.specs.Parts.{unheard_station, numbered, with_numbered}
use Rattle.record.proofs.Numbered.{replaced_length, replaced_same, replaced_other}
use Rattle.counting.specs.Steps.{change_counted, writer_counted}
use Rattle.answers.specs.Answers.{Ending, stored_answer}
use Rattle.plain_list.specs.PlainList.{Each}
use Rattle.effects.proofs.StepAgreement.{begun, fed_by, is_commanded, is_command}
use Rattle.command.specs.declared.Sent.{Sent}
use Rattle.history.specs.Log.{Given, last_given}
use Rattle.history.specs.Claim.{times, sents}

-- a command from its parts
abbrev pub sent_by : ℕ → Command → Sent
sent_by point command = record { station = command.station; number = command.number; point = point; action = command.action }

-- the command whose change this is, if it is one's
abbrev pub altered_by : ℕ → Alteration → List Sent
altered_by point (Alteration-as-Given masks) = []
altered_by point (Commanded command) = sent_by point command ∷ []

-- the command that the writer's work is of
unfoldable pub command_of : WriterWork → List Sent
command_of Idle = []
command_of (Putting put) = []
command_of (Changing change) = altered_by change.point change.alteration
command_of (Removing removal) = []

pub command_begun : (work : WriterWork) → command_of (begun work) ≡ command_of work
unfolding command_of begun
command_begun Idle = refl
command_begun (Putting put) = refl
command_begun (Changing change) = refl
command_begun (Removing removal) = refl

not_commanded : (point : ℕ) (alteration : Alteration) → is_commanded alteration ≡ false → altered_by point alteration ≡ []
not_commanded point (Alteration-as-Given masks) e = refl
not_commanded point (Commanded command) e = let z : ◌≡◌ {A = ℕ} 0 1 = cc in absurd (omega arith)

pub command_counted : (k : ℕ) (work : WriterWork) → command_of (writer_counted k work) ≡ command_of work
unfolding command_of writer_counted change_counted
command_counted k Idle = refl
command_counted k (Putting put) = refl
command_counted k (Changing change) = refl
command_counted k (Removing removal) = refl

pub no_command_of : (work : WriterWork) → is_command work ≡ false → command_of work ≡ []
unfolding command_of
no_command_of Idle e = refl
no_command_of (Putting put) e = refl
no_command_of (Changing change) e = not_commanded change.point change.alteration e
no_command_of (Removing removal) e = refl

-- a removal that has fed the plain list is no command's change
pub fed_not_command : (work : WriterWork) → fed_by work ≡ 1 → is_command work ≡ false
fed_not_command Idle e = refl
fed_not_command (Putting put) e = refl
fed_not_command (Changing change) e = absurd (omega arith)
fed_not_command (Removing removal) e = refl

pub fed_no_command : (work : WriterWork) → fed_by work ≡ 1 → command_of work ≡ []
fed_no_command work fed = no_command_of work (fed_not_command work fed)

-- a station's last command
abbrev pub last_of : List Station → ℕ → Station
last_of stations station = numbered stations station unheard_station

-- it with its answer
abbrev pub held_by : ℕ → Station → Given
held_by station last =
    record {
      sent = record { station = station; number = last.number; point = last.point; action = last.action };
      answer = stored_answer last.answer;
    }

-- a number not above its station's last
pub record NotAbove (stations : List Station) (sent : Sent) : Type 0 where
  pub low : sent.number ≤ (last_of stations sent.station).number

-- the number after its station's last
pub record IsNext (stations : List Station) (sent : Sent) : Type 0 where
  pub station_low : 1 ≤ sent.station
  pub station_high : sent.station ≤ 32
  pub next : sent.number ≡ (last_of stations sent.station).number + 1

pub record CommandsOK (stations : List Station) (command : List Sent) (acts : List Sent) (ended : List Given) : Type 0 where
  pub all_stations : length stations ≡ 32
  pub lasts : (station : ℕ) → last_given station ended ≡ held_by station (last_of stations station)
  pub acts_low : Each (NotAbove stations) acts
  pub ended_low : Each (NotAbove stations) (sents ended)
  pub acts_once : (station number : ℕ) → times station number acts ≤ 1
  pub ends_once : (station number : ℕ) → times station number (sents ended) ≤ 1
  pub underway : Each (IsNext stations) command

-- the writer's work is another, or none
pub with_command : (stations : List Station) (command new : List Sent) (acts : List Sent) (ended : List Given) → CommandsOK stations command acts ended → Each (IsNext stations) new → CommandsOK stations new acts ended
with_command stations command new acts ended ok next =
    record {
      all_stations = ok.all_stations;
      lasts = ok.lasts;
      acts_low = ok.acts_low;
      ended_low = ok.ended_low;
      acts_once = ok.acts_once;
      ends_once = ok.ends_once;
      underway = next;
    }

-- a number above its station's last is not among them
none_above : (stations : List Station) (station number : ℕ) (l : List Sent) → Each (NotAbove stations) l → (last_of stations station).number < number → times station number l ≡ 0
unfolding times both
none_above stations station number [] each above = refl
none_above stations station number (sent ∷ l) each above = go (eqb sent.station station) refl (eqb sent.number number) refl (none_above stations station number l each.1 above)
  where
    go : (a : Bool) → eqb sent.station station ≡ a → (b : Bool) → eqb sent.number number ≡ b → times station number l ≡ 0 → cond (both a b) 1 0 + times station number l ≡ 0
    go true e true f none =
        let s = ap (λ (x : ℕ). (last_of stations x).number) (eqb-true sent.station station e) in
        absurd (omega (arith, each.0.low, eqb-true sent.number number f))
    go true e false f none = omega arith
    go false e b f none = omega arith

-- one more whose number is above its station's last
once_more : (stations : List Station) (sent : Sent) (l : List Sent) → Each (NotAbove stations) l → (last_of stations sent.station).number < sent.number → ((station number : ℕ) → times station number l ≤ 1) → (station number : ℕ) → times station number (sent ∷ l) ≤ 1
unfolding times both
once_more stations sent l each above once station number = go (eqb sent.station station) refl (eqb sent.number number) refl
  where
    go : (a : Bool) → eqb sent.station station ≡ a → (b : Bool) → eqb sent.number number ≡ b → cond (both a b) 1 0 + times station number l ≤ 1
    go true e true f =
        let s = eqb-true sent.station station e in
        let n = eqb-true sent.number number f in
        let last = ap (λ (x : ℕ). (last_of stations x).number) s in
        omega (arith, none_above stations station number l each (omega arith))
    go true e false f = omega (arith, once station number)
    go false e b f = omega (arith, once station number)

-- the step that ends a command's change records it
module _ (stations : List Station) (sent : Sent) (acts : List Sent) (ended : List Given) (ok : CommandsOK stations (sent ∷ []) acts ended) (stored : Option ℕ) (answer : Ending) (same : stored_answer stored ≡ answer) where
  abbrev new : Station
  new = record { number = sent.number; point = sent.point; action = sent.action; answer = stored }

  abbrev after : List Station
  after = with_numbered stations sent.station new

  next : IsNext stations sent
  next = ok.underway.0

  above : (last_of stations sent.station).number < sent.number
  above = omega (arith, next.next)

  new_last : last_of after sent.station ≡ new
  new_last = replaced_same stations sent.station new unheard_station next.station_low (omega (arith, next.station_high, ok.all_stations))

  still_low : (l : List Sent) → Each (NotAbove stations) l → Each (NotAbove after) l
  still_low [] each = tt
  still_low (other ∷ l) each = (record { low = go (ℕ_discrete other.station sent.station) }, still_low l each.1)
    where
      go : Dec (other.station ≡ sent.station) → other.number ≤ (last_of after other.station).number
      go (yes e) =
          let a = ap (λ (x : ℕ). (last_of after x).number) e in
          let b = ap (λ (x : ℕ). (last_of stations x).number) e in
          let c = ap (λ (s : Station). s.number) new_last in
          omega (arith, each.0.low, above)
      go (no e) =
          let a = ap (λ (s : Station). s.number) (replaced_other stations sent.station new unheard_station other.station e) in
          omega (arith, each.0.low)

  mine_low : NotAbove after sent
  mine_low = record { low = let a = ap (λ (s : Station). s.number) new_last in omega arith }

  lasts_after : (station : ℕ) → Dec (station ≡ sent.station) → last_given station (record { sent = sent; answer = answer } ∷ ended) ≡ held_by station (last_of after station)
  unfolding last_given
  lasts_after station (yes e) =
      rw (eq-eqb sent.station station (sym e))
      (sym (ap (held_by station) (ap (last_of after) e ∙ new_last) ∙ ap (λ (x : ℕ). held_by x new) e ∙ ap (λ (a : Ending). record { sent = sent; answer = a }) same))
  lasts_after station (no e) =
      rw (ne_eqb sent.station station (λ x. e (sym x)))
      (ok.lasts station ∙ ap (held_by station) (sym (replaced_other stations sent.station new unheard_station station e)))

  acts_after : (acted : Bool) → Each (NotAbove after) (cond acted (sent ∷ acts) acts)
  acts_after true = (mine_low, still_low acts ok.acts_low)
  acts_after false = still_low acts ok.acts_low

  once_after : (acted : Bool) (station number : ℕ) → times station number (cond acted (sent ∷ acts) acts) ≤ 1
  once_after true = once_more stations sent acts ok.acts_low above ok.acts_once
  once_after false = ok.acts_once

  pub recorded : (acted : Bool) → CommandsOK after [] (cond acted (sent ∷ acts) acts) (record { sent = sent; answer = answer } ∷ ended)
  unfolding sents
  recorded acted =
      record {
        all_stations = replaced_length stations sent.station new ∙ ok.all_stations;
        lasts = λ station. lasts_after station (ℕ_discrete station sent.station);
        acts_low = acts_after acted;
        ended_low = (mine_low, still_low (sents ended) ok.ended_low);
        acts_once = once_after acted;
        ends_once = once_more stations sent (sents ended) ok.ended_low above ok.ends_once;
        underway = tt;
      }
