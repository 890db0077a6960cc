-- Laws of the command entry, for whoever reasons about orders of calls: a frame that is not refused has its fields in range, and so is the change that it starts.
use Prim.Native.Nat.{ℕ, ◌≤◌}
use mathlib.Core.Path.{◌≡◌, refl, sym, ap, ◌∙◌}
use mathlib.Core.Bool.{true, false, not}
use mathlib.Core.List.{List}
use mathlib.Mathlib.Data.Bool.Basic.{or-eq-false-eq-eq-false-and-eq-false}
use native.Mathlib.Omega.{arith}
use borrow.Author.Tests.{eqb-true, not-false, ltb-false, le-leb}
use lib.Dec.{eqb, ltb}
use lib.ListN.{length, get_or}
use Rattle.conditions.specs.Conditions.{both, outside}
use Rattle.refusal.proofs.Laws.{not_refused}
use Rattle.conditions.proofs.ConditionLaws.{both_true, is_within}
use Rattle.slot_words.specs.Points.{valid_point}
use Rattle.work_ranges.specs.WorkRanges.{search_in_range, command_in_range, alteration_in_range, change_stage_in_range, change_in_range, writer_in_range}
use Rattle.frame.specs.declared.Fields.{Fields}
use Rattle.frame.specs.FieldMap.{has_bit, length_of, allowed}
use Rattle.frame.specs.Frames.{fields_in, judged, read_refusal}
use Rattle.command.specs.declared.Sent.{Sent}
use Rattle.counting.specs.declared.steps.OperationKind.TheVariants.{Change}
use Rattle.work_ranges.proofs.CountedRanges.{none_made}
use Rattle.command.specs.Command.{sent_of, sent_in, frame_refusal, commanded_change}

-- a command in the ranges of its frame
pub record Valid (sent : Sent) : Type 0 where
  pub station_low : 1 ≤ sent.station
  pub station_high : sent.station ≤ 32
  pub number_low : 1 ≤ sent.number
  pub number_high : sent.number ≤ 16777215
  pub point_valid : valid_point sent.point ≡ true
  pub action_high : sent.action ≤ 2

inside : (low x high : ℕ) → both true (outside low x high) ≡ false → (low ≤ x) × (x ≤ high)
unfolding both outside
inside low x high e =
    let o = (or-eq-false-eq-eq-false-and-eq-false (ltb x low) (ltb high x)).0 e in
    (ltb-false x low o.0, ltb-false high x o.1)

fields_valid : (f : Fields) → judged (has_bit 0x0F) f ≡ 0 → Valid (sent_of f)
unfolding judged has_bit valid_point
fields_valid f e =
    let a = not_refused (both true (outside 1 f.station 32)) 10 _ (omega arith) e in
    let b = not_refused (both true (outside 1 f.number 16777215)) 11 _ (omega arith) a.1 in
    let c = not_refused (both true (outside 1 f.point 2147483646)) 2 _ (omega arith) b.1 in
    let d = not_refused (both true (outside 0 f.action 2)) 13 _ (omega arith) c.1 in
    let station = inside 1 f.station 32 a.0 in
    let number = inside 1 f.number 16777215 b.0 in
    let point = inside 1 f.point 2147483646 c.0 in
    record {
      station_low = station.0;
      station_high = station.1;
      number_low = number.0;
      number_high = number.1;
      point_valid = is_within 1 f.point 2147483646 point.0 point.1;
      action_high = (inside 0 f.action 2 d.0).1;
    }

-- a frame that is not refused
pub frame_valid : (bytes : List ℕ) → frame_refusal bytes ≡ 0 → Valid (sent_in bytes)
unfolding frame_refusal read_refusal sent_in
frame_valid bytes e =
    let a = not_refused (eqb (length bytes) 0) 8 _ (omega arith) e in
    let b = not_refused (not (eqb (get_or bytes 0 0) 0x0F)) 9 _ (omega arith) a.1 in
    let c = not_refused (eqb (length bytes) 0) 8 _ (omega arith) b.1 in
    let d = not_refused (not (allowed (get_or bytes 0 0))) 9 _ (omega arith) c.1 in
    let g = not_refused (not (eqb (length bytes) (length_of (get_or bytes 0 0)))) 8 _ (omega arith) d.1 in
    let map = eqb-true (get_or bytes 0 0) 0x0F (not-false (eqb (get_or bytes 0 0) 0x0F) b.0) in
    fields_valid (fields_in bytes 0x0F) (sym (ap (λ (n : ℕ). judged (has_bit n) (fields_in bytes n)) map) ∙ g.1)

-- "A command underway keeps the ranges of its frame"
pub change_in_range_lem : (k : ℕ) (sent : Sent) → Valid sent → writer_in_range k (commanded_change sent) ≡ true
unfolding writer_in_range change_in_range alteration_in_range command_in_range change_stage_in_range search_in_range
change_in_range_lem k sent valid =
    both_true _ _ valid.point_valid
    (both_true _ _
    (both_true _ _ (is_within 1 sent.station 32 valid.station_low valid.station_high)
    (both_true _ _ (is_within 1 sent.number 16777215 valid.number_low valid.number_high) (le-leb sent.action 2 valid.action_high)))
    (both_true true _ refl (none_made Change k)))
