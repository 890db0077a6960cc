-- The frame reader's answer to bytes that begin with 0F is what the command entry takes them for, the refusals and the fields being the same; and the
-- answer to that is the command entry's.
use Prim.Native.Nat.{ℕ, zero, suc, ◌≤◌}
use mathlib.Core.Path.{◌≡◌, refl, sym, ap, ap₂, ◌∙◌}
use mathlib.Core.Bool.{true, false}
use mathlib.Core.List.{List, [], ◌∷◌}
use mathlib.Core.Logic.{◌≢◌}
use native.Mathlib.Omega.{arith}
use borrow.Author.Tests.{eq-eqb, ne_eqb}
use lib.Dec.{eqb}
use lib.ListN.{length, get_or}
use Rattle.std.specs.Prelude.{Some, None, Ok, Err, slice_get}
use Rattle.std.proofs.lemmas.Option.{slice_get_within, get_or_from_slice_get}
use Rattle.refusal.specs.declared.Refusal.{Refusal}
use Rattle.refusal.specs.Refusals.{number_of}
use Rattle.refusal.specs.Judging.{refuse_if}
use Rattle.refusal.proofs.Laws.{number_positive}
use Rattle.record.specs.declared.Record.{Record}
use Rattle.record.specs.Parts.{station_of}
use Rattle.record_ranges.specs.Ranges.{in_range}
use Rattle.answers.specs.Answers.{outcome, unless_refused}
use Rattle.frame.specs.declared.Fields.{Fields}
use Rattle.frame.specs.declared.Reading.{Reading}
use Rattle.frame.specs.declared.Frame.{Frame}
use Rattle.frame.specs.FieldMap.{map_of}
use Rattle.frame.specs.Frames.{fields_in, read_refusal, no_fields, handed, read_frame}
use Rattle.frame.specs.Answers.{paper_read}
use Rattle.command.specs.declared.Sent.{Sent}
use Rattle.command.specs.Command.{sent_of, sent_in, frame_refusal, entry_refusal, in_turn, start_command}
use Rattle.command.specs.CommandFrames.{no_command, receipt, received_from, answer_received}

frame_handed : (n map byte : ℕ) (f g : Fields) → record { refused = 0; map = byte; fields = g } ≡ handed n map f → (n ≡ 0) × (g ≡ f)
unfolding handed
frame_handed zero map byte f g e = (refl, ap (λ (r : Reading). r.fields) e)
frame_handed (suc n) map byte f g e = absurd (omega (arith, ap (λ (r : Reading). r.refused) e))

refusal_handed : (n map k : ℕ) (f : Fields) → 1 ≤ k → record { refused = k; map = 0; fields = no_fields } ≡ handed n map f → k ≡ n
unfolding handed
refusal_handed zero map k f h e = absurd (omega (arith, ap (λ (r : Reading). r.refused) e))
refusal_handed (suc n) map k f h e = ap (λ (r : Reading). r.refused) e

refused_receipt : (n : ℕ) (sent : Sent) → 1 ≤ n → record { refused = n; sent = no_command } ≡ receipt n sent
unfolding receipt
refused_receipt zero sent h = absurd (omega arith)
refused_receipt (suc n) sent h = refl

pub nothing_taken : (bytes : List ℕ) → None ≡ slice_get bytes 0 → record { refused = 8; sent = no_command } ≡ received_from bytes
unfolding received_from receipt frame_refusal refuse_if
nothing_taken [] e = refl
nothing_taken (byte ∷ rest) e = cc

begins : (bytes : List ℕ) (byte : ℕ) → Some byte ≡ slice_get bytes 0 → eqb (length bytes) 0 ≡ false
begins bytes byte first = ne_eqb _ _ (λ e. omega (arith, slice_get_within bytes 0 byte (sym first)))

pub other_map_taken : (bytes : List ℕ) (byte : ℕ) → Some byte ≡ slice_get bytes 0 → byte ≢ 0x0F → record { refused = 9; sent = no_command } ≡ received_from bytes
unfolding received_from receipt frame_refusal refuse_if
other_map_taken bytes byte first other =
    rw (begins bytes byte first, get_or_from_slice_get bytes 0 byte 0 (sym first), ne_eqb byte 0x0F other)

module _ (bytes : List ℕ) (first : Some 0x0F ≡ slice_get bytes 0) where
  map : get_or bytes 0 0 ≡ 0x0F
  map = get_or_from_slice_get bytes 0 0x0F 0 (sym first)

  same_refusal : frame_refusal bytes ≡ read_refusal bytes
  unfolding frame_refusal refuse_if
  same_refusal = rw (begins bytes 0x0F first, eq-eqb _ _ map)

  pub command_taken : (frame : Frame) → paper_read (Ok frame) ≡ read_frame bytes → record { refused = 0; sent = sent_of frame.fields } ≡ received_from bytes
  unfolding read_frame received_from receipt sent_in
  command_taken frame e =
      let r = frame_handed (read_refusal bytes) (get_or bytes 0 0) (map_of frame.kind) (fields_in bytes (get_or bytes 0 0)) frame.fields e in
      ap₂ receipt (sym (same_refusal ∙ r.0)) (ap sent_of (r.1 ∙ ap (fields_in bytes) map))

  pub refusal_taken : (r : Refusal) → paper_read (Err r) ≡ read_frame bytes → record { refused = number_of r; sent = no_command } ≡ received_from bytes
  unfolding read_frame received_from
  refusal_taken r e =
      let n = refusal_handed (read_refusal bytes) (get_or bytes 0 0) (number_of r) (fields_in bytes (get_or bytes 0 0)) (number_positive r) e in
      refused_receipt (number_of r) (sent_in bytes) (number_positive r) ∙ ap (λ (k : ℕ). receipt k (sent_in bytes)) (n ∙ sym same_refusal)

-- a record in range leaves the frame to be judged
pub record_allowed : (lent : ℕ) (panel : Record) (bytes : List ℕ) → in_range lent panel ≡ true → entry_refusal lent panel bytes ≡ frame_refusal bytes
unfolding entry_refusal refuse_if
record_allowed lent panel bytes fits = rw fits

received_outcome : (n : ℕ) (panel : Record) (slots : List ℕ) (sent : Sent) → answer_received panel slots (receipt n sent) ≡ unless_refused n (outcome panel slots) (in_turn panel slots sent (station_of panel sent.station))
unfolding answer_received receipt unless_refused
received_outcome zero panel slots sent = refl
received_outcome (suc n) panel slots sent = refl

pub received_answered : (panel : Record) (slots bytes : List ℕ) → in_range (length slots) panel ≡ true → answer_received panel slots (received_from bytes) ≡ start_command panel slots bytes
unfolding received_from start_command
received_answered panel slots bytes fits =
    received_outcome (frame_refusal bytes) panel slots (sent_in bytes)
    ∙ ap (λ (n : ℕ). unless_refused n (outcome panel slots) (in_turn panel slots (sent_in bytes) (station_of panel (sent_in bytes).station))) (sym (record_allowed (length slots) panel bytes fits))
