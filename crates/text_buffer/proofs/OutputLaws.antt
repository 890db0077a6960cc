-- What is written of a buffer, and what a writer holds then.
use Rattle.std.proofs.Common.{◌≡◌, ℕ, ◌+◌, ◌≤◌, ◌<◌, List, [], ◌++◌, length, take, drop, sym, refl, ap, ap₂, subst, ◌∙◌, append_assoc, length-append, length-take-le, ⊎_elim, arith}
use Rattle.std.specs.Prelude.{Option, None, Some}
use Rattle.std.specs.Io.KnownBytes.{Appends, append_known}
use Rattle.std.proofs.lemmas.Bool.{cases_lt, le-leb, lt-leb, lt-ltb, le-ltb}
use Rattle.std.proofs.lemmas.List.{append-nil}
use Rattle.std.proofs.Math.Seq.{take-append_seam}
use Rattle.text_buffer.specs.Filling.{Filled, filled_by, with_bytes, in_use, with_room, written_for_room, given_so_far}
use Rattle.text_buffer.proofs.FillingLaws.{text_fits}

pub nothing_appended : (known : Option (List ℕ)) → Appends known known []
nothing_appended None = tt
nothing_appended (Some bytes) = sym (append-nil bytes)

pub inside : (used : ℕ) (bytes : List ℕ) → used ≤ length bytes → in_use used bytes ≡ take used bytes
unfolding in_use
inside used bytes fits = rw (le-leb used (length bytes) fits)

pub beyond : (used : ℕ) (bytes : List ℕ) → length bytes < used → in_use used bytes ≡ []
unfolding in_use
beyond used bytes past = rw (lt-leb used (length bytes) past)

pub line_fits : (used : ℕ) (bytes : List ℕ) (line : ℕ) → used + line < length bytes → (with_room used (length bytes) line ≡ used) × (written_for_room used bytes line ≡ [])
unfolding with_room written_for_room
line_fits used bytes line room = rw (lt-ltb (used + line) (length bytes) room) (refl, refl)

pub line_too_long : (used : ℕ) (bytes : List ℕ) (line : ℕ) → length bytes ≤ used + line → (with_room used (length bytes) line ≡ 0) × (written_for_room used bytes line ≡ in_use used bytes)
unfolding with_room written_for_room
line_too_long used bytes line full = rw (le-ltb (used + line) (length bytes) full) (refl, refl)

-- once room is made, no more is in use than the buffer has
pub room_inside : (used : ℕ) (bytes : List ℕ) (line : ℕ) → with_room used (length bytes) line ≤ length bytes
room_inside used bytes line = ⊎_elim fitting flushed (cases_lt (used + line) (length bytes)) where
  fitting : used + line < length bytes → with_room used (length bytes) line ≤ length bytes
  fitting fits = subst (λ (n : ℕ). n ≤ length bytes) (sym ((line_fits used bytes line fits).0)) (omega arith)

  flushed : length bytes ≤ used + line → with_room used (length bytes) line ≤ length bytes
  flushed full = subst (λ (n : ℕ). n ≤ length bytes) (sym ((line_too_long used bytes line full).0)) (omega arith)

-- with room for it, a text is in use behind the bytes that were
in_use_behind : (text : List ℕ) (used : ℕ) (bytes : List ℕ) → used + length text ≤ length bytes → (after : Filled) → after ≡ with_bytes (filled_by used bytes) text → in_use after.used after.bytes ≡ in_use used bytes ++ text
in_use_behind text used bytes room after e =
    let there = take used bytes ++ text in
    let size : length there ≡ used + length text = length-append (take used bytes) text ∙ ap (λ (n : ℕ). n + length text) (length-take-le used bytes (omega arith)) in
    let whole : after ≡ filled_by (used + length text) (there ++ drop (used + length text) bytes) = e ∙ text_fits text used bytes room in
    let fits : used + length text ≤ length (there ++ drop (used + length text) bytes) = omega (arith, size, length-append there (drop (used + length text) bytes)) in
    ap (λ (f : Filled). in_use f.used f.bytes) whole
    ∙ inside (used + length text) (there ++ drop (used + length text) bytes) fits
    ∙ ap (λ (n : ℕ). take n (there ++ drop (used + length text) bytes)) (sym size)
    ∙ take-append_seam there (drop (used + length text) bytes)
    ∙ ap (λ (front : List ℕ). front ++ text) (sym (inside used bytes (omega arith)))

none_in_use : (bytes : List ℕ) → in_use 0 bytes ≡ []
unfolding in_use
none_in_use bytes = inside 0 bytes (omega arith)

-- what a writer holds once it has the bytes in use, and a text behind none
module _ (used : ℕ) (bytes text : List ℕ) where
  written_then : (held held' : Option (List ℕ)) → Appends held held' (in_use used bytes) → (rest : List ℕ) → rest ≡ text → Appends (given_so_far held used bytes) (append_known held' rest) text
  written_then None held' appends rest e = tt
  written_then (Some before) None appends rest e = appends
  written_then (Some before) (Some now) appends rest e = ap₂ (λ (front back : List ℕ). front ++ back) appends e

  kept_then : (held held' : Option (List ℕ)) → Appends held held' [] → (rest : List ℕ) → rest ≡ in_use used bytes ++ text → Appends (given_so_far held used bytes) (append_known held' rest) text
  kept_then None held' appends rest e = tt
  kept_then (Some before) None appends rest e = appends
  kept_then (Some before) (Some now) appends rest e =
      ap₂ (λ (front back : List ℕ). front ++ back) (appends ∙ append-nil before) e ∙ sym (append_assoc before (in_use used bytes) text)

-- once room is made for a line, a text that has room is given behind all that was
pub given_behind : (held held' : Option (List ℕ)) (used : ℕ) (bytes : List ℕ) (line : ℕ) (text : List ℕ) → Appends held held' (written_for_room used bytes line) → with_room used (length bytes) line + length text ≤ length bytes → (after : Filled) → after ≡ with_bytes (filled_by (with_room used (length bytes) line) bytes) text → Appends (given_so_far held used bytes) (given_so_far held' after.used after.bytes) text
given_behind held held' used bytes line text appends room after e =
    ⊎_elim (fitting) (flushed) (cases_lt (used + line) (length bytes)) where
      fitting : used + line < length bytes → Appends (given_so_far held used bytes) (given_so_far held' after.used after.bytes) text
      fitting fits =
          let stays = line_fits used bytes line fits in
          let u : with_room used (length bytes) line ≡ used = stays.0 in
          kept_then used bytes text held held' (subst (Appends held held') stays.1 appends) (in_use after.used after.bytes) (in_use_behind text used bytes (subst (λ (n : ℕ). n + length text ≤ length bytes) u room) after (e ∙ ap (λ (n : ℕ). with_bytes (filled_by n bytes) text) u))

      flushed : length bytes ≤ used + line → Appends (given_so_far held used bytes) (given_so_far held' after.used after.bytes) text
      flushed full =
          let goes = line_too_long used bytes line full in
          let u : with_room used (length bytes) line ≡ 0 = goes.0 in
          written_then used bytes text held held' (subst (Appends held held') goes.1 appends) (in_use after.used after.bytes) (in_use_behind text 0 bytes (subst (λ (n : ℕ). n + length text ≤ length bytes) u room) after (e ∙ ap (λ (n : ℕ). with_bytes (filled_by n bytes) text) u) ∙ ap (λ (front : List ℕ). front ++ text) (none_in_use bytes))
