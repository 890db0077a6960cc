-- Text put into a buffer byte by byte, and that with room for it all of it stands behind what was in use.
use Prim.Native.Nat.{ℕ, suc, ◌+◌, ◌<◌, ◌≤◌}
use mathlib.Core.List.{List, [], ◌∷◌, ◌++◌}
use mathlib.Core.Path.{◌≡◌, refl, sym, ap, ◌∙◌}
use native.Mathlib.Numerals.{add-one}
use native.Mathlib.Omega.{arith}
use borrow.Author.Tests.{lt-ltb}
use lib.ListN.{length, get_or, take, drop, set, length-set}
use lib.Seq.{drop-cons, sets, sets-eq}
use Rattle.text_buffer.specs.Filling.{Filled, filled_by, with_byte, with_bytes}

-- what is left of the bytes begins with the next one
pub next_byte : (before : Filled) (bytes : List ℕ) (i : ℕ) → i < length bytes → with_bytes (with_byte before (get_or bytes i 0)) (drop (i + 1) bytes) ≡ with_bytes before (drop i bytes)
unfolding with_bytes
next_byte before bytes i inside =
    sym (ap (with_bytes before) (drop-cons bytes i 0 inside ∙ ap (λ (n : ℕ). get_or bytes i 0 ∷ drop n bytes) (sym (add-one i))))

-- a text, and another behind it
pub one_after_another : (before : Filled) (first second : List ℕ) → with_bytes before (first ++ second) ≡ with_bytes (with_bytes before first) second
unfolding with_bytes
one_after_another before [] second = refl
one_after_another before (byte ∷ first) second = one_after_another (with_byte before byte) first second

byte_fits : (used : ℕ) (bytes : List ℕ) (byte : ℕ) → used < length bytes → with_byte (filled_by used bytes) byte ≡ filled_by (suc used) (set bytes used byte)
unfolding with_byte
byte_fits used bytes byte room = rw (lt-ltb used (length bytes) room) (ap (λ (n : ℕ). filled_by n (set bytes used byte)) (add-one used))

fits : (text : List ℕ) (used : ℕ) (bytes : List ℕ) → used + length text ≤ length bytes → with_bytes (filled_by used bytes) text ≡ filled_by (used + length text) (sets bytes used text)
unfolding with_bytes
fits [] used bytes room = ap (λ (n : ℕ). filled_by n bytes) (omega arith)
fits (byte ∷ text) used bytes room =
    ap (λ (b : Filled). with_bytes b text) (byte_fits used bytes byte (omega arith))
    ∙ fits text (suc used) (set bytes used byte) (omega (arith, length-set bytes used byte))
    ∙ ap (λ (n : ℕ). filled_by n (sets (set bytes used byte) (suc used) text)) (omega arith)

-- with room for it
pub text_fits : (text : List ℕ) (used : ℕ) (bytes : List ℕ) → used + length text ≤ length bytes → with_bytes (filled_by used bytes) text ≡ filled_by (used + length text) (take used bytes ++ text ++ drop (used + length text) bytes)
text_fits text used bytes room = fits text used bytes room ∙ ap (filled_by (used + length text)) (sets-eq text bytes used room)
