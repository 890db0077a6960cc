-- Reading undoes writing and writing undoes reading: so each valid frame has one reading. Both go bit by bit along the bytes in front
-- of each field.
use Prim.Native.Nat.{ℕ, zero, suc, ◌+◌, ◌^◌, ◌≤◌, ◌<◌}
use mathlib.Core.Path.{◌≡◌, refl, sym, ap, ap₂, ◌∙◌}
use mathlib.Core.Bool.{Bool, true, false, cond, not}
use mathlib.Core.List.{List, [], ◌∷◌, ◌++◌, append_assoc, append-nil}
use mathlib.Core.Logic.{◌⊎◌, ⊎_elim}
use native.Mathlib.Nat.{eq-or-lt_of_le, le_of_suc-le-suc}
use native.Mathlib.Omega.{arith}
use borrow.Author.Tests.{eq-eqb, ne_eqb, eqb-true, not-false, le-ltb, ltb-false}
use lib.Dec.{eqb, ltb}
use lib.ListN.{length, get_or, take, drop}
use lib.Seq.{take-add, take-length, take_at}
use Rattle.refusal.specs.Judging.{refuse_if, or_else}
use Rattle.refusal.proofs.Laws.{not_refused, neither_refused}
use Rattle.frame.specs.declared.Fields.{Fields}
use Rattle.frame.specs.declared.Reading.{Reading}
use Rattle.frame.specs.FieldMap.{width, has_bit, size, start, length_of, big_endian, bytes_of, allowed}
use Rattle.frame.specs.Frames.{field_read, field_of, fields_in, kept, judged, read_refusal, handed, read_frame, part, bytes_up_to, encode, write_refusal, wrote, write_frame}
use Rattle.frame.proofs.BigEndian.{Bytes, read_back, write_back}
use Rattle.frame.proofs.Judged.{InRange, judged_sound, judged_kept}
use Rattle.frame.proofs.LayoutLaws.{start_positive, length_up_to}

-- a field that the map has fits its width
abbrev Fits : ℕ → Fields → ℕ → Type 0
Fits map f i = has_bit map i ≡ true → field_of f i < 256 ^ width i

-- the field behind the bytes in front of it, whatever stands behind it
read_step : (map : ℕ) (f : Fields) (i : ℕ) (behind : List ℕ) → Fits map f i → field_read (bytes_up_to map f (suc i) ++ behind) map i ≡ cond (has_bit map i) (field_of f i) 0
unfolding field_read bytes_up_to
read_step map f i behind fits = go (has_bit map i) refl
  where
    go : (b : Bool) → has_bit map i ≡ b → cond b (big_endian (bytes_up_to map f i ++ cond b (bytes_of (width i) (field_of f i)) [] ++ behind) (start map i) (width i)) 0 ≡ cond b (field_of f i) 0
    go true e = rw (← length_up_to map f i) (read_back (width i) (field_of f i) (bytes_up_to map f i) behind (fits e))
    go false e = refl

-- a frame begins with the bytes in front of each field
prefix : (map : ℕ) (f : Fields) (i n : ℕ) → i ≤ n → (behind : List ℕ) → (rest : List ℕ) × (bytes_up_to map f n ++ behind ≡ bytes_up_to map f i ++ rest)
unfolding bytes_up_to
prefix map f i zero h behind = (behind, ap (λ (k : ℕ). bytes_up_to map f k ++ behind) (let e : 0 ≡ i = omega arith in e))
prefix map f i (suc n) h behind = go (eq-or-lt_of_le h) (λ q. prefix map f i n q (part map n (field_of f n) ++ behind))
  where
    Goal : Type 0
    Goal = (rest : List ℕ) × (bytes_up_to map f (suc n) ++ behind ≡ bytes_up_to map f i ++ rest)

    go : (i ≡ suc n) ⊎ (i < suc n) → (i ≤ n → (rest : List ℕ) × (bytes_up_to map f n ++ (part map n (field_of f n) ++ behind) ≡ bytes_up_to map f i ++ rest)) → Goal
    go d further =
        ⊎_elim
        (λ (q : i ≡ suc n). (behind, ap (λ (k : ℕ). bytes_up_to map f k ++ behind) (sym q)))
        (λ (q : i < suc n). let w = further (le_of_suc-le-suc q) in (w.0, append_assoc (bytes_up_to map f n) (part map n (field_of f n)) behind ∙ w.1))
        d

module _ (map : ℕ) (f : Fields) where
  begins : (i : ℕ) → i ≤ 6 → (rest : List ℕ) × (encode map f ≡ bytes_up_to map f i ++ rest)
  begins i h = let w = prefix map f i 6 h [] in (w.0, sym (append-nil (encode map f)) ∙ w.1)

  read_field : (i : ℕ) → suc i ≤ 6 → Fits map f i → field_read (encode map f) map i ≡ cond (has_bit map i) (field_of f i) 0
  read_field i h fits = let w = begins (suc i) h in ap (λ (s : List ℕ). field_read s map i) w.1 ∙ read_step map f i w.0 fits

  read_map : get_or (encode map f) 0 0 ≡ map
  unfolding bytes_up_to
  read_map = ap (λ (s : List ℕ). get_or s 0 0) (begins 0 (omega arith)).1

  read_fields : InRange (has_bit map) f → f.value < 2 ^ 32 → fields_in (encode map f) map ≡ kept map f
  read_fields r v = λ j.
      record {
        station = read_field 0 (omega arith) (λ e. omega (arith, r.station e)) j;
        number = read_field 1 (omega arith) (λ e. omega (arith, r.number e)) j;
        point = read_field 2 (omega arith) (λ e. omega (arith, r.point e)) j;
        action = read_field 3 (omega arith) (λ e. omega (arith, r.action e)) j;
        value = read_field 4 (omega arith) (λ e. omega arith) j;
        refusal = read_field 5 (omega arith) (λ e. omega (arith, r.refusal e)) j;
      }

-- what a byte string that is read without refusal has
record Accepted (s : List ℕ) : Type 0 where
  some : eqb (length s) 0 ≡ false
  known : allowed (get_or s 0 0) ≡ true
  whole : length s ≡ length_of (get_or s 0 0)
  sound : judged (has_bit (get_or s 0 0)) (fields_in s (get_or s 0 0)) ≡ 0

read_accepted : (s : List ℕ) → Accepted s → read_frame s ≡ record { refused = 0; map = get_or s 0 0; fields = fields_in s (get_or s 0 0) }
unfolding read_frame read_refusal refuse_if handed
read_accepted s a = rw (a.some, a.known, eq-eqb _ _ a.whole, a.sound)

handed_number : (n map : ℕ) (f : Fields) → (handed n map f).refused ≡ n
unfolding handed
handed_number zero map f = refl
handed_number (suc n) map f = refl

accepted : (s : List ℕ) → (read_frame s).refused ≡ 0 → Accepted s
unfolding read_frame read_refusal
accepted s e =
    let m = get_or s 0 0 in
    let a = not_refused (eqb (length s) 0) 8 _ (omega arith) (sym (handed_number (read_refusal s) m (fields_in s m)) ∙ e) in
    let b = not_refused (not (allowed m)) 9 _ (omega arith) a.1 in
    let c = not_refused (not (eqb (length s) (length_of m))) 8 _ (omega arith) b.1 in
    record { some = a.0; known = not-false (allowed m) b.0; whole = eqb-true _ _ (not-false _ c.0); sound = c.1 }

-- what a frame that is written without refusal has
record Writable (map : ℕ) (f : Fields) (n : ℕ) : Type 0 where
  known : allowed map ≡ true
  sound : judged (has_bit map) f ≡ 0
  room : length_of map ≤ n

written : (map : ℕ) (f : Fields) (out : List ℕ) → Writable map f (length out) → write_frame map f out ≡ record { refused = 0; written = length_of map; buffer = encode map f ++ drop (length_of map) out }
unfolding write_frame write_refusal refuse_if or_else wrote
written map f out a = rw (a.known, a.sound, le-ltb _ _ a.room)

wrote_number : (n map : ℕ) (f : Fields) (out : List ℕ) → (wrote n map f out).refused ≡ n
unfolding wrote
wrote_number zero map f out = refl
wrote_number (suc n) map f out = refl

writable : (map : ℕ) (f : Fields) (out : List ℕ) → (write_frame map f out).refused ≡ 0 → Writable map f (length out)
unfolding write_frame write_refusal
writable map f out e =
    let a = not_refused (not (allowed map)) 9 _ (omega arith) (sym (wrote_number (write_refusal map f (length out)) map f out) ∙ e) in
    let b = neither_refused (judged (has_bit map) f) _ a.1 in
    let c = not_refused (ltb (length out) (length_of map)) 14 0 (omega arith) b.1 in
    record { known = not-false (allowed map) a.0; sound = b.0; room = ltb-false _ _ c.0 }

encoded : (map : ℕ) (f : Fields) (n : ℕ) → f.value < 2 ^ 32 → Writable map f n → Accepted (encode map f)
encoded map f n v a =
    record {
      some = ne_eqb (length (encode map f)) 0 (λ (e : length (encode map f) ≡ 0). omega (arith, start_positive map 6, length_up_to map f 6));
      known = rw (read_map map f) a.known;
      whole = rw (read_map map f) (length_up_to map f 6);
      sound = rw (read_map map f, read_fields map f (judged_sound (has_bit map) f a.sound) v, judged_kept map f) a.sound;
    }

-- reading what was written gives the fields back: those that the map has, and 0 for the others
pub reading_written : (map : ℕ) (f : Fields) (out : List ℕ) → f.value < 2 ^ 32 → (write_frame map f out).refused ≡ 0 → read_frame (take (write_frame map f out).written (write_frame map f out).buffer) ≡ record { refused = 0; map = map; fields = kept map f }
reading_written map f out v e =
    let a = writable map f out e in
    rw (written map f out a, take_at (encode map f) (drop (length_of map) out) (length_of map) (length_up_to map f 6), read_accepted (encode map f) (encoded map f (length out) v a), read_map map f, read_fields map f (judged_sound (has_bit map) f a.sound) v)

first : (s : List ℕ) → 1 ≤ length s → get_or s 0 0 ∷ [] ≡ take 1 s
first [] h = absurd (omega arith)
first (x ∷ xs) h = refl

field_in : (s : List ℕ) (map i : ℕ) → i < 6 → field_of (fields_in s map) i ≡ field_read s map i
field_in s map zero h = refl
field_in s map (suc zero) h = refl
field_in s map (suc (suc zero)) h = refl
field_in s map (suc (suc (suc zero))) h = refl
field_in s map (suc (suc (suc (suc zero)))) h = refl
field_in s map (suc (suc (suc (suc (suc zero))))) h = refl
field_in s map (suc (suc (suc (suc (suc (suc i)))))) h = absurd (omega arith)

module _ (s : List ℕ) (bytes : Bytes s) where
  map : ℕ
  map = get_or s 0 0

  write_step : (i : ℕ) → i < 6 → start map i + size map i ≤ length s → part map i (field_of (fields_in s map) i) ≡ take (size map i) (drop (start map i) s)
  unfolding field_read
  write_step i h fits = rw (field_in s map i h) (go (has_bit map i) fits)
    where
      go : (b : Bool) → start map i + cond b (width i) 0 ≤ length s → cond b (bytes_of (width i) (cond b (big_endian s (start map i) (width i)) 0)) [] ≡ take (cond b (width i) 0) (drop (start map i) s)
      go true fits = write_back (width i) s (start map i) bytes fits
      go false fits = refl

  written_up_to : (i : ℕ) → i ≤ 6 → start map i ≤ length s → bytes_up_to map (fields_in s map) i ≡ take (start map i) s
  unfolding bytes_up_to start map
  written_up_to zero h fits = first s fits
  written_up_to (suc i) h fits =
      ap₂ ◌++◌ (written_up_to i (omega arith) (omega arith)) (write_step i h fits) ∙ sym (take-add (start map i) (size map i) s)

  written_back : Accepted s → encode map (fields_in s map) ≡ s
  unfolding map
  written_back a = written_up_to 6 (omega arith) (omega (arith, a.whole)) ∙ ap (λ (n : ℕ). take n s) (sym a.whole) ∙ take-length s

-- writing what was read gives the bytes back, at the start of any buffer that has room for them
pub writing_read : (s out : List ℕ) → Bytes s → (read_frame s).refused ≡ 0 → length s ≤ length out → write_frame (read_frame s).map (read_frame s).fields out ≡ record { refused = 0; written = length s; buffer = s ++ drop (length s) out }
unfolding map
writing_read s out bytes e room =
    let a = accepted s e in
    rw (read_accepted s a, written (get_or s 0 0) (fields_in s (get_or s 0 0)) out (record { known = a.known; sound = a.sound; room = omega (arith, a.whole) }), written_back s bytes a, ← a.whole)

-- so each valid frame has one reading, and no other frame has the same
pub one_reading : (s t : List ℕ) → Bytes s → Bytes t → (read_frame s).refused ≡ 0 → read_frame s ≡ read_frame t → s ≡ t
unfolding map
one_reading s t bs bt e q =
    let a = accepted s e in
    let b = accepted t (ap (λ (r : Reading). r.refused) (sym q) ∙ e) in
    let r = sym (read_accepted s a) ∙ q ∙ read_accepted t b in
    sym (written_back s bs a)
    ∙ ap (λ (x : Reading). encode x.map x.fields) r
    ∙ written_back t bt b
