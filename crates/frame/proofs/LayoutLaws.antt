-- A layout of an allowed map gives the field map's own fields, ranges and bytes, so that reading and writing by a layout is reading
-- and writing by the field map.
use Prim.Native.Nat.{ℕ, zero, suc, ◌+◌, ◌≤◌}
use mathlib.Core.Path.{◌≡◌, refl, sym, ap, ap₂, ◌∙◌}
use mathlib.Core.Bool.{Bool, true, false, cond, not}
use mathlib.Core.List.{List, [], ◌∷◌, ◌++◌, map, append-nil}
use native.Mathlib.Nat.{zero-add}
use native.Mathlib.Omega.{arith}
use borrow.Author.Tests.{eqb-true, ne_eqb}
use lib.Dec.{eqb}
use Rattle.std.specs.Prelude.{Result, Ok, Err}
use lib.ListN.{length, set, drop, length-append}
use lib.Seq.{sets, sets-eq}
use Rattle.conditions.specs.Conditions.{both, outside}
use Rattle.refusal.specs.declared.Refusal.{Refusal}
use Rattle.refusal.specs.declared.Refusal.TheVariants.{Map}
use Rattle.refusal.specs.Judging.{refuse_if}
use Rattle.frame.specs.declared.Kind.{Kind}
use Rattle.frame.specs.declared.Kind.TheVariants.{Query, Command, Value, CommandAnswer, QueryRefused, CommandRefused}
use Rattle.frame.specs.declared.Fields.{Fields}
use Rattle.frame.specs.declared.layout.Layout.{Layout}
use Rattle.frame.specs.FieldMap.{width, has_bit, start, length_of, big_endian, bytes_of, map_of, kinds, is_map_of, allowed, kind_among, kind_of}
use Rattle.frame.specs.Frames.{field_read, fields_in, judged, field_of, part, bytes_up_to, encode}
use Rattle.frame.specs.Layouts.{place, laid, with_layout, layout_of, present, places_of, number_at, fields_at, put, put_fields}
use Rattle.frame.proofs.BigEndian.{length_bytes, sets_append}

-- "Their frames have 5, 10, 9, 13, 6 and 10 bytes"
pub lengths : map (λ (k : Kind). length_of (map_of k)) kinds ≡ 5 ∷ 10 ∷ 9 ∷ 13 ∷ 6 ∷ 10 ∷ []
unfolding start has_bit
lengths = refl

byte_among : (map : ℕ) (k : Kind) (ks : List Kind) → kind_among map ks ≡ Ok k → map ≡ map_of k
byte_among map k [] e = cc
byte_among map k (l ∷ ks) e = go (eqb map (map_of l)) refl e (byte_among map k ks)
  where
    go : (b : Bool) → eqb map (map_of l) ≡ b → cond b (Ok l) (kind_among map ks) ≡ Ok k → (kind_among map ks ≡ Ok k → map ≡ map_of k) → map ≡ map_of k
    go true t e later = let same : l ≡ k = cc in eqb-true map (map_of l) t ∙ ap map_of same
    go false t e later = later e

-- the kind that was found has the map byte
pub kind_byte : (map : ℕ) (k : Kind) → kind_of map ≡ Ok k → map ≡ map_of k
unfolding kind_of
kind_byte map k e = byte_among map k kinds e

-- a map byte is no kind's
pub record Unknown (map : ℕ) (r : Refusal) (ks : List Kind) : Type 0 where
  pub refusal : r ≡ Map
  pub none : is_map_of map ks ≡ false

unknown_among : (map : ℕ) (r : Refusal) (ks : List Kind) → kind_among map ks ≡ Err r → Unknown map r ks
unknown_among map r [] e = record { refusal = cc; none = refl }
unknown_among map r (k ∷ ks) e = go (eqb map (map_of k)) refl e (unknown_among map r ks)
  where
    go : (b : Bool) → eqb map (map_of k) ≡ b → cond b (Ok k) (kind_among map ks) ≡ Err r → (kind_among map ks ≡ Err r → Unknown map r ks) → Unknown map r (k ∷ ks)
    go true t e later = cc
    go false t e later = let u = later e in record { refusal = u.refusal; none = rw t u.none }

pub not_allowed : (map : ℕ) (r : Refusal) → kind_of map ≡ Err r → (r ≡ Map) × (allowed map ≡ false)
unfolding kind_of allowed
not_allowed map r e = let u = unknown_among map r kinds e in (u.refusal, u.none)

kind_in : Kind → Result (Kind × Layout) Refusal → Kind
kind_in k (Ok found) = found.0
kind_in k (Err r) = k

layout_in : Layout → Result (Kind × Layout) Refusal → Layout
layout_in l (Ok found) = found.1
layout_in l (Err r) = l

-- the kind and the layout that the map byte chose
pub record Chosen (map : ℕ) (k : Kind) (l : Layout) : Type 0 where
  pub laid_out : l ≡ laid k
  pub byte : map ≡ map_of k

pub chosen : (byte : ℕ) (k : Kind) (l : Layout) → layout_of byte ≡ Ok (k, l) → Chosen byte k l
unfolding layout_of layout_in laid kind_in
chosen byte k l e = go (kind_of byte) refl e
  where
    go : (found : Result Kind Refusal) → kind_of byte ≡ found → with_layout found ≡ Ok (k, l) → Chosen byte k l
    go (Ok kind) f w =
        let same = ap (kind_in k) w in
        record { laid_out = sym (ap (layout_in l) w) ∙ ap laid same; byte = kind_byte byte k (f ∙ ap Ok same) }
    go (Err r) f w = cc

pub none_chosen : (map : ℕ) (r : Refusal) → layout_of map ≡ Err r → (r ≡ Map) × (allowed map ≡ false)
unfolding layout_of
none_chosen map r e = go (kind_of map) refl e
  where
    go : (found : Result Kind Refusal) → kind_of map ≡ found → with_layout found ≡ Err r → (r ≡ Map) × (allowed map ≡ false)
    go (Ok kind) f w = cc
    go (Err other) f w = let same : other ≡ r = cc in not_allowed map r (f ∙ ap Err same)

pub kind_allowed : (k : Kind) → allowed (map_of k) ≡ true
unfolding allowed
kind_allowed Query = refl
kind_allowed Command = refl
kind_allowed Value = refl
kind_allowed CommandAnswer = refl
kind_allowed QueryRefused = refl
kind_allowed CommandRefused = refl

pub start_positive : (map i : ℕ) → 1 ≤ start map i
unfolding start
start_positive map zero = omega arith
start_positive map (suc i) = omega (arith, start_positive map i)

start_not_zero : (map i : ℕ) → eqb (start map i) 0 ≡ false
start_not_zero map i = ne_eqb (start map i) 0 (λ e. omega (arith, start_positive map i))

pub present_place : (map i : ℕ) → present (place map i) ≡ has_bit map i
present_place map i = go (has_bit map i)
  where
    go : (b : Bool) → present (cond b (start map i) 0) ≡ b
    go true = ap not (start_not_zero map i)
    go false = refl

pub number_place : (s : List ℕ) (map i : ℕ) → number_at s (place map i) (width i) ≡ field_read s map i
unfolding number_at field_read
number_place s map i = go (has_bit map i)
  where
    go : (b : Bool) → cond (eqb (cond b (start map i) 0) 0) 0 (big_endian s (cond b (start map i) 0) (width i)) ≡ cond b (big_endian s (start map i) (width i)) 0
    go true = rw (start_not_zero map i)
    go false = refl

pub fields_laid : (s : List ℕ) (k : Kind) → fields_at s (laid k) ≡ fields_in s (map_of k)
unfolding fields_at laid
fields_laid s k = λ j.
    record {
      station = number_place s (map_of k) 0 j;
      number = number_place s (map_of k) 1 j;
      point = number_place s (map_of k) 2 j;
      action = number_place s (map_of k) 3 j;
      value = number_place s (map_of k) 4 j;
      refusal = number_place s (map_of k) 5 j;
    }

pub judged_laid : (k : Kind) (f : Fields) → judged (λ (i : ℕ). present (places_of (laid k) i)) f ≡ judged (has_bit (map_of k)) f
unfolding judged laid
judged_laid k f = λ j.
    refuse_if (both (present_place (map_of k) 0 j) (outside 1 f.station 32)) 10
    (refuse_if (both (present_place (map_of k) 1 j) (outside 1 f.number 16777215)) 11
    (refuse_if (both (present_place (map_of k) 2 j) (outside 1 f.point 2147483646)) 2
    (refuse_if (both (present_place (map_of k) 3 j) (outside 0 f.action 2)) 13
    (refuse_if (both (present_place (map_of k) 5 j) (outside 1 f.refusal 14)) 13 0))))

pub length_laid : (k : Kind) → (laid k).length ≡ length_of (map_of k)
unfolding laid
length_laid k = refl

-- the bytes in front of a field end where the field begins
pub length_up_to : (map : ℕ) (f : Fields) (i : ℕ) → length (bytes_up_to map f i) ≡ start map i
unfolding bytes_up_to start
length_up_to map f zero = refl
length_up_to map f (suc i) = length-append (bytes_up_to map f i) (part map i (field_of f i)) ∙ ap₂ ◌+◌ (length_up_to map f i) (go (has_bit map i))
  where
    go : (b : Bool) → length (cond b (bytes_of (width i) (field_of f i)) []) ≡ cond b (width i) 0
    go true = length_bytes (width i) (field_of f i)
    go false = refl

-- a field stored behind those in front of it
put_step : (map : ℕ) (f : Fields) (out : List ℕ) (i : ℕ) → put (place map i) (width i) (field_of f i) (sets out 0 (bytes_up_to map f i)) ≡ sets out 0 (bytes_up_to map f (suc i))
unfolding put bytes_up_to
put_step map f out i = go (has_bit map i)
  where
    xs : List ℕ
    xs = bytes_up_to map f i

    go : (b : Bool) → cond (eqb (cond b (start map i) 0) 0) (sets out 0 xs) (sets (sets out 0 xs) (cond b (start map i) 0) (bytes_of (width i) (field_of f i))) ≡ sets out 0 (xs ++ cond b (bytes_of (width i) (field_of f i)) [])
    go true =
        rw (start_not_zero map i)
        (ap (λ (m : ℕ). sets (sets out 0 xs) m (bytes_of (width i) (field_of f i))) (sym (length_up_to map f i) ∙ sym (zero-add (length xs)))
        ∙ sym (sets_append xs (bytes_of (width i) (field_of f i)) out 0))
    go false = rw append-nil

put_map : (map : ℕ) (f : Fields) (out : List ℕ) → set out 0 map ≡ sets out 0 (bytes_up_to map f 0)
unfolding bytes_up_to
put_map map f out = refl

-- the writer, by the layout that the map byte chose
pub put_laid : (k : Kind) (f : Fields) (out : List ℕ) → length_of (map_of k) ≤ length out → put_fields (laid k) f (set out 0 (map_of k)) ≡ encode (map_of k) f ++ drop (length_of (map_of k)) out
unfolding put_fields laid
put_laid k f out room =
    let m = map_of k in
    let n : 0 + length (encode m f) ≡ length_of m = zero-add (length (encode m f)) ∙ length_up_to m f 6 in
    rw (put_map m f out, put_step m f out 0, put_step m f out 1, put_step m f out 2, put_step m f out 3, put_step m f out 4, put_step m f out 5)
    (sets-eq (encode m f) out 0 (rw n room) ∙ ap (λ (j : ℕ). encode m f ++ drop j out) n)
