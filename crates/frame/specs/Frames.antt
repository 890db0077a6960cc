-- Document 01, "Frames" and "Refusal table": what reading a byte string and writing a frame come to, for every input.
use Rattle.std.specs.Prelude.{ℕ, zero, suc, Bool, cond, not, List, [], ◌∷◌, ◌++◌, eqb, ltb, length, get_or, drop}
use Rattle.conditions.specs.Conditions.{both, outside}
use Rattle.refusal.specs.Judging.{refuse_if, or_else}
use Rattle.frame.specs.declared.Fields.{Fields}
use Rattle.frame.specs.declared.Reading.{Reading}
use Rattle.frame.specs.FieldMap.{width, has_bit, start, length_of, big_endian, bytes_of, allowed}

-- "A field that the map lacks reads as 0"
unfoldable pub field_read : List ℕ → ℕ → ℕ → ℕ
field_read s map i = cond (has_bit map i) (big_endian s (start map i) (width i)) 0

-- the fields by their bits
abbrev pub field_of : Fields → ℕ → ℕ
field_of f i = get_or (f.station ∷ f.number ∷ f.point ∷ f.action ∷ f.value ∷ f.refusal ∷ []) i 0

-- the fields of a byte string under a map
abbrev pub fields_in : List ℕ → ℕ → Fields
fields_in s map =
    record {
      station = field_read s map 0;
      number = field_read s map 1;
      point = field_read s map 2;
      action = field_read s map 3;
      value = field_read s map 4;
      refusal = field_read s map 5;
    }

-- the fields as a frame of this map keeps them: one that the map lacks is lost in writing and "reads as 0"
abbrev pub kept : ℕ → Fields → Fields
kept map f =
    record {
      station = cond (has_bit map 0) f.station 0;
      number = cond (has_bit map 1) f.number 0;
      point = cond (has_bit map 2) f.point 0;
      action = cond (has_bit map 3) f.action 0;
      value = cond (has_bit map 4) f.value 0;
      refusal = cond (has_bit map 5) f.refusal 0;
    }

-- the fields that the frame has, judged "in bit order": station "1 to 32", number "1 to 16777215", point "1 to 2147483646",
-- action not "above 2", value "any", refusal "1 to 14"
unfoldable pub judged : (ℕ → Bool) → Fields → ℕ
judged has f =
    refuse_if (both (has 0) (outside 1 f.station 32)) 10
    (refuse_if (both (has 1) (outside 1 f.number 16777215)) 11
    (refuse_if (both (has 2) (outside 1 f.point 2147483646)) 2
    (refuse_if (both (has 3) (outside 0 f.action 2)) 13
    (refuse_if (both (has 5) (outside 1 f.refusal 14)) 13 0))))

-- "frame reader 8 (empty), 9, 8, then fields in bit order"
unfoldable pub read_refusal : List ℕ → ℕ
read_refusal s =
    refuse_if (eqb (length s) 0) 8
    (refuse_if (not (allowed (get_or s 0 0))) 9
    (refuse_if (not (eqb (length s) (length_of (get_or s 0 0)))) 8
    (judged (has_bit (get_or s 0 0)) (fields_in s (get_or s 0 0)))))

-- the fields that go with a refusal
abbrev pub no_fields : Fields
no_fields = record { station = 0; number = 0; point = 0; action = 0; value = 0; refusal = 0 }

-- "With a refusal every other number handed back is 0"
unfoldable pub handed : ℕ → ℕ → Fields → Reading
handed zero map f = record { refused = 0; map = map; fields = f }
handed (suc n) map f = record { refused = suc n; map = 0; fields = no_fields }

-- the frame reader
unfoldable pub read_frame : List ℕ → Reading
read_frame s = handed (read_refusal s) (get_or s 0 0) (fields_in s (get_or s 0 0))

-- a field that the map lacks "is ignored when writing"
abbrev pub part : ℕ → ℕ → ℕ → List ℕ
part map i x = cond (has_bit map i) (bytes_of (width i) x) []

-- "One map byte, then only the fields whose bit is set, in rising bit order": the bytes in front of field i
unfoldable pub bytes_up_to : ℕ → Fields → ℕ → List ℕ
bytes_up_to map f zero = map ∷ []
bytes_up_to map f (suc i) = bytes_up_to map f i ++ part map i (field_of f i)

-- the bytes of a frame
abbrev pub encode : ℕ → Fields → List ℕ
encode map f = bytes_up_to map f 6

-- "frame writer 9, fields, 14", for a buffer of n bytes
unfoldable pub write_refusal : ℕ → Fields → ℕ → ℕ
write_refusal map f n = refuse_if (not (allowed map)) 9 (or_else (judged (has_bit map) f) (refuse_if (ltb n (length_of map)) 14 0))

-- what a writer hands back: the refusal's number or 0, how many bytes it wrote, and the buffer
pub record Writing : Type 0 where
  pub refused : ℕ
  pub written : ℕ
  pub buffer : List ℕ

-- "The writer of a frame touches only the frame's bytes"; with a refusal none
unfoldable pub wrote : ℕ → ℕ → Fields → List ℕ → Writing
wrote zero map f out = record { refused = 0; written = length_of map; buffer = encode map f ++ drop (length_of map) out }
wrote (suc n) map f out = record { refused = suc n; written = 0; buffer = out }

-- the frame writer
unfoldable pub write_frame : ℕ → Fields → List ℕ → Writing
write_frame map f out = wrote (write_refusal map f (length out)) map f out
