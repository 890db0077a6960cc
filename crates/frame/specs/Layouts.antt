-- The layout that a map byte chooses, as the code holds it, and what the private functions do by a layout. No public contract cites
-- these: proofs/LayoutLaws.antt shows that a layout gives the field map's own fields, ranges and bytes.
use Rattle.std.specs.Prelude.{ℕ, Bool, cond, not, Result, Ok, Err, List, [], ◌∷◌, eqb, get_or}
use Rattle.std.proofs.lemmas.List.Edits.{sets}
use Rattle.refusal.specs.declared.Refusal.{Refusal}
use Rattle.frame.specs.declared.Kind.{Kind}
use Rattle.frame.specs.declared.Fields.{Fields}
use Rattle.frame.specs.declared.layout.Layout.{Layout}
use Rattle.frame.specs.FieldMap.{has_bit, start, length_of, big_endian, bytes_of, map_of, kind_of}

-- where field i begins, or 0 where the map lacks it
abbrev pub place : ℕ → ℕ → ℕ
place map i = cond (has_bit map i) (start map i) 0

-- the layout of a kind of frame
unfoldable pub laid : Kind → Layout
laid kind =
    record {
      length = length_of (map_of kind);
      station = place (map_of kind) 0;
      number = place (map_of kind) 1;
      point = place (map_of kind) 2;
      action = place (map_of kind) 3;
      value = place (map_of kind) 4;
      refusal = place (map_of kind) 5;
    }

-- a kind with its layout, or the refusal
abbrev pub with_layout : Result Kind Refusal → Result (Kind × Layout) Refusal
with_layout (Ok kind) = Ok (kind, laid kind)
with_layout (Err r) = Err r

-- the kind and the layout that a map byte chooses
unfoldable pub layout_of : ℕ → Result (Kind × Layout) Refusal
layout_of map = with_layout (kind_of map)

-- a layout has a field where its place is not 0
abbrev pub present : ℕ → Bool
present at = not (eqb at 0)

-- the places by their bits
abbrev pub places_of : Layout → ℕ → ℕ
places_of l i = get_or (l.station ∷ l.number ∷ l.point ∷ l.action ∷ l.value ∷ l.refusal ∷ []) i 0

-- the number of w bytes at a place, 0 where the layout lacks the field
unfoldable pub number_at : List ℕ → ℕ → ℕ → ℕ
number_at s at w = cond (eqb at 0) 0 (big_endian s at w)

-- the fields of a byte string by a layout
unfoldable pub fields_at : List ℕ → Layout → Fields
fields_at s l =
    record {
      station = number_at s l.station 1;
      number = number_at s l.number 3;
      point = number_at s l.point 4;
      action = number_at s l.action 1;
      value = number_at s l.value 4;
      refusal = number_at s l.refusal 1;
    }

-- a number of w bytes stored at a place, nothing where the layout lacks the field
unfoldable pub put : ℕ → ℕ → ℕ → List ℕ → List ℕ
put at w x out = cond (eqb at 0) out (sets out at (bytes_of w x))

-- a frame's fields stored by its layout
unfoldable pub put_fields : Layout → Fields → List ℕ → List ℕ
put_fields l f out =
    put l.refusal 1 f.refusal
    (put l.value 4 f.value
    (put l.action 1 f.action (put l.point 4 f.point (put l.number 3 f.number (put l.station 1 f.station out)))))
