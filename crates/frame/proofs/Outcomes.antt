-- What the reader's and the writer's definitions come to in each case that the code tells apart.
use Prim.Native.Nat.{ℕ, zero, suc, ◌≤◌, ◌<◌}
use mathlib.Core.Path.{◌≡◌, refl}
use mathlib.Core.Logic.{◌≢◌}
use mathlib.Core.Bool.{false, not}
use mathlib.Core.List.{List, [], ◌∷◌}
use native.Mathlib.Omega.{arith}
use borrow.Author.Tests.{eq-eqb, ne_eqb, lt-ltb, le-ltb}
use lib.Dec.{eqb, ltb}
use lib.ListN.{length, get_or, set}
use Rattle.std.specs.Prelude.{Some, None, slice_get}
use Rattle.refusal.specs.Judging.{refuse_if, or_else}
use Rattle.refusal.proofs.Laws.{else_refused}
use Rattle.frame.specs.declared.Kind.{Kind}
use Rattle.frame.specs.declared.Fields.{Fields}
use Rattle.frame.specs.declared.layout.Layout.{Layout}
use Rattle.frame.specs.FieldMap.{map_of, allowed}
use Rattle.frame.specs.Frames.{judged, no_fields, fields_in, handed, read_refusal, read_frame, write_refusal, wrote, write_frame}
use Rattle.frame.specs.Layouts.{laid, present, places_of, fields_at, put_fields}
use Rattle.frame.proofs.LayoutLaws.{kind_allowed, fields_laid, judged_laid, length_laid, put_laid}

handed_refused : (n map : ℕ) (f : Fields) → 1 ≤ n → handed n map f ≡ record { refused = n; map = 0; fields = no_fields }
unfolding handed
handed_refused zero map f h = absurd (omega arith)
handed_refused (suc n) map f h = refl

wrote_refused : (n map : ℕ) (f : Fields) (out : List ℕ) → 1 ≤ n → wrote n map f out ≡ record { refused = n; written = 0; buffer = out }
unfolding wrote
wrote_refused zero map f out h = absurd (omega arith)
wrote_refused (suc n) map f out h = refl

-- the ranges' judge, by a layout
abbrev pub judged_by : Layout → Fields → ℕ
judged_by l f = judged (λ (i : ℕ). present (places_of l i)) f

-- a byte string begins with a byte
record Begins (s : List ℕ) (byte : ℕ) : Type 0 where
  some : eqb (length s) 0 ≡ false
  first : get_or s 0 0 ≡ byte

begins : (s : List ℕ) (byte : ℕ) → Some byte ≡ slice_get s 0 → Begins s byte
begins [] byte e = cc
begins (x ∷ xs) byte e = record { some = ne_eqb (suc (length xs)) 0 (λ e. omega arith); first = cc }

pub read_empty : (s : List ℕ) → None ≡ slice_get s 0 → read_frame s ≡ record { refused = 8; map = 0; fields = no_fields }
unfolding read_frame read_refusal refuse_if handed
read_empty [] e = refl
read_empty (x ∷ xs) e = cc

pub read_not_allowed : (s : List ℕ) (byte : ℕ) → Some byte ≡ slice_get s 0 → allowed byte ≡ false → read_frame s ≡ record { refused = 9; map = 0; fields = no_fields }
unfolding read_frame read_refusal refuse_if handed
read_not_allowed s byte b e = let is = begins s byte b in rw (is.some, is.first, e)

module _ (k : Kind) (s : List ℕ) (byte : Some (map_of k) ≡ slice_get s 0) where
  refusal_read : read_refusal s ≡ refuse_if (not (eqb (length s) (laid k).length)) 8 (judged_by (laid k) (fields_at s (laid k)))
  unfolding read_refusal refuse_if
  refusal_read = let is = begins s (map_of k) byte in rw (is.some, is.first, kind_allowed k, ← fields_laid s k, ← judged_laid k (fields_at s (laid k)), length_laid k)

  pub read_of_other_length : length s ≢ (laid k).length → read_frame s ≡ record { refused = 8; map = 0; fields = no_fields }
  unfolding read_frame refuse_if handed
  read_of_other_length e = rw (refusal_read, ne_eqb _ _ e)

  pub read_out_of_range : (n : ℕ) → 1 ≤ n → length s ≡ (laid k).length → n ≡ judged_by (laid k) (fields_at s (laid k)) → read_frame s ≡ record { refused = n; map = 0; fields = no_fields }
  unfolding read_frame refuse_if
  read_out_of_range n h e en = rw (refusal_read, eq-eqb _ _ e, ← en) (handed_refused n (get_or s 0 0) (fields_in s (get_or s 0 0)) h)

  pub read_whole : length s ≡ (laid k).length → 0 ≡ judged_by (laid k) (fields_at s (laid k)) → read_frame s ≡ record { refused = 0; map = map_of k; fields = fields_at s (laid k) }
  unfolding read_frame refuse_if handed
  read_whole e en = rw (refusal_read, eq-eqb _ _ e, ← en, (begins s (map_of k) byte).first, fields_laid s k)

pub write_not_allowed : (map : ℕ) (f : Fields) (out : List ℕ) → allowed map ≡ false → write_frame map f out ≡ record { refused = 9; written = 0; buffer = out }
unfolding write_frame write_refusal refuse_if wrote
write_not_allowed map f out e = rw e

module _ (k : Kind) (f : Fields) (out : List ℕ) where
  refusal_written : write_refusal (map_of k) f (length out) ≡ or_else (judged_by (laid k) f) (refuse_if (ltb (length out) (laid k).length) 14 0)
  unfolding write_refusal refuse_if
  refusal_written = rw (kind_allowed k, judged_laid k f, length_laid k)

  pub write_out_of_range : (n : ℕ) → 1 ≤ n → n ≡ judged_by (laid k) f → write_frame (map_of k) f out ≡ record { refused = n; written = 0; buffer = out }
  unfolding write_frame
  write_out_of_range n h e = rw (refusal_written, ← e, else_refused n (refuse_if (ltb (length out) (laid k).length) 14 0) h) (wrote_refused n (map_of k) f out h)

  pub write_short : 0 ≡ judged_by (laid k) f → length out < (laid k).length → write_frame (map_of k) f out ≡ record { refused = 14; written = 0; buffer = out }
  unfolding write_frame or_else refuse_if wrote
  write_short e h = rw (refusal_written, ← e, lt-ltb _ _ h)

  pub write_whole : 0 ≡ judged_by (laid k) f → (laid k).length ≤ length out → write_frame (map_of k) f out ≡ record { refused = 0; written = (laid k).length; buffer = put_fields (laid k) f (set out 0 (map_of k)) }
  unfolding write_frame or_else refuse_if wrote
  write_whole e h =
      let room = rw (length_laid k) at h in
      rw (refusal_written, ← e, le-ltb _ _ h, put_laid k f out room, length_laid k)
