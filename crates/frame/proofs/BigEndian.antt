-- Laws of big-endian numbers: how large one is, that its bytes are as many as its width, and that reading and writing undo each other.
use Prim.Native.Nat.{ℕ, zero, suc, ◌+◌, ◌*◌, ◌/◌, ◌%◌, ◌^◌, ◌≤◌, ◌<◌}
use mathlib.Core.Path.{◌≡◌, refl, sym, ap, ◌∙◌}
use mathlib.Core.List.{List, [], ◌∷◌, ◌++◌, append_assoc}
use native.Mathlib.Nat.{add-zero, add-suc, suc-add, pow-suc, pow-le-pow_right, lt_of_lt_of_le}
use native.Mathlib.Numerals.{add-one}
use native.Mathlib.Omega.{arith}
use lib.ListN.{length, get_or, set, take, drop, length-append, length-drop}
use lib.Seq.{sets, set_comm, take-suc, get_or-drop, get_or_at}
use Rattle.frame.specs.FieldMap.{big_endian, bytes_of}

-- the first byte counts most: 01 02 is 258
first_most : (big_endian (1 ∷ 2 ∷ []) 0 2 ≡ 258) × (bytes_of 2 258 ≡ 1 ∷ 2 ∷ [])
unfolding big_endian bytes_of
first_most = (refl, refl)

-- every element of the list is a byte
abbrev pub Bytes : List ℕ → Type 0
Bytes s = (k : ℕ) → get_or s k 0 < 256

pub below : (s : List ℕ) (at w : ℕ) → Bytes s → big_endian s at w < 256 ^ w
unfolding big_endian
below s at zero h = omega arith
below s at (suc w) h =
    let b = below s at w h in
    let x = h (at + w) in
    let e : 256 ^ suc w ≡ 256 ^ w * 256 = pow-suc 256 w in
    omega arith

-- three bytes leave room for a fourth in 32 bits
pub below_three : (s : List ℕ) (at w : ℕ) → Bytes s → w ≤ 3 → big_endian s at w < 16777216
below_three s at w h few = lt_of_lt_of_le (below s at w h) (pow-le-pow_right {n = 256} (omega arith) few)

pub length_bytes : (w x : ℕ) → length (bytes_of w x) ≡ w
unfolding bytes_of
length_bytes zero x = refl
length_bytes (suc w) x = length-append (bytes_of w (x / 256)) (x % 256 ∷ []) ∙ ap (λ (n : ℕ). n + 1) (length_bytes w (x / 256)) ∙ add-one w

-- the number that was written, whatever stands before and behind it
pub read_back : (w x : ℕ) (before behind : List ℕ) → x < 256 ^ w → big_endian (before ++ bytes_of w x ++ behind) (length before) w ≡ x
unfolding big_endian bytes_of
read_back zero x before behind h = omega arith
read_back (suc w) x before behind h =
    let front : List ℕ = before ++ bytes_of w (x / 256) in
    let n : length front ≡ length before + w =
    length-append before (bytes_of w (x / 256)) ∙ ap (λ (k : ℕ). length before + k) (length_bytes w (x / 256)) in
    let e : before ++ (bytes_of w (x / 256) ++ (x % 256 ∷ [])) ++ behind ≡ front ++ (x % 256 ∷ behind) = simp append_assoc in
    let m : 256 ^ suc w ≡ 256 ^ w * 256 = pow-suc 256 w in
    let p = read_back w (x / 256) before (x % 256 ∷ behind) (omega arith) in
    let q : get_or (front ++ (x % 256 ∷ behind)) (length before + w) 0 ≡ x % 256 = get_or_at front (x % 256) behind 0 (length before + w) n in
    let r : big_endian (front ++ (x % 256 ∷ behind)) (length before) w * 256 + get_or (front ++ (x % 256 ∷ behind)) (length before + w) 0 ≡ x =
    rw (p, q) (omega arith) in
    ap (λ (s : List ℕ). big_endian s (length before) w * 256 + get_or s (length before + w) 0) e ∙ r

-- the bytes that were read
pub write_back : (w : ℕ) (s : List ℕ) (at : ℕ) → Bytes s → at + w ≤ length s → bytes_of w (big_endian s at w) ≡ take w (drop at s)
unfolding big_endian bytes_of
write_back zero s at h fits = refl
write_back (suc w) s at h fits =
    let b = h (at + w) in
    let d : (big_endian s at w * 256 + get_or s (at + w) 0) / 256 ≡ big_endian s at w = omega arith in
    let m : (big_endian s at w * 256 + get_or s (at + w) 0) % 256 ≡ get_or s (at + w) 0 = omega arith in
    let t = take-suc (drop at s) w 0 (omega (arith, length-drop at s)) in
    rw (d, m, write_back w s at h (omega arith), t, get_or-drop at s w 0)

-- a run of stores may begin with its last
pub sets_last : (xs l : List ℕ) (i y : ℕ) → sets l i (xs ++ (y ∷ [])) ≡ sets (set l (i + length xs) y) i xs
sets_last [] l i y = ap (λ (n : ℕ). set l n y) (sym (add-zero i))
sets_last (x ∷ xs) l i y =
    sets_last xs (set l i x) (suc i) y
    ∙ ap (λ (m : List ℕ). sets m (suc i) xs) (set_comm l i (suc i + length xs) x y (omega arith))
    ∙ ap (λ (n : ℕ). sets (set (set l n y) i x) (suc i) xs) (suc-add i (length xs) ∙ sym (add-suc i (length xs)))

-- the last byte stored first, and then the others
pub put_last : (w x : ℕ) (out : List ℕ) (at : ℕ) → sets (set out (at + w) (x % 256)) at (bytes_of w (x / 256)) ≡ sets out at (bytes_of (suc w) x)
unfolding bytes_of
put_last w x out at =
    ap (λ (n : ℕ). sets (set out (at + n) (x % 256)) at (bytes_of w (x / 256))) (sym (length_bytes w (x / 256)))
    ∙ sym (sets_last (bytes_of w (x / 256)) out at (x % 256))

-- a run of stores may be cut in two
pub sets_append : (xs ys l : List ℕ) (i : ℕ) → sets l i (xs ++ ys) ≡ sets (sets l i xs) (i + length xs) ys
sets_append [] ys l i = ap (λ (n : ℕ). sets l n ys) (sym (add-zero i))
sets_append (x ∷ xs) ys l i =
    sets_append xs ys (set l i x) (suc i) ∙ ap (λ (n : ℕ). sets (sets (set l i x) (suc i) xs) n ys) (suc-add i (length xs) ∙ sym (add-suc i (length xs)))
