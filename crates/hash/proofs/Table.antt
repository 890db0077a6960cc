-- The lemmas that carry the computed test of the table to each of its entries, and so to each hash function.
use Prim.Native.Nat.{ℕ, zero, suc, ◌+◌, ◌-◌, ◌*◌, ◌≤◌, ◌<◌}
use mathlib.Core.Path.{◌≡◌, refl, sym, ap, ◌∙◌}
use mathlib.Core.Bool.{and-eq-true_iff, true}
use mathlib.Core.List.{List, [], ◌∷◌}
use native.Mathlib.Nat.{add-zero, zero-add, add-suc, suc-add, le_of_suc-le-suc, not-suc-le-zero}
use native.Mathlib.Numerals.{add-one}
use native.Mathlib.Omega.{arith}
use borrow.Author.Tests.{eqb-true}
use lib.Dec.{eqb}
use lib.ListN.{length, get_or}
use Rattle.hash.specs.Position.{next_of, z, carter_wegman, position_of}
use Rattle.hash.specs.Table.{follows, is_table}
use Rattle.hash.proofs.Laws.{position_inside}

module _ (x before : ℕ) (xs : List ℕ) (t : follows before (x ∷ xs) ≡ true) where
  head : x ≡ next_of before
  head = eqb-true x (next_of before) ((and-eq-true_iff (eqb x (next_of before)) (follows x xs)).0 t).0

  tail : follows x xs ≡ true
  tail = ((and-eq-true_iff (eqb x (next_of before)) (follows x xs)).0 t).1

from : (xs : List ℕ) (j before : ℕ) → before ≡ z j → follows before xs ≡ true → (k : ℕ) → k < length xs → get_or xs k 0 ≡ z (suc (j + k))
unfolding z
from [] j before e t k h = absurd (not-suc-le-zero h)
from (x ∷ xs) j before e t zero h = head x before xs t ∙ ap next_of e ∙ ap z (ap suc (sym (add-zero j)))
from (x ∷ xs) j before e t (suc k) h =
    from xs (suc j) x (head x before xs t ∙ ap next_of e) (tail x before xs t) k (le_of_suc-le-suc h)
    ∙ ap z (ap suc (suc-add j k ∙ sym (add-suc j k)))

pub table_length : (xs : List ℕ) → is_table xs ≡ true → length xs ≡ 128
table_length xs t = eqb-true (length xs) 128 ((and-eq-true_iff (eqb (length xs) 128) (follows 1 xs)).0 t).0

-- the entry at k is z(k + 1)
pub entry : (xs : List ℕ) → is_table xs ≡ true → (k : ℕ) → k < 128 → get_or xs k 0 ≡ z (k + 1)
unfolding z
entry xs t k h =
    from xs 0 1 refl ((and-eq-true_iff (eqb (length xs) 128) (follows 1 xs)).0 t).1 k (omega (arith, table_length xs t))
    ∙ ap z (ap suc (zero-add k) ∙ sym (add-one k))

-- the two entries of function i are z(2i - 1) and z(2i), in any list that begins so
pub of_function : (xs : List ℕ) (n : ℕ) → ((k : ℕ) → k < n → get_or xs k 0 ≡ z (k + 1)) → (i : ℕ) → 1 ≤ i → 2 * i ≤ n → (get_or xs (2 * i - 2) 0 ≡ z (2 * i - 1)) × (get_or xs (2 * i - 2 + 1) 0 ≡ z (2 * i))
of_function xs n entries i h g =
    let e : 2 * i - 2 + 1 ≡ 2 * i - 1 = omega arith in
    let f : 2 * i - 2 + 1 + 1 ≡ 2 * i = omega arith in
    (entries (2 * i - 2) (omega arith) ∙ ap z e, entries (2 * i - 2 + 1) (omega arith) ∙ ap z f)

-- and in the table they give the position
pub position_mixed : (xs : List ℕ) → is_table xs ≡ true → (m q i : ℕ) → 1 ≤ m → 1 ≤ i → i ≤ 64 → carter_wegman (get_or xs (2 * i - 2) 0) (get_or xs (2 * i - 2 + 1) 0) q m ≡ position_of m q i
position_mixed xs t m q i some low high =
    let two = of_function xs 128 (entry xs t) i low (omega arith) in
    rw (two.0, two.1, position_inside m q i some low high)
