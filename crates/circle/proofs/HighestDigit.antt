-- The party due, told by a number whose binary digits say who has work: it is that of the highest digit from the place on, or of the highest of all.
use Rattle.std.proofs.Common.{◌≡◌, ℕ, zero, suc, ◌+◌, ◌-◌, ◌*◌, ◌/◌, ◌%◌, ◌^◌, ◌<◌, ◌≤◌, Bool, true, false, cond, eqb, sym, refl, ap, ◌∙◌, lt_of_lt_of_le, add-zero, add-suc, mod-lt, mod-eq_of_lt, suc-add, pow-suc, zero-add, one-add, arith, pow_pos, pow_mono, pow-add, lt-ltb, eq-eqb, ne_eqb, eqb-true}
use native.Mathlib.Nat.{mod-one}
use borrow.Author.Tests.{eqb-false}
use lib.Count.{count_leading_zeros, leading_of_zero, leading_length, leading_unique}
use lib.Bits.{bit_and, and_mask}
use lib.Pow.{shl-shr, field, mod-mod-pow, mod-pow-add}
use Rattle.conditions.proofs.ConditionLaws.{cond_holds}
use Rattle.circle.specs.Circle.{nobody, party_after, first_at_work, party_due}

-- a number that is cut to so many digits keeps each of these
pub digit_kept : (width x i : ℕ) → i < width → x % 2 ^ width / 2 ^ i % 2 ≡ x / 2 ^ i % 2
digit_kept width x i low =
    let above = width - suc i in
    let whole : width ≡ above + 1 + i = omega arith in
    ap (λ (w : ℕ). x % 2 ^ w / 2 ^ i % 2) whole
    ∙ ap (λ (y : ℕ). y % 2) (field x (above + 1) i)
    ∙ mod-mod-pow (x / 2 ^ i) above 1

-- the lowest digits, with the next one in front
next_digit : (x i : ℕ) → x % 2 ^ suc i ≡ x / 2 ^ i % 2 * 2 ^ i + x % 2 ^ i
next_digit x i = ap (λ (n : ℕ). x % 2 ^ n) (sym (one-add i)) ∙ mod-pow-add x 1 i

next_zero : (x i : ℕ) → x / 2 ^ i % 2 ≡ 0 → x % 2 ^ suc i ≡ x % 2 ^ i
next_zero x i none = next_digit x i ∙ rw none (omega arith)

next_one : (x i : ℕ) → x / 2 ^ i % 2 ≡ 1 → x % 2 ^ suc i ≡ 2 ^ i + x % 2 ^ i
next_one x i one = next_digit x i ∙ rw one (omega arith)

-- the party whose digit is the highest of these; where all are 0, another
unfoldable pub highest : ℕ → ℕ → ℕ
highest digits other = cond (eqb digits 0) other (count_leading_zeros 32 digits - 15)

pub highest_none : (digits other : ℕ) → digits ≡ 0 → highest digits other ≡ other
unfolding highest
highest_none digits other none = rw (eq-eqb digits 0 none)

pub highest_some : (digits other : ℕ) → (digits ≡ 0 → ⊥) → highest digits other ≡ count_leading_zeros 32 digits - 15
unfolding highest
highest_some digits other some = rw (ne_eqb digits 0 some)

-- the other counts only where all digits are 0
highest_other : (digits a b : ℕ) → (digits ≡ 0 → a ≡ b) → highest digits a ≡ highest digits b
unfolding highest
highest_other digits a b same = go (eqb digits 0) refl
  where
    go : (t : Bool) → eqb digits 0 ≡ t → cond t a (count_leading_zeros 32 digits - 15) ≡ cond t b (count_leading_zeros 32 digits - 15)
    go true e = same (eqb-true digits 0 e)
    go false e = refl

-- all 32 digits of 0 lead, and 15 less is nobody
nobody_leads : (digits : ℕ) → digits ≡ 0 → count_leading_zeros 32 digits - 15 ≡ nobody
nobody_leads digits none = rw (none, leading_of_zero 32)

highest_or_nobody : (digits : ℕ) → highest digits nobody ≡ count_leading_zeros 32 digits - 15
unfolding highest
highest_or_nobody digits =
    let leading = count_leading_zeros 32 digits - 15 in
    cond_holds (λ (party : ℕ). party ≡ leading) (eqb digits 0) nobody leading (λ e. sym (nobody_leads digits (eqb-true digits 0 e))) (λ e. refl)

-- a number of 17 digits has at least 15 zeros in front
pub leading_enough : (digits : ℕ) → digits < 2 ^ 17 → 15 ≤ count_leading_zeros 32 digits
leading_enough digits small =
    let long = leading_length 32 digits (lt_of_lt_of_le small (pow_mono {i = 17} {j = 32} (omega arith))) in
    let short : (18 ≤ long.0 → ⊥) = λ past. omega (arith, pow_mono past, long.3) in
    omega (arith, short, long.1)

-- a number whose highest digit is this one
leading_at : (digits i : ℕ) → i ≤ 31 → 2 ^ i ≤ digits → digits < 2 ^ suc i → 31 - i ≡ count_leading_zeros 32 digits
leading_at digits i low above below = leading_unique 32 digits (31 - i) (suc i) (omega arith) below (omega (arith, pow-suc 2 i))

highest_at : (x i other : ℕ) → i ≤ 16 → x / 2 ^ i % 2 ≡ 1 → highest (x % 2 ^ suc i) other ≡ 16 - i
highest_at x i other low one =
    let digits = next_one x i one in
    let some : (x % 2 ^ suc i ≡ 0 → ⊥) = λ none. omega (arith, pow_pos i) in
    highest_some (x % 2 ^ suc i) other some
    ∙ omega (arith, leading_at (x % 2 ^ suc i) i (omega arith) (omega arith) (mod-lt x (pow_pos (suc i))))

-- the party whose digit is the next lower one
after_party : (i : ℕ) → i < 16 → party_after (16 - suc i) ≡ 16 - i
unfolding party_after
after_party i low = rw (lt-ltb (16 - suc i) 16 (omega arith)) (omega arith)

-- the search for a party at work, where the digits of a number tell who is: the last party is told by the lowest
module _ (works : ℕ → Bool) (x : ℕ) (tells : (i : ℕ) → i ≤ 16 → works (16 - i) ≡ eqb (x / 2 ^ i % 2) 1) where
  -- one more party tried first
  tried : (i tries other : ℕ) → i ≤ 16 → first_at_work works tries (party_after (16 - i)) ≡ highest (x % 2 ^ i) other
      → first_at_work works (suc tries) (16 - i) ≡ highest (x % 2 ^ suc i) other
  unfolding first_at_work
  tried i tries other low rest = rw (tells i low) (go (eqb (x / 2 ^ i % 2) 1) refl)
    where
      go : (b : Bool) → eqb (x / 2 ^ i % 2) 1 ≡ b
          → cond b (16 - i) (first_at_work works tries (party_after (16 - i))) ≡ highest (x % 2 ^ suc i) other
      go true e = sym (highest_at x i other low (eqb-true (x / 2 ^ i % 2) 1 e))
      go false e =
          let none : x / 2 ^ i % 2 ≡ 0 = omega (arith, eqb-false (x / 2 ^ i % 2) 1 e) in
          rest ∙ ap (λ (digits : ℕ). highest digits other) (sym (next_zero x i none))

  -- the digits above some that are 0, tried from the highest on
  span : (zeros more tries : ℕ) → zeros + more ≤ 16 → x % 2 ^ zeros ≡ 0
      → first_at_work works (suc (more + tries)) (16 - (zeros + more))
      ≡ highest (x % 2 ^ suc (zeros + more)) (first_at_work works tries (party_after (16 - zeros)))
  span zeros zero tries low none =
      rw (zero-add tries, add-zero zeros)
      (tried zeros tries _ (omega arith) (sym (highest_none (x % 2 ^ zeros) _ none)))
  span zeros (suc more) tries low none =
      rw (suc-add more tries, add-suc zeros more)
      (tried (suc (zeros + more)) (suc (more + tries)) _ (omega arith)
      (rw (after_party (zeros + more) (omega arith)) (span zeros more tries (omega arith) none)))

  -- from the writer on, so many parties as leave those whose digits are 0
  around : (tries : ℕ) → tries ≤ 16 → x < 2 ^ 17 → x % 2 ^ (17 - tries) ≡ 0 → first_at_work works tries 0 ≡ count_leading_zeros 32 x - 15
  unfolding first_at_work
  around zero low small none = sym (nobody_leads x (omega arith))
  around (suc more) low small none =
      let zeros = 16 - more in
      let last : zeros + more ≡ 16 = omega arith in
      let lower : x % 2 ^ zeros ≡ 0 = ap (λ (n : ℕ). x % 2 ^ n) (omega arith) ∙ none in
      let found = span zeros more 0 (omega arith) lower in
      rw (last, add-zero more) at found ∙ ap (λ (digits : ℕ). highest digits nobody) (mod-eq_of_lt small) ∙ highest_or_nobody x

  -- the party due is that of the highest digit from the place on, or where these are 0, of the highest of all
  pub told_due : (place : ℕ) → place ≤ 16 → x < 2 ^ 17 → party_due works place ≡ highest (x % 2 ^ (17 - place)) (count_leading_zeros 32 x - 15)
  unfolding party_due party_after
  told_due place low small =
      let more = 16 - place in
      let count : more + place ≡ 16 = omega arith in
      let start : 16 - (0 + more) ≡ place = omega arith in
      let digits : suc (0 + more) ≡ 17 - place = omega arith in
      let found = span 0 more place (omega arith) (mod-one x) in
      rw (count, start, digits) at found
      ∙ highest_other (x % 2 ^ (17 - place)) _ _ (around place low small)

-- the number that the code cuts by
shifted : (place : ℕ) → place ≤ 17 → 131072 / 2 ^ place ≡ 2 ^ (17 - place)
shifted place low =
    let whole : 17 ≡ 17 - place + place = omega arith in
    ap (λ (n : ℕ). 2 ^ n / 2 ^ place) whole
    ∙ ap (λ (y : ℕ). y / 2 ^ place) (pow-add 2 (17 - place) place)
    ∙ shl-shr (2 ^ (17 - place)) place

pub shifted_some : (place : ℕ) → place ≤ 17 → 1 ≤ 131072 / 2 ^ place
shifted_some place low = rw (shifted place low) (pow_pos (17 - place))

-- so it leaves the digits of the parties from the place on
pub from_place : (x place : ℕ) → place ≤ 17 → bit_and x (131072 / 2 ^ place - 1) ≡ x % 2 ^ (17 - place)
from_place x place low = rw (shifted place low) (and_mask x (17 - place))
