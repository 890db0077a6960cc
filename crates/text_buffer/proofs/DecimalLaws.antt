-- A number's decimal digits are the library's.
use Rattle.std.proofs.Common.{◌≡◌, ℕ, zero, suc, ◌+◌, ◌/◌, ◌%◌, ◌≤◌, ◌<◌, List, [], ◌∷◌, ◌++◌, ap, ◌∙◌, arith, true, false, Bool, ltb, ◌^◌, sym, refl}
use native.Mathlib.Omega.{pow_step}
use Rattle.std.proofs.lemmas.Bool.{lt-ltb, ltb-true, ltb-false}
use Rattle.std.specs.Fmt.{decimal}
use Rattle.std.proofs.lemmas.Fmt.{decimal_digit, decimal_step}
use Rattle.text_buffer.specs.Filling.{decimal_up_to, decimal_of}

-- a number below 10 has its own digit
low_text : (more n : ℕ) → n < 10 → decimal_up_to (suc more) n ≡ decimal n
unfolding decimal_up_to
low_text more n low =
    let same : n % 10 ≡ n = omega arith in
    rw (lt-ltb n 10 low, same) (sym (decimal_digit n low))

-- as many digits as hold the number are those of the library's decimal text
as_text : (more n : ℕ) → n < 10 ^ suc more → n < 2 ^ 64 → decimal_up_to (suc more) n ≡ decimal n
unfolding decimal_up_to
as_text zero n held small = low_text zero n (omega (arith, pow_step 10 0))
as_text (suc more) n held small = go (ltb n 10) refl (λ high. as_text more (n / 10) (omega (arith, pow_step 10 (suc more))) (omega arith))
  where
    go : (b : Bool) → ltb n 10 ≡ b → (10 ≤ n → decimal_up_to (suc more) (n / 10) ≡ decimal (n / 10)) → decimal_up_to (suc (suc more)) n ≡ decimal n
    go true e before = low_text (suc more) n (ltb-true n 10 e)
    go false e before =
        let high = ltb-false n 10 e in
        rw e (ap (λ (ds : List ℕ). ds ++ ((48 + n % 10) ∷ [])) (before high) ∙ sym (decimal_step n high small))

-- a number's digits are the text that the library prints of it
pub printed_digits : (n : ℕ) → n < 2 ^ 64 → decimal_of n ≡ decimal n
unfolding decimal_of
printed_digits n small = as_text 19 n (omega arith) small
