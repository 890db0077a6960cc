-- What a command does to a point's value, for every value of 32 bits: bit 0 as its action says (`acted`), and every other bit stays.
use Prim.Native.Nat.{ℕ, zero, suc, ◌+◌, ◌*◌, ◌/◌, ◌%◌, ◌<◌}
use mathlib.Core.Path.{◌≡◌, refl, ap, ◌∙◌}
use mathlib.Core.Bool.{Bool, true, false}
use native.Mathlib.Nat.{mod-eq_of_lt}
use native.Mathlib.Omega.{arith}
use lib.Bits.{bit_and, bit_xor, and_shr, and_mod, and_mask, xor_shr, xor_mod, xor_zero_r}
use lib.Dec.{eqb}
use Rattle.record.specs.declared.Alteration.TheVariants.{Commanded}
use Rattle.record.specs.declared.Command.{Command}
use Rattle.change.specs.Actions.{enabled, disabled, toggled, acted}
use Rattle.change.specs.Change.{action_masks, masks_of, new_value}

-- the masks of an action on a value: "(value AND keep) XOR flip"
abbrev by_masks : ℕ → ℕ → ℕ
by_masks action value = bit_xor (bit_and value (action_masks action).keep) (action_masks action).flip

-- masks that keep all 31 bits above bit 0 and flip none of them leave these bits as they are; bit 0 follows from the masks' bits 0
module _ (value keep flip : ℕ) (fits : value < 4294967296) (kept : keep / 2 ≡ 2147483647) (flipped : flip / 2 ≡ 0) where
  upper_bits : bit_xor (bit_and value keep) flip / 2 ≡ value / 2
  upper_bits =
      xor_shr (bit_and value keep) flip 1 ∙ ap (bit_xor (bit_and value keep / 2)) flipped ∙ xor_zero_r (bit_and value keep / 2)
      ∙ and_shr value keep 1 ∙ ap (bit_and (value / 2)) kept ∙ and_mask (value / 2) 31 ∙ mod-eq_of_lt (omega arith)

  masked : (odd : ℕ) → value % 2 ≡ odd → bit_xor (bit_and value keep) flip ≡ value / 2 * 2 + bit_xor (bit_and odd (keep % 2)) (flip % 2)
  masked odd e =
      let bit : bit_xor (bit_and value keep) flip % 2 ≡ bit_xor (bit_and odd (keep % 2)) (flip % 2) =
      xor_mod (bit_and value keep) flip 1 ∙ ap (λ (n : ℕ). bit_xor n (flip % 2)) (and_mod value keep 1 ∙ ap (λ (n : ℕ). bit_and n (keep % 2)) e) in
      omega (arith, upper_bits)

module _ (action value : ℕ) (fits : value < 4294967296) where
  -- by the action: none alters a bit above bit 0
  others_stay : (enables disables : Bool) → eqb action 0 ≡ enables → eqb action 1 ≡ disables → by_masks action value / 2 ≡ value / 2
  unfolding action_masks
  others_stay true disables p q = rw p (upper_bits value _ _ fits refl refl)
  others_stay false true p q = rw (p, q) (upper_bits value _ _ fits refl refl)
  others_stay false false p q = rw (p, q) (upper_bits value _ _ fits refl refl)

  -- by the action, and by even and odd
  acts : (odd : ℕ) (enables disables : Bool) → value % 2 ≡ odd → eqb action 0 ≡ enables → eqb action 1 ≡ disables → by_masks action value ≡ acted action value
  unfolding action_masks acted enabled disabled toggled
  acts zero true disables e p q = rw p (masked value _ _ fits refl refl 0 e ∙ omega arith)
  acts zero false true e p q = rw (p, q) (masked value _ _ fits refl refl 0 e ∙ omega arith)
  acts zero false false e p q = rw (p, q, e) (masked value _ _ fits refl refl 0 e ∙ omega arith)
  acts (suc zero) true disables e p q = rw p (masked value _ _ fits refl refl 1 e ∙ omega arith)
  acts (suc zero) false true e p q = rw (p, q) (masked value _ _ fits refl refl 1 e ∙ omega arith)
  acts (suc zero) false false e p q = rw (p, q, e) (masked value _ _ fits refl refl 1 e ∙ omega arith)
  acts (suc (suc odd)) enables disables e p q = omega arith

-- "0 enable (clear bit 0), 1 disable (set it), 2 toggle"
pub command_acts : (command : Command) (value : ℕ) → value < 4294967296 → new_value (Commanded command) value ≡ acted command.action value
unfolding new_value masks_of
command_acts command value fits = acts command.action value fits (value % 2) (eqb command.action 0) (eqb command.action 1) refl refl refl

-- every bit above bit 0 stays as it is
pub command_leaves : (command : Command) (value : ℕ) → value < 4294967296 → new_value (Commanded command) value / 2 ≡ value / 2
unfolding new_value masks_of
command_leaves command value fits = others_stay command.action value fits (eqb command.action 0) (eqb command.action 1) refl refl
