-- Document 01, "Commands": what an action makes of a value, by even and odd.
use Rattle.std.specs.Prelude.{ℕ, ◌+◌, ◌-◌, ◌%◌, cond, eqb}

-- "0 enable (clear bit 0)": an odd value loses 1
unfoldable pub enabled : ℕ → ℕ
enabled value = value - value % 2

-- "1 disable (set it)": one more than the value with bit 0 clear
unfoldable pub disabled : ℕ → ℕ
disabled value = value - value % 2 + 1

-- "2 toggle": an even value gains 1, an odd one loses 1
unfoldable pub toggled : ℕ → ℕ
toggled value = cond (eqb (value % 2) 0) (value + 1) (value - 1)

-- "0 enable, 1 disable, 2 toggle"; an action above 2, which no frame has, is taken for a toggle
unfoldable pub acted : ℕ → ℕ → ℕ
acted action value = cond (eqb action 0) (enabled value) (cond (eqb action 1) (disabled value) (toggled value))
