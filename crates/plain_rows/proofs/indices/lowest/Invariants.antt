use Rattle.std.proofs.Common.{◌≡◌, ℕ, Bool, false, ◌+◌, ◌<◌, ◌≤◌, ◌^◌}
use Rattle.plain_rows.proofs.indices.lowest.Given as goal

abbrev pub invariant-loop-passed : goal.invariant-loop-passed
invariant-loop-passed g l =
    (passes : ℕ → Bool) → ((i : ℕ) (b : Bool) → i < 2 ^ 32 → goal.F-post g l.test i b → b ≡ passes i) → (i : ℕ) → i < l.passed + 1 → 1 ≤ i → passes i ≡ false
