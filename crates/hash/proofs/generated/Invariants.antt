use Prim.Native.Nat.{◌≤◌, ◌-◌}
use mathlib.Core.Path.{◌≡◌}
use Rattle.hash.specs.Position.{z}
use Rattle.hash.proofs.generated.Given as goal

abbrev pub invariant-loop : goal.invariant-loop
invariant-loop l = (l.counter ≤ l.n) × (l.value ≡ z l.counter)

abbrev pub decreases-loop : goal.decreases-loop
decreases-loop l = l.n - l.counter
