-- The lowest of the points, as a search for it gives it, and that it may be displayed.
use Prim.Native.Nat.{ℕ, ◌≤◌}
use mathlib.Core.Path.{◌≡◌, refl}
use mathlib.Core.Bool.{true}
use mathlib.Core.List.{List}
use lib.ListN.{length}
use Rattle.std.specs.Prelude.{Option, Some, None, IsNone, IfSome, All, Contains}
use Rattle.std.specs.Option.{ok_or}
use Rattle.std.proofs.lemmas.List.{nil_from_length}
use Rattle.refusal.specs.declared.Refusal.TheVariants.{Unknown}
use Rattle.record.specs.declared.Record.{Record}
use Rattle.record_ranges.specs.Ranges.{in_range}
use Rattle.answers.specs.Answers.{paper_display}
use Rattle.disabled_points.specs.Disabled.{Lowest, MayDisplay, shown, none, disabled_points}

-- one of the points that none is below; none where there are none
pub lowest_found : (points : List ℕ) (found : Option ℕ) → (IsNone found → length points ≡ 0) → IfSome found (Contains points) → IfSome found (λ (point : ℕ). All (λ (other : ℕ). point ≤ other) points) → Lowest points found
lowest_found points None nobody some least = nil_from_length points (nobody refl)
lowest_found points (Some point) nobody some least = (some, least)

-- the lowest is a point that may be shown
pub lowest_shown : (panel : Record) (slots : List ℕ) (found : Option ℕ) → in_range (length slots) panel ≡ true → Lowest (disabled_points slots) found → MayDisplay panel slots (paper_display (ok_or found Unknown))
lowest_shown panel slots None fits nobody = none fits nobody
lowest_shown panel slots (Some point) fits lowest = shown point fits lowest.0
