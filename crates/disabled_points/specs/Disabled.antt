-- Document 01, "Steps": the two answers that "are taken from the slots as they are at any moment".
use Rattle.std.specs.Prelude.{ℕ, ◌≤◌, ◌≡◌, Bool, true, false, cond, List, [], ◌∷◌, length, map, filter, All, Contains, Option, None, Some}
use Rattle.conditions.specs.Conditions.{both}
use Rattle.record.specs.declared.Record.{Record}
use Rattle.slot_words.specs.Points.{valid_point, disabled}
use Rattle.record_ranges.specs.Ranges.{in_range}
use Rattle.answers.specs.Answers.{Answer, gives, refused}
use Rattle.slot_words.specs.Word.{point_of, value_of}

-- a slot holds "a valid point that is disabled"
unfoldable pub holds_disabled : ℕ → Bool
holds_disabled word = both (valid_point (point_of word)) (disabled (value_of word))

-- the points of the slots that hold one
abbrev pub disabled_points : List ℕ → List ℕ
disabled_points slots = map point_of (filter holds_disabled slots)

-- "how many slots hold a valid point that is disabled"; refused "only with 1"
unfoldable pub disabled_total : Record → List ℕ → Answer
disabled_total panel slots = cond (in_range (length slots) panel) (gives (length (disabled_points slots) ∷ [])) (refused 1)

-- "for the one-line display some such point, or 7 if none", refused with 1 first: the answers allowed. Which point is left free.
pub data MayDisplay (panel : Record) (slots : List ℕ) : Answer → Type 0 where
  misfit : in_range (length slots) panel ≡ false → MayDisplay panel slots (refused 1)
  shown : (point : ℕ) → in_range (length slots) panel ≡ true → Contains (disabled_points slots) point → MayDisplay panel slots (gives (point ∷ []))
  none : in_range (length slots) panel ≡ true → disabled_points slots ≡ [] → MayDisplay panel slots (refused 7)

-- the lowest of the points, or none if there are none (cited by a private function only)
abbrev pub Lowest : List ℕ → Option ℕ → Type 0
Lowest points None = points ≡ []
Lowest points (Some point) = Contains points point × All (λ (other : ℕ). point ≤ other) points
