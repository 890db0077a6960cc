-- Laws of a slot's word: point and value come back; the word of a point is not 0; a word tells its point.
use Prim.Native.Nat.{ℕ, ◌≤◌, ◌<◌}
use mathlib.Core.Path.{◌≡◌}
use mathlib.Core.Logic.{◌≢◌}
use native.Mathlib.Omega.{arith}
use Rattle.slot_words.specs.Word.{point_of, value_of, word_of}

module _ (point value : ℕ) where
  pub word_point : value < 4294967296 → point_of (word_of point value) ≡ point
  word_point h = omega arith

  pub word_value : value < 4294967296 → value_of (word_of point value) ≡ value
  word_value h = omega arith

  pub word_some : 1 ≤ point → word_of point value ≢ 0
  word_some h = omega arith

  pub word_tells : (point' value' : ℕ) → value < 4294967296 → value' < 4294967296 → word_of point value ≡ word_of point' value' → point ≡ point'
  word_tells point' value' h h' e = omega arith
