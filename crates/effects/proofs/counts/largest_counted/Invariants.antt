use mathlib.Core.Path.{◌≡◌}
use Rattle.effects.specs.Counts.{largest_up_to, largest_counted}
use Rattle.effects.proofs.counts.largest_counted.Given as goal

abbrev pub invariant-loop-index : goal.invariant-loop-index
invariant-loop-index l = largest_up_to l.counts l.index ≡ largest_counted l.k l.counts
