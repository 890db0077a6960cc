-- `disabled_points::disabled_point` meets its contract: the lowest of the disabled points is one of them.
use mathlib.Core.Path.{◌∙◌, sym}
use Rattle.disabled_points.specs.Disabled.{misfit}
use Rattle.disabled_points.proofs.disabled_point.Goals as goal

pub returns-then-not-is_in_range : goal.returns-then-not-is_in_range
returns-then-not-is_in_range c = misfit (sym c.is_in_range.ensures ∙ c.if-not-is_in_range.true)
