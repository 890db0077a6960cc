-- `hash::position` meets its contract: the two entries of the table are those of the function.
use mathlib.Core.Path.{◌∙◌}
use native.Mathlib.Omega.{arith}
use Rattle.hash.proofs.Table.{position_mixed}
use Rattle.hash.proofs.position.Goals as goal

pub returns : goal.returns
returns c =
    let a = c.args in
    let t = c.coefficients-table in
    c.mixed.ensures
    ∙ position_mixed t.result.now t.ensures a.slots a.point a.index (omega arith) (omega arith) (omega arith)
