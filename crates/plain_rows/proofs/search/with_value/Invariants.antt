use Rattle.plain_rows.proofs.StoreLaws.{Revalues}
use Rattle.plain_rows.proofs.search.with_value.Given as goal

abbrev pub invariant-loop-row : goal.invariant-loop-row
invariant-loop-row l = Revalues l.initial.rows l.point l.value l.rows l.row-index
