use Rattle.plain_rows.proofs.StoreLaws.{Compacts}
use Rattle.plain_rows.proofs.search.without.Given as goal

abbrev pub invariant-loop-i : goal.invariant-loop-i
invariant-loop-i l = Compacts l.initial.rows l.point l.rows l.i l.left
