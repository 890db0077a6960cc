use Rattle.whole_operations.proofs.WholeSearch.{FromIndex}
use Rattle.whole_operations.proofs.searching.whole_search.Given as goal

abbrev pub invariant-loop-next : goal.invariant-loop-next
invariant-loop-next l = FromIndex l.slots l.m l.point l.reach l.next
