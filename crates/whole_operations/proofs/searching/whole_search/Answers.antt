-- `whole_operations::searching::whole_search` meets its contract: from each index on, with as many steps made, the search comes to the same.
use Prim.Native.Nat.{◌+◌}
use native.Mathlib.Omega.{arith}
use Rattle.whole_operations.proofs.WholeSearch.{first_index, probed, past_last}
use Rattle.whole_operations.proofs.searching.whole_search.Goals as goal
use Rattle.whole_operations.proofs.searching.whole_search.Goals.{else-loop-next-test, then-loop-next-test+in_default+else-next-reach}

pub loop-next-init : goal.loop-next-init
loop-next-init c = let a = c.args in first_index a.slots.now a.m a.point a.reach

pub returns-in-Answered : goal.returns-in-Answered
returns-in-Answered c =
    let a = c.args in
    let l = c.loop-next in
    probed a.slots.now a.m a.point a.reach l.next _ _ _ l.invariant (omega (arith, c.loop-next-test.true)) c.search_access.ensures c.word_read-word.ensures c.in-Answered.ensures

pub loop-next-preserved : goal.loop-next-preserved
loop-next-preserved c =
    let a = c.args in
    let l = c.loop-next in
    probed a.slots.now a.m a.point a.reach l.next _ _ _ l.invariant (omega (arith, c.loop-next-test.true)) c.search_access.ensures c.word_read-word.ensures c.in_default.ensures

pub returns : goal.returns
returns c =
    let a = c.args in
    let l = c.loop-next in
    elim c.loop-next-test.branch [
      | else-loop-next-test w ↦ past_last a.slots.now a.m a.point a.reach l.next l.invariant (omega (arith, w.loop-next-test.false))
      | then-loop-next-test+in_default+else-next-reach w ↦
          past_last a.slots.now a.m a.point a.reach (l.next + 1)
          (probed a.slots.now a.m a.point a.reach l.next _ _ _ l.invariant (omega (arith, w.loop-next-test.true)) w.search_access.ensures w.word_read-word.ensures w.in_default.ensures)
          (omega arith)
    ]
