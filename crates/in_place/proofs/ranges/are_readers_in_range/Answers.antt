use Rattle.std.proofs.Common.{◌≡◌, length, arith, rules, sym, ◌∙◌}
use Rattle.record_ranges.specs.Ranges.{reader_in_range, readers_in_range}
use Rattle.in_place.proofs.JoinedTests.{true_both, joined_twice, joined_done}
use Rattle.in_place.proofs.ranges.are_readers_in_range.Goals as goal

pub loop-i-init : goal.loop-i-init
loop-i-init c = record { upto = omega arith; even = omega arith; whole = λ h. absurd (omega arith); tested = true_both _ }

pub loop-i-preserved : goal.loop-i-preserved
unfolding readers_in_range
loop-i-preserved c =
    let a = c.args in
    let l = c.loop-i in
    let all : length a.panel.now.readers ≡ 16 = search rules in
    record {
      upto = omega arith;
      even = omega arith;
      whole = λ h. all;
      tested =
          joined_twice (reader_in_range a.panel.now.m a.panel.now.k) a.panel.now.readers l.fit c.reader_joined-fit.result c.reader_joined-fit-in-loop-i.result l.i _ (omega arith)
          c.reader_joined-fit.ensures c.reader_joined-fit-in-loop-i.ensures
          ∙ l.invariant.tested;
    }

pub returns : goal.returns
unfolding readers_in_range
returns c =
    let a = c.args in
    let l = c.loop-i in
    let all : length a.panel.now.readers ≡ 16 = l.invariant.whole (omega arith) in
    sym (joined_done (reader_in_range a.panel.now.m a.panel.now.k) a.panel.now.readers l.fit l.i (omega arith)) ∙ l.invariant.tested
