use Rattle.std.proofs.Common.{◌≡◌, ℕ, ◌+◌, length, drop, arith, rules, refl, sym, ap, ◌∙◌}
use Rattle.record_ranges.specs.Ranges.{reader_in_range, readers_in_range}
use Rattle.circle.specs.Marks.{marked_behind}
use Rattle.circle.proofs.MarksLaws.{marked_next, marked_done}
use Rattle.in_place.proofs.JoinedTests.{true_both, joined_twice, joined_done}
use Rattle.in_place.proofs.due.readers_seen.Goals as goal

pub loop-i-init : goal.loop-i-init
loop-i-init c = record { upto = omega arith; even = omega arith; whole = λ h. absurd (omega arith); tested = true_both _; marked = refl }

pub loop-i-preserved : goal.loop-i-preserved
unfolding readers_in_range
loop-i-preserved c =
    let a = c.args in
    let l = c.loop-i in
    let rs = a.panel.now.readers in
    let one = c.reader_seen-seen in
    let two = c.reader_seen-seen-in-loop-i in
    let all : length rs ≡ 16 = search rules in
    record {
      upto = omega arith;
      even = omega arith;
      whole = λ h. all;
      tested =
          joined_twice (reader_in_range a.panel.now.m a.panel.now.k) rs l.seen.fit one.result.fit two.result.fit l.i _ (omega arith) one.ensures.0 two.ensures.0
          ∙ l.invariant.tested;
      marked =
          ap (λ (marks : ℕ). marked_behind marks (drop (l.i + 1 + 1) rs)) two.ensures.1
          ∙ marked_next rs one.result.marks (l.i + 1) (omega arith)
          ∙ ap (λ (marks : ℕ). marked_behind marks (drop (l.i + 1) rs)) one.ensures.1
          ∙ marked_next rs l.seen.marks l.i (omega arith)
          ∙ l.invariant.marked;
    }

pub returns : goal.returns
unfolding readers_in_range
returns c =
    let a = c.args in
    let l = c.loop-i in
    let rs = a.panel.now.readers in
    let all : length rs ≡ 16 = l.invariant.whole (omega arith) in (
      sym (joined_done (reader_in_range a.panel.now.m a.panel.now.k) rs l.seen.fit l.i (omega arith)) ∙ l.invariant.tested,
      sym (marked_done rs l.seen.marks l.i (omega arith)) ∙ l.invariant.marked,
    )
