-- `plain_rows::indices::lowest` meets its contract: no index passed passes the test.
use Rattle.std.proofs.Common.{◌∙◌, ◌+◌, sym, arith, below_more}
use Rattle.plain_list.proofs.IndexLaws.{lowest_is, lowest_none}
use Rattle.plain_rows.proofs.indices.lowest.Goals as goal

pub loop-passed-init : goal.loop-passed-init
loop-passed-init g c passes h i below low = absurd (omega arith)

pub returns-then-test : goal.returns-then-test
returns-then-test g c passes h =
    let l = c.loop-passed in
    sym
    (lowest_is passes c.args.k (l.passed + 1) (omega arith) (omega arith) (sym (h _ c.test.result (omega arith) c.test.ensures) ∙ c.if-test.true)
    (λ i low below. l.invariant passes h i below low))

pub loop-passed-preserved : goal.loop-passed-preserved
loop-passed-preserved g c passes h =
    below_more _ _ (c.loop-passed.invariant passes h) (λ low. sym (h _ c.test.result (omega arith) c.test.ensures) ∙ c.if-test.false)

pub returns : goal.returns
returns g c passes h =
    sym (lowest_none passes c.args.k (λ i low high. c.loop-passed.invariant passes h i (omega arith) low))
