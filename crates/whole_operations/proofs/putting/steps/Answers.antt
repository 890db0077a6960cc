-- `whole_operations::putting::steps` meets its contract: what is left to do from here comes to the same as the whole, for the record with the reach that is
-- kept beside it.
use mathlib.Core.Path.{refl, ◌∙◌, sym, ap}
use mathlib.Core.Bool.{not}
use native.Mathlib.Omega.{arith}
use Rattle.record.specs.Parts.{with_reach, with_writer}
use Rattle.record.specs.declared.WriterWork.TheVariants.{Idle}
use Rattle.answers.specs.Answers.{ended, completed, underway, outcome, paper_ending, paper_progress}
use Rattle.effects.specs.Effects.{paper_effect}
use Rattle.writer.proofs.WriterLaws.{AtWork}
use Rattle.whole_operations.specs.Whole.{writer_step, leaves}
use Rattle.whole_operations.specs.WholeFacts.{is_putting}
use Rattle.whole_operations.proofs.WholeLaws.{sets_out, some_left, steps_on, arrives}
use Rattle.whole_operations.proofs.WholeEnds.{stays_at_work}
use Rattle.whole_operations.proofs.Puts.{putting_works, putting_only, counted_puts, step_goes, step_ends}
use Rattle.whole_operations.proofs.putting.steps.Goals as goal

pub loop-init : goal.loop-init
unfolding with_writer with_reach
loop-init c =
    let start = c.requires in
    (sets_out writer_step AtWork _ c.args.budget (record { fits = start.0; busy = ap not (sym (putting_works c.args.begun start.1)) }), start.1)

pub unreachable-requires : goal.unreachable-requires
unreachable-requires c =
    putting_only _ (ap is_putting c.writer_counted.ensures ∙ counted_puts c.args.panel.now.k c.loop.work c.loop.invariant.1) c.in_default.not-Putting

pub returns-in-Some : goal.returns-in-Some
returns-in-Some c =
    let a = c.args in
    let l = c.loop in
    let way = l.invariant.0 in
    let performed = c.perform-word.ensures in
    let effect = c.put_advance-next in
    let answer = paper_ending c.in-Some.ending in
    let takes =
    step_ends a.panel.now l.reach l.slots _ l.work c.in-Putting.put _ _ _ (paper_effect effect.result) way.holds c.in-Putting.ensures c.put_access-access.ensures c.slot_stored.ensures performed.0
    performed.1 effect.ensures answer (ap paper_progress c.in-Some.is) in
    (λ j. outcome (with_writer (leaves a.panel.now (record { reach = c.reach_after-reach.ensures j; count = c.count_added.ensures j })) Idle) c.perform-word.new.slots (ended (completed answer c.in-Putting.put.steps)))
    ∙ arrives writer_step AtWork stays_at_work _ a.budget l.counter _ way refl (omega (arith, c.loop-test.true)) _ takes refl

pub loop-preserved : goal.loop-preserved
loop-preserved c =
    let a = c.args in
    let l = c.loop in
    let way = l.invariant.0 in
    let performed = c.perform-word.ensures in
    let effect = c.put_advance-next in
    let goes =
    step_goes a.panel.now l.reach l.slots _ l.work c.in-Putting.put _ _ _ (paper_effect effect.result) way.holds c.in-Putting.ensures c.put_access-access.ensures c.slot_stored.ensures performed.0
    performed.1 effect.ensures (ap paper_progress c.in_default-progress.is) in
    let takes = goes.0 ∙ (λ j. outcome (with_writer (with_reach a.panel.now (sym c.reach_after-reach.ensures j)) effect.result.work) c.perform-word.new.slots underway) in
    (steps_on writer_step AtWork stays_at_work _ a.budget l.counter _ way refl (omega (arith, c.loop-test.true)) _ takes, goes.1)

pub unreachable-requires-2 : goal.unreachable-requires-2
unreachable-requires-2 c =
    let l = c.loop in
    some_left writer_step AtWork stays_at_work _ c.args.budget l.counter _ l.invariant.0 refl c.requires.2 (omega (arith, c.loop-test.false))
