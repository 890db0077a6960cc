-- `whole_operations::removing::steps` meets its contract: what is left to do from here comes to the same as the whole, and the record held is the first
-- one but for the reach and one count.
use Rattle.std.specs.Prelude.{Some}
use mathlib.Core.Path.{refl, ◌∙◌, ap}
use native.Mathlib.Omega.{arith}
use Rattle.record.specs.declared.WriterWork.TheVariants.{Idle}
use Rattle.record.specs.Parts.{count_of, with_writer}
use Rattle.answers.specs.Answers.{ended, completed, outcome, paper_ending, paper_progress}
use Rattle.effects.specs.Effects.{paper_effect}
use Rattle.writer.proofs.WriterLaws.{AtWork}
use Rattle.whole_operations.specs.Whole.{writer_step, leaves}
use Rattle.whole_operations.proofs.WholeLaws.{sets_out, some_left, steps_on, arrives}
use Rattle.whole_operations.proofs.WholeEnds.{stays_at_work}
use Rattle.whole_operations.proofs.Removals.{removes_only, counted_removes, step_goes, step_ends}
use Rattle.whole_operations.proofs.removing.steps.Goals as goal

pub loop-init : goal.loop-init
unfolding with_writer
loop-init c =
    let a = c.args in
    (sets_out writer_step AtWork _ a.budget (record { fits = c.requires.0; busy = refl }), (refl, refl))

pub unreachable-requires : goal.unreachable-requires
unreachable-requires c =
    let l = c.loop in
    removes_only c.args.panel c.args.place.index l.held _
    (counted_removes c.args.panel c.args.place.index l.held l.work _ l.invariant.1 c.writer_counted-counted.ensures) c.in_default.not-Removing

pub returns-in-Some : goal.returns-in-Some
unfolding count_of
returns-in-Some c =
    let a = c.args in
    let l = c.loop in
    let way = l.invariant.0 in
    let performed = c.perform-word.ensures in
    let effect = c.removal_advance-next in
    let held = c.applied_to-held in
    let answer = paper_ending c.in-Some.ending in
    let takes =
    step_ends a.panel a.place.index l.held l.slots _ l.work c.in-Removing.removal _ _ (paper_effect effect.result) held.result way.holds l.invariant.1 c.in-Removing.ensures c.removal_access.ensures
    performed.0 performed.1 effect.ensures held.ensures answer (ap paper_progress c.in-Some.is) in
    (λ j. outcome (with_writer (leaves a.panel (record { reach = held.result.reach; count = Some (record { index = a.place.index; count = c.count_in-count.ensures j }) })) Idle) c.perform-word.new.slots (ended (completed answer (c.steps_made.ensures j))))
    ∙ arrives writer_step AtWork stays_at_work _ a.budget l.counter _ way refl (omega (arith, c.loop-test.true)) _ takes refl

pub loop-preserved : goal.loop-preserved
loop-preserved c =
    let a = c.args in
    let l = c.loop in
    let way = l.invariant.0 in
    let performed = c.perform-word.ensures in
    let effect = c.removal_advance-next in
    let held = c.applied_to-held in
    let goes =
    step_goes a.panel a.place.index l.held l.slots _ l.work c.in-Removing.removal _ _ (paper_effect effect.result) held.result way.holds l.invariant.1 c.in-Removing.ensures c.removal_access.ensures
    performed.0 performed.1 effect.ensures held.ensures (ap paper_progress c.in_default-progress.is) in
    (steps_on writer_step AtWork stays_at_work _ a.budget l.counter _ way refl (omega (arith, c.loop-test.true)) _ goes.0, goes.1)

pub unreachable-requires-2 : goal.unreachable-requires-2
unreachable-requires-2 c =
    let l = c.loop in
    some_left writer_step AtWork stays_at_work _ c.args.budget l.counter _ l.invariant.0 refl c.requires.1 (omega (arith, c.loop-test.false))
