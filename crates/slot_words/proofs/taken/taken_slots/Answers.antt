-- The count so far is that of the slots before the next one.
use Rattle.std.proofs.Common.{◌∙◌, refl, ap, take_all, arith}
use Rattle.slot_words.specs.Taken.{taken_slots}
use Rattle.slot_words.proofs.TakenLaws.{taken_more, taken_same}
use Rattle.slot_words.proofs.taken.taken_slots.Goals as goal
use Rattle.slot_words.proofs.taken.taken_slots.Goals.{then-word-ne0, else-word-ne0}

pub loop-word-init : goal.loop-word-init
unfolding taken_slots
loop-word-init c = (omega arith, refl)

pub loop-word-preserved : goal.loop-word-preserved
loop-word-preserved c =
    let s = c.args.slots.now in
    let i = c.loop-word.word-index in
    elim c.if-word-ne0.branch [ then-word-ne0 w ↦ (omega arith, omega (arith, taken_more s i (omega arith) w.if-word-ne0.true)) | else-word-ne0 w ↦ (omega arith, omega (arith, taken_same s i (omega arith) w.if-word-ne0.false)) ]

pub returns : goal.returns
returns c = c.loop-word.invariant.1 ∙ ap taken_slots (take_all c.loop-word.word-index c.args.slots.now c.loop-word-test.false)
