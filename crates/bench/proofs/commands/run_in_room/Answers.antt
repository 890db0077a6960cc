-- By what the line was read as.
use Rattle.std.proofs.Common.{Some, [], ap, sym, refl, ◌∙◌}
use Rattle.answers.specs.Answers.{gives}
use Rattle.bench.specs.Lines.{runs_to, printed_line}
use Rattle.bench.proofs.LineLaws.{runs}
use Rattle.bench.proofs.commands.run_in_room.Goals as goal

pub returns-in-Some-Put : goal.returns-in-Some-Put
unfolding runs_to printed_line
returns-in-Some-Put g c =
    let a = c.args in
    let written = c.wrote in
    runs a.panel.now a.slots.now a.number _ written.result _ _ _ _ _ _ (sym (c.in-Some-Put.is ∙ ap Some c.in-Some-Put.field-0-is) ∙ c.command.ensures) (written.ensures.0 a.panel.now refl) c.whole_put-written.ensures.0 written.ensures.1

pub returns-in-Some-Lookup : goal.returns-in-Some-Lookup
unfolding runs_to printed_line
returns-in-Some-Lookup g c =
    let a = c.args in
    runs a.panel.now a.slots.now a.number _ c.unchanged.result _ _ _ _ _ _ (sym (c.in-Some-Lookup.is ∙ ap Some c.in-Some-Lookup.field-0-is) ∙ c.command.ensures) (c.unchanged.ensures a.panel.now refl) c.whole_lookup.ensures c.operation.ensures

pub returns-in-Some-Removal : goal.returns-in-Some-Removal
unfolding runs_to printed_line
returns-in-Some-Removal g c =
    let a = c.args in
    let written = c.wrote-in-Some-Removal in
    runs a.panel.now a.slots.now a.number _ written.result _ _ _ _ _ _ (sym (c.in-Some-Removal.is ∙ ap Some c.in-Some-Removal.field-0-is) ∙ c.command.ensures) (written.ensures.0 a.panel.now refl) c.whole_removal-written.ensures.0 written.ensures.1

pub returns-in-None : goal.returns-in-None
unfolding runs_to printed_line
returns-in-None g c =
    let a = c.args in
    let told = c.unchanged-in-None in
    runs a.panel.now a.slots.now a.number _ told.result _ _ _ _ a.panel.now (gives []) (sym c.in-None.is ∙ c.command.ensures) (told.ensures a.panel.now refl) refl c.unreadable.ensures
