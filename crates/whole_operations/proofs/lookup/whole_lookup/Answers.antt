-- `whole_operations::lookup::whole_lookup` meets its contract: refused, or what its search comes to.
use lib.ListN.{length}
use Prim.Native.Nat.{ℕ}
use mathlib.Core.Path.{◌≡◌, refl, ◌∙◌, sym, ap}
use borrow.Author.Rules.{rules}
use Rattle.std.proofs.lemmas.Result.{err_from_is_err_and}
use Rattle.refusal.specs.Refusals.{number_of, paper_judged}
use Rattle.record.specs.Parts.{with_work}
use Rattle.counting.specs.declared.steps.OperationKind.TheVariants.{Lookup}
use Rattle.counting.specs.Steps.{step_bound}
use Rattle.answers.specs.Answers.{Ending, completed, ended, outcome, unless_refused, refused, started}
use Rattle.answers.proofs.AnswerLaws.{refused_call}
use Rattle.reader_step.specs.Reader.{lookup_ending}
use Rattle.reader_starts.specs.Starts.{new_lookup, start_reader, start_lookup}
use Rattle.whole_operations.specs.declared.searching.SearchEnd.{SearchEnd}
use Rattle.whole_operations.specs.Whole.{until_ended, reader_step, whole_lookup}
use Rattle.whole_operations.proofs.WholeLaws.{has_ended}
use Rattle.whole_operations.proofs.WholeLookup.{looks_up, reach_fits}
use Rattle.whole_operations.proofs.lookup.whole_lookup.Goals as goal

pub returns-in_err-judge_lookup : goal.returns-in_err-judge_lookup
unfolding whole_lookup start_lookup start_reader
returns-in_err-judge_lookup c =
    let a = c.args in
    let s = a.slots.now in
    let step = reader_step a.reader in
    let bound = step_bound Lookup a.panel.k in
    let begun = outcome (with_work a.panel a.reader (new_lookup a.point)) s started in
    let refusal = c.in_err-judge_lookup.field-0.0 in
    let e = sym c.judge_lookup.ensures ∙ ap paper_judged c.in_err-judge_lookup.was in
    let p = err_from_is_err_and c.from_residual.result c.from_residual.ensures.1 in
    rw (p.1, p.2)
    (sym (has_ended step bound (outcome a.panel s (refused (number_of refusal))) refl)
    ∙ ap (until_ended step bound)
    (sym (ap (λ (n : ℕ). unless_refused n (outcome a.panel s) begun) e ∙ refused_call (outcome a.panel s) begun refusal)))

pub whole_search-found-requires : goal.whole_search-found-requires
whole_search-found-requires c =
    let a = c.args in
    let e = sym c.judge_lookup.ensures ∙ ap paper_judged c.in_ok-judge_lookup.was in
    let sixteen : length a.panel.readers ≡ 16 = search rules in
    reach_fits a.panel a.slots.now a.reader a.point sixteen e

pub returns : goal.returns
returns c =
    let a = c.args in
    let s = a.slots.now in
    let e = sym c.judge_lookup.ensures ∙ ap paper_judged c.in_ok-judge_lookup.was in
    let sixteen : length a.panel.readers ≡ 16 = search rules in
    let found = c.whole_search-found in
    ap (λ (ending : Ending). outcome a.panel s (ended (completed ending found.result.steps))) c.lookup_ending.ensures
    ∙ ap (λ (end : SearchEnd). outcome a.panel s (ended (completed (lookup_ending end.answer) end.steps))) found.ensures
    ∙ looks_up a.panel s a.reader a.point sixteen e
