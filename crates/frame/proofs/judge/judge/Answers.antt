-- `frame::judge::judge` meets its contract: the tests in front of the one that refuses let the fields pass.
use mathlib.Core.Path.{sym, ◌∙◌}
use native.Mathlib.Omega.{arith}
use Rattle.std.proofs.lemmas.Result.{err_from_is_err_and}
use Rattle.frame.specs.Frames.{judged}
use Rattle.frame.proofs.Judged.{first_refuses, first_passes}
use Rattle.frame.proofs.judge.judge.Goals as goal

pub returns-in_err-judge_field : goal.returns-in_err-judge_field
unfolding judged
returns-in_err-judge_field c =
    let p = err_from_is_err_and c.from_residual.result c.from_residual.ensures.1 in
    rw (p.1, p.2) (first_refuses _ _ _ _ c.in_err-judge_field.ensures)

pub returns-in_err-judge_field-2 : goal.returns-in_err-judge_field-2
unfolding judged
returns-in_err-judge_field-2 c =
    let r = c.from_residual-in_err-judge_field-2 in
    let p = err_from_is_err_and r.result r.ensures.1 in
    rw (p.1, p.2)
    (first_refuses _ _ _ _ c.in_err-judge_field-2.ensures
    ∙ sym (first_passes _ _ _ (omega arith) c.in_ok-judge_field.ensures))

pub returns-in_err-judge_field-3 : goal.returns-in_err-judge_field-3
unfolding judged
returns-in_err-judge_field-3 c =
    let r = c.from_residual-in_err-judge_field-3 in
    let p = err_from_is_err_and r.result r.ensures.1 in
    rw (p.1, p.2)
    (first_refuses _ _ _ _ c.in_err-judge_field-3.ensures
    ∙ sym (first_passes _ _ _ (omega arith) c.in_ok-judge_field.ensures ∙ first_passes _ _ _ (omega arith) c.in_ok-judge_field-2.ensures))

pub returns-in_err-judge_field-4 : goal.returns-in_err-judge_field-4
unfolding judged
returns-in_err-judge_field-4 c =
    let r = c.from_residual-in_err-judge_field-4 in
    let p = err_from_is_err_and r.result r.ensures.1 in
    rw (p.1, p.2)
    (first_refuses _ _ _ _ c.in_err-judge_field-4.ensures
    ∙ sym (first_passes _ _ _ (omega arith) c.in_ok-judge_field.ensures
    ∙ first_passes _ _ _ (omega arith) c.in_ok-judge_field-2.ensures
    ∙ first_passes _ _ _ (omega arith) c.in_ok-judge_field-3.ensures))

pub returns : goal.returns
unfolding judged
returns c =
    c.judge_field-5.ensures
    ∙ sym (first_passes _ _ _ (omega arith) c.in_ok-judge_field.ensures
    ∙ first_passes _ _ _ (omega arith) c.in_ok-judge_field-2.ensures
    ∙ first_passes _ _ _ (omega arith) c.in_ok-judge_field-3.ensures
    ∙ first_passes _ _ _ (omega arith) c.in_ok-judge_field-4.ensures)
