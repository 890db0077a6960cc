-- `line::run::digits_run` meets its contract: at each place the digits read so far and those left make up the run.
use Rattle.std.proofs.Common.{◌≡◌, ◌∙◌, sym, ap, ℕ, ◌<◌, ◌≤◌, ◌+◌, [], arith}
use Rattle.std.specs.Char.{is_ascii_digit}
use lib.ListN.{length, get_or}
use Rattle.conditions.specs.Conditions.{both, within}
use Rattle.line.specs.Grammar.{digit}
use Rattle.line.proofs.RunLaws.{left_at, run_length, run_byte, run_begun, run_small, run_more, left_other, left_stopped, run_ended}
use Rattle.line.proofs.run.digits_run.Goals as goal
use Rattle.line.proofs.run.digits_run.Goals.{else-loop-byte-test, then-loop-byte-test+then-not-is_ascii_digit}

pub loop-byte-init : goal.loop-byte-init
loop-byte-init c = (omega arith, run_begun _ _ _)

pub overflow_mul-value : goal.overflow_mul-value
overflow_mul-value c = omega (arith, run_small _ _ _ c.loop-byte.invariant.1)

pub overflow_add-value : goal.overflow_add-value
overflow_add-value c =
    omega (arith, run_small _ _ _ c.loop-byte.invariant.1, c.from.ensures, c.if-not-is_ascii_digit.ensures.cases)

pub loop-byte-preserved : goal.loop-byte-preserved
unfolding digit within both
loop-byte-preserved c =
    let a = c.args in
    let l = c.loop-byte in
    let more : l.byte-index < c.min.result = omega (arith, run_length a.bytes.now a.from c.min.result l.byte-index (omega (arith, c.min.ensures))) in
    let at = run_byte a.bytes.now a.from c.min.result l.byte-index (omega (arith, c.min.ensures)) more ∙ ap (λ (n : ℕ). get_or a.bytes.now n 0) (sym l.invariant.0) in
    let is_digit = ap is_ascii_digit (sym at) ∙ sym c.is_ascii_digit.ensures.value ∙ c.if-not-is_ascii_digit.false in
    (omega (arith, l.invariant.0), rw (c.from.ensures, at) (run_more _ _ _ l.next (omega (arith, c.min.ensures, l.invariant.0)) (omega (arith, c.min.ensures, l.invariant.0)) (omega arith) is_digit l.invariant.1))

pub returns : goal.returns
unfolding digit within both
returns c =
    let a = c.args in
    let l = c.loop-byte in
    let inside : a.from + c.min.result ≤ length a.bytes.now = omega (arith, c.min.ensures) in
    let many = run_length a.bytes.now a.from c.min.result l.byte-index inside in
    let none : left_at a.bytes.now a.from a.to l.next ≡ [] =
    elim c.loop-byte-test.branch [
      | else-loop-byte-test w ↦ left_stopped _ _ _ l.next (omega arith) (omega (arith, c.min.ensures, l.invariant.0, many))
      | then-loop-byte-test+then-not-is_ascii_digit w ↦
          let more : l.byte-index < c.min.result = omega (arith, many) in
          let at = run_byte a.bytes.now a.from c.min.result l.byte-index inside more ∙ ap (λ (n : ℕ). get_or a.bytes.now n 0) (sym l.invariant.0) in
          left_other _ _ _ l.next (omega (arith, c.min.ensures, l.invariant.0)) (omega (arith, c.min.ensures, l.invariant.0)) (omega arith) (ap is_ascii_digit (sym at) ∙ sym w.is_ascii_digit.ensures.value ∙ w.if-not-is_ascii_digit.true)
    ] in
    run_ended _ _ _ _ (omega (arith, l.invariant.0)) none l.invariant.1 c.of_digits.ensures
