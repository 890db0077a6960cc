-- `frame::big_endian::number_at` meets its contract: after i iterations the number is that of the first i bytes, below 256 ^ i.
use mathlib.Core.Path.{◌≡◌}
use native.Mathlib.Numerals.{add-one}
use native.Mathlib.Omega.{arith}
use borrow.Author.Tests.{ne_eqb}
use Rattle.frame.specs.FieldMap.{big_endian}
use Rattle.frame.proofs.BigEndian.{below_three}
use Rattle.frame.specs.Layouts.{number_at}
use Rattle.frame.proofs.big_endian.number_at.Goals as goal

pub overflow_mul-number : goal.overflow_mul-number
overflow_mul-number c =
    let small = below_three c.args.bytes.now c.args.at c.loop-i.i (λ k. omega (arith, c.type_inv.bytes k)) (omega arith) in
    omega arith

pub overflow_add-number : goal.overflow_add-number
overflow_add-number c =
    let small = below_three c.args.bytes.now c.args.at c.loop-i.i (λ k. omega (arith, c.type_inv.bytes k)) (omega arith) in
    omega arith

pub loop-i-preserved : goal.loop-i-preserved
unfolding big_endian
loop-i-preserved c = rw (add-one, c.loop-i.invariant, c.from.ensures, c.byte_at.ensures)

pub returns : goal.returns
unfolding number_at
returns c =
    let e : c.loop-i.i ≡ c.args.width = omega arith in
    rw (ne_eqb _ _ c.if-at-eq0.false, ← e) c.loop-i.invariant
