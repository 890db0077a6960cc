-- `frame::big_endian::put_number` meets its contract: the bytes still to store, stored, would make what the whole run makes.
use Prim.Native.Nat.{suc, ◌-◌}
use mathlib.Core.Path.{◌≡◌}
use native.Mathlib.Omega.{arith}
use borrow.Author.Tests.{ne_eqb}
use Rattle.frame.specs.FieldMap.{bytes_of}
use Rattle.frame.specs.Layouts.{put}
use Rattle.frame.proofs.BigEndian.{put_last}
use Rattle.frame.proofs.big_endian.put_number.Goals as goal

pub loop-i-preserved : goal.loop-i-preserved
loop-i-preserved c =
    let o = c.loop-i in
    let e : suc (o.i - 1) ≡ o.i = omega arith in
    rw (c.put_byte.ensures, put_last (o.i - 1) o.rest o.out c.args.at, e) o.invariant

pub returns : goal.returns
unfolding put bytes_of
returns c =
    let e : c.loop-i.i ≡ 0 = omega arith in
    rw (ne_eqb _ _ c.if-at-eq0.false) (rw e at c.loop-i.invariant)
