-- `frame::frame_reader::read` meets its contract: an empty string, a map byte that is no kind's, another length, a field out of range, or a frame.
use mathlib.Core.Path.{◌≡◌, sym, ap, ◌∙◌}
use Rattle.std.specs.Prelude.{ℕ, List, Some, Ok, slice_get}
use Rattle.std.proofs.lemmas.Result.{err_from_is_err_and}
use Rattle.refusal.specs.Refusals.{number_of}
use Rattle.refusal.proofs.Laws.{number_positive}
use Rattle.frame.specs.declared.Kind.{Kind}
use Rattle.frame.specs.FieldMap.{map_of}
use Rattle.frame.proofs.LayoutLaws.{chosen, none_chosen}
use Rattle.frame.proofs.Outcomes.{read_empty, read_not_allowed, read_of_other_length, read_out_of_range, read_whole}
use Rattle.frame.proofs.frame_reader.read.Goals as goal

pub returns-in_default : goal.returns-in_default
returns-in_default c = sym (read_empty c.args.bytes.now c.in_default.ensures.value)

pub returns-in_err-kind : goal.returns-in_err-kind
returns-in_err-kind c =
    let p = err_from_is_err_and c.from_residual.result c.from_residual.ensures.1 in
    let n = none_chosen c.from.result c.in_err-kind.field-0.0 (sym c.in_err-kind.ensures) in
    let byte : Some c.from.result ≡ slice_get c.args.bytes.now 0 = cc (c.in-Some.ensures.value) in
    rw (p.1, p.2, n.0) (sym (read_not_allowed c.args.bytes.now c.from.result byte n.1))

-- the first byte is the map byte of the kind that was found
byte_of : (s : List ℕ) (byte map : ℕ) (k : Kind) → Some byte ≡ slice_get s 0 → map ≡ byte → map ≡ map_of k → Some (map_of k) ≡ slice_get s 0
byte_of s byte map k first same found = ap Some (sym found ∙ same) ∙ first

pub returns-then-bytes-layout : goal.returns-then-bytes-layout
returns-then-bytes-layout c =
    let k = c.in_ok-kind.kind in
    let is = chosen c.from.result k c.in_ok-kind.layout (sym c.in_ok-kind.ensures) in
    let s = c.args.bytes.now in
    let byte = byte_of s c.in-Some.field-0.now c.from.result k c.in-Some.ensures.value (cc) is.byte in
    sym (read_of_other_length k s byte (rw is.laid_out at c.if-bytes-layout.true))

pub returns-in_err-judge : goal.returns-in_err-judge
returns-in_err-judge c =
    let k = c.in_ok-kind.kind in
    let is = chosen c.from.result k c.in_ok-kind.layout (sym c.in_ok-kind.ensures) in
    let s = c.args.bytes.now in
    let byte = byte_of s c.in-Some.field-0.now c.from.result k c.in-Some.ensures.value (cc) is.byte in
    let r = c.from_residual-in_err-judge in
    let p = err_from_is_err_and r.result r.ensures.1 in
    let refused = c.in_err-judge.field-0.0 in
    rw (p.1, p.2)
    (sym
    (read_out_of_range k s byte (number_of refused) (number_positive refused)
    (rw is.laid_out at c.if-bytes-layout.false)
    (rw (c.fields_at-fields.ensures, is.laid_out) at c.in_err-judge.ensures)))

pub returns : goal.returns
returns c =
    let k = c.in_ok-kind.kind in
    let is = chosen c.from.result k c.in_ok-kind.layout (sym c.in_ok-kind.ensures) in
    let s = c.args.bytes.now in
    let byte = byte_of s c.in-Some.field-0.now c.from.result k c.in-Some.ensures.value (cc) is.byte in
    rw (c.fields_at-fields.ensures, is.laid_out)
    (sym
    (read_whole k s byte
    (rw is.laid_out at c.if-bytes-layout.false)
    (rw (c.fields_at-fields.ensures, is.laid_out) at c.in_ok-judge.ensures)))
