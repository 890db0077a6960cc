-- The digits are the library's.
use Rattle.std.proofs.Common.{◌∙◌, ap, sym, arith}
use Rattle.text_buffer.specs.Filling.{filled_by, with_bytes}
use Rattle.text_buffer.proofs.DecimalLaws.{printed_digits}
use Rattle.text_buffer.proofs.decimal.Goals as goal

pub returns : goal.returns
returns c =
    c.text.ensures
    ∙ ap (with_bytes (filled_by c.args.filled c.args.buffer.now)) (c.as_bytes.ensures.value ∙ c.format.ensures.text ∙ sym (printed_digits c.args.n (omega arith)))
