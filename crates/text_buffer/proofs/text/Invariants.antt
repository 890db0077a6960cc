-- What is in the buffer and the bytes that are left come to the whole.
use Rattle.std.proofs.Common.{◌≡◌, drop}
use Rattle.text_buffer.specs.Filling.{filled_by, with_bytes}
use Rattle.text_buffer.proofs.text.Given as goal

abbrev pub invariant-loop-next : goal.invariant-loop-next
invariant-loop-next l = with_bytes (filled_by l.after l.buffer) (drop l.next-index l.bytes) ≡ with_bytes (filled_by l.filled l.fn.buffer) l.bytes
