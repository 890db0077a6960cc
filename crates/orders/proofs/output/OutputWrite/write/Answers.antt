-- Behind the room that was made stands what has room.
use Rattle.std.proofs.Common.{◌≡◌, ℕ, ◌+◌, ◌-◌, ◌≤◌, length, take, sym, ap, ◌∙◌, length-take-le, arith}
use Rattle.text_buffer.specs.Filling.{Filled, filled_by, with_bytes, with_room}
use Rattle.text_buffer.proofs.OutputLaws.{given_behind, room_inside}
use Rattle.orders.proofs.output.OutputWrite.write.Goals as goal

pub returns : goal.returns
returns g c =
    let a = c.args in
    let line = c.if-is_at_line_start.line in
    let used = a.self.now.text.used in
    let bytes = a.self.now.text.bytes in
    let text = take c.min-count.result a.bytes.now in
    let made = c.in_ok-make_room.ensures in
    let few : c.min-count.result ≤ length a.bytes.now = omega (arith, c.min-count.ensures) in
    let seen : c.make_room.new.self ≡ filled_by c.text.inside.used c.text.inside.bytes = sym c.text.view_is in
    let same_use : with_room used (length bytes) line ≡ c.text.inside.used = ap (λ (f : Filled). f.used) (sym made.used ∙ seen) in
    let same_size : length bytes ≡ length c.text.inside.bytes = ap (λ (f : Filled). length f.bytes) (sym made.used ∙ seen) in
    let taken : length text ≡ c.min-count.result = length-take-le c.min-count.result a.bytes.now few in
    let room : with_room used (length bytes) line + length text ≤ length bytes =
    omega (arith, c.min-count.ensures, c.saturating_sub-room.ensures, same_use, same_size, taken, room_inside used bytes line) in
    record {
      bound = few;
      given = given_behind (g.W.Write.contents a.self.now.to) (g.W.Write.contents c.make_room.new.to) used bytes line text made.written room c.push_bytes.new.self (c.push_bytes.ensures ∙ ap (λ (f : Filled). with_bytes f text) made.used);
    }
