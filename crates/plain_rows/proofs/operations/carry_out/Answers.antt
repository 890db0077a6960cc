-- `plain_rows::operations::carry_out` meets its contract, by the operation.
use Rattle.std.proofs.Common.{refl}
use Rattle.plain_list.specs.PlainList.{feed}
use Rattle.plain_rows.specs.Rows.{counted}
use Rattle.plain_rows.proofs.FedLaws.{tells_puts}
use Rattle.plain_rows.proofs.operations.carry_out.Goals as goal

pub returns-in-Change : goal.returns-in-Change
unfolding feed
returns-in-Change c =
    let list = counted c.args.rows.now c.args.count.now in
    rw c.in-Change.is (tells_puts list refl c.requires _ _ _ c.change.ensures)

pub returns-in-Removal : goal.returns-in-Removal
unfolding feed
returns-in-Removal c =
    let list = counted c.args.rows.now c.args.count.now in
    rw c.in-Removal.is (tells_puts list refl c.requires _ _ _ c.remove.ensures)
