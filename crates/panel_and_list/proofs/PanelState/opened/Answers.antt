-- `panel_and_list::PanelState::opened` meets its contract.
use Rattle.plain_rows.specs.Rows.{in_array}
use Rattle.panel_and_list.proofs.KeptLaws.{opened_beside}
use Rattle.panel_and_list.proofs.PanelState.opened.Goals as goal

pub returns : goal.returns
returns g c = opened_beside c.args.panel c.opened-state.result (in_array c.new.result) c.opened-state.ensures c.new.ensures
