-- `panel_and_list::PanelState::open_anew` meets its contract.
use Rattle.panel_and_list.proofs.KeptLaws.{opened_again}
use Rattle.panel_and_list.proofs.PanelState.open_anew.Goals as goal

pub returns : goal.returns
returns g c = opened_again c.args.panel c.opened-again.result c.args.self.now.list.rows c.opened-again.ensures
