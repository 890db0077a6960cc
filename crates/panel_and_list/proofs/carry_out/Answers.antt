-- `panel_and_list::carry_out` meets its contract: a command that was started had a command's frame.
use Rattle.panel_and_list.proofs.KeptLaws.{carried_out}
use Rattle.panel_and_list.proofs.carry_out.Goals as goal

pub returns : goal.returns
returns c =
    let a = c.args in
    let feeds = c.feeds_now-feeds.ensures a.frame.now in
    carried_out a.state.now a.slots.now a.rows.now a.call a.frame.now _ _ _ _ feeds c.apply-done.ensures c.feed_list.ensures c.after-state.ensures
