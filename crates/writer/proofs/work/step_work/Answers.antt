-- `writer::work::step_work` meets its contract: each part by what the update makes of it.
use Prim.Native.Nat.{◌<◌}
use mathlib.Core.Path.{◌∙◌, ap}
use lib.ListN.{length, get_or}
use native.Mathlib.Omega.{arith}
use Rattle.std.proofs.lemmas.List.{get_or_default}
use Rattle.record.specs.Parts.{unheard_station}
use Rattle.effects.specs.Effects.{station_after}
use Rattle.writer.specs.Work.{station_at}
use Rattle.writer.proofs.WorkLaws.{handed_back, station_at_below}
use Rattle.writer.proofs.work.step_work.Goals as goal

pub returns : goal.returns
returns c =
    let panel = c.args.panel.now in
    let place = station_at panel.writer.work in
    let inside : place < length panel.stations = omega (arith, station_at_below panel.writer.work) in
    let there = rw c.station_at.ensures at c.station_after.ensures in
    let station = there ∙ ap (station_after c.judged_step-after.result.update) (get_or_default panel.stations place _ unheard_station inside) in
    handed_back panel.m panel.reach panel.counts (get_or panel.stations place unheard_station) c.judged_step-after.ensures c.reach_after.ensures c.count_place-at.ensures c.count_after.ensures station
